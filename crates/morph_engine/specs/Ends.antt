-- The outcome of a batch
use Rattle.std.specs.Prelude.{◌≡◌, ℕ, map}
use Rattle.morph_base.specs.Contents.{Contents}
use Rattle.morph_base.specs.Outcomes.{fates}
use Rattle.morph_base.specs.Plans.{IsSettledOf, transactions}
use Rattle.morph_base.specs.States.{State}
use Rattle.morph_base.specs.declared.plan.Plan.{Plan}
use Rattle.morph_base.specs.declared.strategy.Strategy.{Strategy}
use Rattle.op_eval.specs.declared.answers.Left.{Left}
use Rattle.op_words.specs.Closing.{IsClosed}
use Rattle.op_words.specs.Hands.{counts_of}
use Rattle.op_words.specs.declared.trail.View.{View}
use Rattle.morph_engine.specs.Accounts.{IsAccount, account_of}
use Rattle.morph_engine.specs.Caps.{cap_for}
use Rattle.morph_engine.specs.Fates.{settled_fates}
use Rattle.morph_engine.specs.Runs.{run_outcome, HasRun}
use Rattle.morph_engine.specs.declared.engine.BatchEnd.{BatchEnd}

-- The plan was run from state s on, with this strategy and by this many workers. What was settled gives the fate of
-- each event, and the board, the counts and the numbers are those of such a run
pub record IsEnd (p : Plan) (strategy : Strategy) (workers : ℕ) (s : State) (end : BatchEnd) : Type 0 where
  pub plan : end.plan ≡ p
  pub strategy_is : end.strategy ≡ strategy
  pub settled : IsSettledOf p end.settled
  pub fates_are : settled_fates p end.settled ≡ fates s (transactions p)
  pub run : HasRun p strategy.explore strategy.abort workers end.closed (run_outcome (map (λ (l : Contents Left). l.items) end.left.items) end.settled.by.items end.handed end.stolen)
  pub counts : (counters : ℕ) (v : View) (is : IsClosed p (cap_for strategy.abort) counters v end.closed)
      → end.counts ≡ counts_of is.ends.history
  pub account : IsAccount strategy.explore strategy.abort workers (account_of end)
