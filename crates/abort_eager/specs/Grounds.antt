-- What workers share while they explore a batch
use Rattle.std.specs.Prelude.{◌≡◌, ℕ, ◌<◌}
use Rattle.morph_base.specs.declared.strategy.Abort.TheVariants.{Eager}
use Rattle.morph_base.specs.Graphs.{IsValidPlan}
use Rattle.morph_base.specs.Readers.{dependents_of}
use Rattle.morph_base.specs.Plans.{op_count}
use Rattle.chain_units.specs.Places.{IsPartition}
use Rattle.op_words.specs.Hands.{plan_of}
use Rattle.op_eval.specs.declared.runner.Runner.{Runner}
use Rattle.op_eval.specs.Exploring.{RunRules, rules_on}
use Rattle.op_eval.specs.Running.{IsFreeRunner}
use Rattle.abort_eager.specs.declared.ground.Ground.{Ground}

-- The plan is the board's and valid, the units are the plan's, and under eager abort the dependents are the plan's too
pub record IsGround (g : Ground) : Type 0 where
  pub plan : g.plan.now ≡ plan_of g.board.now
  pub valid : IsValidPlan g.plan.now
  pub units : IsPartition g.units.now.units (op_count g.plan.now)
  pub number : g.units.now.ops ≡ op_count g.plan.now
  pub dependents : g.abort ≡ Eager → g.dependents.now ≡ dependents_of g.plan.now

-- Operation o may be tried by a runner on this ground: the runner's hand holds nothing, and the plan has the operation
abbrev pub MayTry : Ground → Runner → (o : ℕ) → Type 0
MayTry g r o = IsGround g × (o < op_count g.plan.now) × IsFreeRunner g.board.now r

-- The rules that workers with this ground go by
abbrev pub ground_rules : Ground → RunRules
ground_rules g = rules_on g.board.now g.plan.now g.units.now.units g.abort
