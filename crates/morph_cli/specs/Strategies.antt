-- The strategy of each batch of a run
use Rattle.std.specs.Prelude.{List, [], ◌∷◌}
use Rattle.morph_base.specs.declared.plan.Plan.{Plan}
use Rattle.morph_base.specs.declared.strategy.Strategy.{Strategy}
use Rattle.morph_base.specs.Outcomes.{fates}
use Rattle.morph_base.specs.States.{State, after_all}
use Rattle.morph_base.specs.Transactions.{Transaction, by_time}
use Rattle.decision_model.specs.declared.counts.Last.{Last}
use Rattle.decision_model.specs.Choices.{last_of, profile_of, strategy_for}
use Rattle.run_text.specs.declared.choices.Planning.{Planning}
use Rattle.run_text.specs.declared.choices.Planning.TheVariants.{Fixed, Auto}

-- The outcome of the last of some batches that are run one after another from a state, or of the batch before them
unfoldable pub last_from : State → Last → List (List Transaction) → Last
last_from s last [] = last
last_from s last (batch ∷ batches) = last_from (after_all s (by_time batch)) (last_of (fates s (by_time batch))) batches

-- The strategy of a batch: the one that was asked for, or the one that is chosen for its plan by the outcome of the
-- batch before
abbrev pub strategy_by : Planning → Plan → Last → Strategy
strategy_by (Fixed s) p last = s
strategy_by Auto p last = strategy_for (profile_of p last)
