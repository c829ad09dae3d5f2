-- The state after the batches of a list of plans
use Rattle.std.specs.Prelude.{◌≡◌, ◌++◌, List, fold}
use Rattle.morph_base.specs.declared.plan.Plan.{Plan}
use Rattle.morph_base.specs.Plans.{transactions}
use Rattle.morph_base.specs.States.{State, opening_state, after_all}

-- The state after one more batch
abbrev pub after_plan : State → Plan → State
after_plan s p = after_all s (transactions p)

-- The state after all plans of a list, from the state at the start
abbrev pub after_plans : List Plan → State
after_plans plans = fold after_plan opening_state plans

-- The list begins with the plans of `front`
abbrev pub StartsWith : List Plan → List Plan → Type 0
StartsWith plans front = (rest : List Plan) × (plans ≡ front ++ rest)
