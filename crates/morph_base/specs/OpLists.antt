-- What contracts see of the operations of a plan
use Rattle.std.specs.Prelude.{ℕ, List, length, take, slice_set}
use Rattle.std.specs.List.{sum_by}
use Rattle.morph_base.specs.declared.operation.Op.{Op}
use Rattle.morph_base.specs.declared.plan.Origin.{Origin}
use Rattle.morph_base.specs.declared.plan.PlanOp.{PlanOp}
use Rattle.morph_base.specs.Operations.{reads}

-- The operations in order, and behind them those that are to come: they are known, and their events are still to be said
pub record OpList : Type 0 where
  pub items : List PlanOp
  pub coming : List Op

-- The operation with another source at place j
abbrev pub with_origin : PlanOp → ℕ → Origin → PlanOp
with_origin q j origin = record q { origins = slice_set q.origins j origin }

-- The list with these parts
abbrev pub op_list : (items : List PlanOp) (coming : List Op) → OpList
op_list items coming = record { items = items; coming = coming }

-- How many places the operations before o read
abbrev pub places_before : List PlanOp → ℕ → ℕ
places_before qs o = sum_by (λ (q : PlanOp). length (reads q.op)) (take o qs)
