-- Inside the crate: where the events of a batch have their operations
use Rattle.std.specs.Prelude.{◌+◌, ◌≤◌, ◌<◌, List, length, All}
use Rattle.morph_base.specs.declared.batch.EventHead.{EventHead}
use Rattle.morph_base.specs.declared.operation.Op.{Op}

-- The operations of the event are in the list, and the place behind them fits into 64 bits
pub record IsHeadInside (ops : List Op) (head : EventHead) : Type 0 where
  pub within : head.first + head.count ≤ length ops
  pub fits : head.first + head.count < 18446744073709551616

-- The operations of all events are in the list, and the places behind them fit into 64 bits
abbrev pub AreInside : List Op → List EventHead → Type 0
AreInside ops heads = All (IsHeadInside ops) heads
