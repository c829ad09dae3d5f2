-- Inside the crate: the arrays of `EventOps` as what contracts see, and what is true of them
use Rattle.std.specs.Prelude.{◌≡◌, ◌*◌, ◌≤◌, List, length, take}
use Rattle.morph_base.specs.declared.limits.TheConstants.{EVENT_OPS, READS}
use Rattle.morph_base.specs.declared.operation.Op.{Op}
use Rattle.morph_base.specs.declared.event_ops.TheConstants.{EVENT_KEYS}
use Rattle.morph_base.specs.declared.event_ops.EventOps.TheInside.{Inside}
use Rattle.morph_base.specs.RowViews.{row_ops, AreKeyRows}

-- The operations that stand in the places in use
abbrev pub ops_of_event : Inside → List Op
ops_of_event s = row_ops (take s.count s.heads) (take s.used s.keys) (take s.limited s.limits)

-- The places in use hold rows, and the arrays have as many places as they always have
pub record AreEventOps (s : Inside) : Type 0 where
  pub rows : AreKeyRows (take s.count s.heads) (take s.used s.keys) (take s.limited s.limits)
  pub count : s.count ≤ EVENT_OPS
  pub used : s.used ≤ READS * s.count
  pub limited : s.limited ≤ s.count
  pub heads : length s.heads ≡ EVENT_OPS
  pub keys : length s.keys ≡ EVENT_KEYS
  pub limits : length s.limits ≡ EVENT_OPS
