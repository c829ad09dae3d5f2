-- How events and operations are numbered: events by rising timestamp, operations by event and then by operation order.
-- The definitions are over functions of a number, so that every structure with such numbers cites the same one
use Rattle.std.specs.Prelude.{◌≡◌, ℕ, ◌+◌, ◌≤◌, ◌<◌}
use Rattle.morph_base.specs.declared.limits.TheConstants.{EVENT_OPS, EVENTS}
use Rattle.morph_base.specs.Limits.{latest_time}
use Rattle.morph_base.specs.declared.operation.Op.{Op}
use Rattle.morph_base.specs.Operations.{IsShaped}

-- Operation o is one of the `many` operations numbered from `start` on
pub record IsWithin (start many o : ℕ) : Type 0 where
  pub from : start ≤ o
  pub below : o < start + many

-- How many events there are, and of each by its number the time, the first operation and the number of operations
pub record EventNumbers : Type 0 where
  pub many : ℕ
  pub ts : ℕ → ℕ
  pub first : ℕ → ℕ
  pub count : ℕ → ℕ

-- The numbers of `many` events, with these times, first operations and numbers of operations
abbrev pub numbers : ℕ → (ts first count : ℕ → ℕ) → EventNumbers
numbers many ts first count = record { many = many; ts = ts; first = first; count = count }

-- The events e stand by rising time, and there are m operations. Operation o is `op o` and belongs to event
-- `event_of o`. Times, counts, shapes and targets are as in valid events
pub record IsNumbering (e : EventNumbers) (m : ℕ) (event_of : ℕ → ℕ) (op : ℕ → Op) : Type 0 where
  pub few : e.many ≤ EVENTS
  pub times : (i : ℕ) → i < e.many → (0 < e.ts i) × (e.ts i ≤ latest_time)
  pub counts : (i : ℕ) → i < e.many → (0 < e.count i) × (e.count i ≤ EVENT_OPS)
  -- Each operation is one of its event's, and of no other event's
  pub placed : (o : ℕ) → o < m → (event_of o < e.many) × IsWithin (e.first (event_of o)) (e.count (event_of o)) o
  pub owned : (i o : ℕ) → i < e.many → IsWithin (e.first i) (e.count i) o → (o < m) × (event_of o ≡ i)
  pub in_order : (o t : ℕ) → o ≤ t → t < m → event_of o ≤ event_of t
  pub rising : (i j : ℕ) → i < j → j < e.many → e.ts i < e.ts j
  -- The targets of an event differ
  pub distinct : (o t : ℕ) → o < m → t < m → event_of o ≡ event_of t → (op o).key ≡ (op t).key → o ≡ t
  pub shaped : (o : ℕ) → o < m → IsShaped (op o)
