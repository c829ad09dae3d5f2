-- Levels that are cut into parts, each with a counter of its own
use Rattle.std.specs.Prelude.{ℕ, ◌+◌, ◌*◌, ◌/◌, ◌%◌, ◌≤◌, List, drop, length, min, take}
use Rattle.worker_gate.specs.declared.parts.Shares.{Shares}

-- Each thread has workers, and a level has 1 to 4 parts
pub record AreShares (s : Shares) : Type 0 where
  pub each : 1 ≤ s.each
  pub some : 1 ≤ s.parts
  pub few : s.parts ≤ 4

-- The part that the worker of a number begins with. Workers of one thread begin with the same one
abbrev pub own_part : Shares → (number : ℕ) → ℕ
own_part s number = number / s.each % s.parts

-- The part that the worker is at in this turn, from 0 on: from its own part on, in a circle
abbrev pub part_at : Shares → (number turn : ℕ) → ℕ
part_at s number turn = (own_part s number + turn) % s.parts

-- The length of a part: that of the list by the number of parts, rounded up
abbrev pub part_size : {X : Type 0} → List X → (parts : ℕ) → ℕ
part_size xs parts = length xs / parts + min 1 (length xs % parts)

-- The items of this part, from 0 on. The last parts may be shorter, or empty
abbrev pub part_items : {X : Type 0} → List X → (parts part : ℕ) → List X
part_items xs parts part = take (part_size xs parts) (drop (part_size xs parts * part) xs)

-- The counter of a part of the stage with this number, from 0 on
abbrev pub part_counter : (parts stage part : ℕ) → ℕ
part_counter parts stage part = stage * parts + part

-- What this counter is for, if each stage has a list, and the parts of each list have counters of their own
abbrev pub parted : {X : Type 0} → (list : ℕ → List X) → (parts counter : ℕ) → List X
parted list parts counter = part_items (list (counter / parts)) parts (counter % parts)
