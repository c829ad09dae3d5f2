-- Handing out the items of one deque: what each hold on it has done, and the rule that all keep
use Rattle.std.specs.Prelude.{◌≡◌, ℕ, ◌+◌, ◌≤◌, List, [], ◌++◌, sum_by}
use mathlib.Core.Option.{some}
use lib.ListN.{get_elem?}
use Rattle.steal_explorer.specs.declared.deque_rule.Log.{Log}

-- How many parts a deque has: 16, one for each worker
abbrev pub whole : ℕ
whole = 16

-- The log of a hold that has this many parts, and pushed, popped, stole and left these items
abbrev pub log : ℕ → List ℕ → List ℕ → List ℕ → List ℕ → Log
log parts pushed popped stolen left =
    record { parts = parts; pushed = pushed; popped = popped; stolen = stolen; left = left }

-- The log after the items xs were pushed
abbrev pub put : Log → List ℕ → Log
put v xs = log v.parts (v.pushed ++ xs) v.popped v.stolen v.left

-- The log after the items xs were popped and taken
abbrev pub got : Log → List ℕ → Log
got v xs = log v.parts v.pushed (v.popped ++ xs) v.stolen v.left

-- The log after the items xs were stolen
abbrev pub stole : Log → List ℕ → Log
stole v xs = log v.parts v.pushed v.popped (v.stolen ++ xs) v.left

-- The log after the items xs were popped and nobody took them
abbrev pub spare : Log → List ℕ → Log
spare v xs = log v.parts v.pushed v.popped v.stolen (v.left ++ xs)

-- What two holds have done together
abbrev pub both : Log → Log → Log
both v w =
    log (v.parts + w.parts) (v.pushed ++ w.pushed) (v.popped ++ w.popped) (v.stolen ++ w.stolen) (v.left ++ w.left)

-- The sum of h over the items that came in by this hold
abbrev pub came : (ℕ → ℕ) → Log → ℕ
came h v = sum_by h v.pushed

-- The sum of h over the items that went out by this hold
abbrev pub gone : (ℕ → ℕ) → Log → ℕ
gone h v = sum_by h v.popped + sum_by h v.stolen + sum_by h v.left

-- The weight 1 of each item, so that a sum counts the items
abbrev pub one : ℕ → ℕ
one x = 1

-- How many parts of the deque the hold has
abbrev pub parts_of : Log → ℕ
parts_of v = v.parts

-- The hold has done nothing
pub record DidNothing (v : Log) : Type 0 where
  pub pushed : v.pushed ≡ []
  pub popped : v.popped ≡ []
  pub stolen : v.stolen ≡ []
  pub left : v.left ≡ []

-- The rule of a deque: whatever items weigh, those that came in weigh as much as those that went out and those that are
-- there. The parts are those of one deque, and a hold without parts has done nothing
pub record Balanced (items : List ℕ) (views : List Log) : Type 0 where
  pub parts : sum_by parts_of views ≡ whole
  pub balance : (h : ℕ → ℕ) → sum_by (came h) views ≡ sum_by (gone h) views + sum_by h items
  pub idle : (k : ℕ) (v : Log) → get_elem? views k ≡ some v → v.parts ≡ 0 → DidNothing v

-- The deque can be empty after a hold on it has done this, if the other holds have done what fits. A hold with all
-- parts learns from this that nothing is there. A hold with fewer parts learns nothing, since it knows nothing of the
-- others
abbrev pub MayBeEmpty : Log → Type 0
MayBeEmpty v = (views : List Log) × (port : ℕ) × Balanced [] views × (get_elem? views port ≡ some v)

-- If the hold has all parts, the items xs that it takes had come in and were still there: whatever items weigh, no more
-- went out with them than came in
abbrev pub MayTake : Log → List ℕ → Type 0
MayTake v xs = v.parts ≡ whole → (h : ℕ → ℕ) → gone h v + sum_by h xs ≤ came h v
