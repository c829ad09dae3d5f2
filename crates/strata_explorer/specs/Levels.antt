-- The levels of a plan, and what exploring them makes of runners
use Rattle.std.specs.Prelude.{◌≡◌, ℕ, ◌+◌, ◌*◌, ◌≤◌, ◌<◌, ◌==◌, ◌^◌, ◌⊎◌, if◌then◌else◌, List, [], ◌∷◌, Contains, map, count_by, sum_by, nat_lt, length, slice_index_or}
use Rattle.morph_base.specs.declared.plan.Plan.{Plan}
use Rattle.morph_base.specs.declared.strategy.Abort.TheVariants.{Eager}
use Rattle.morph_base.specs.Plans.{op_count}
use Rattle.interleaving_core.specs.Counts.{rolled}
use Rattle.op_words.specs.declared.trail.Place.{Place}
use Rattle.op_words.specs.Counting.{place}
use Rattle.op_words.specs.Trails.{IsReached, IsSourceOf}
use Rattle.op_words.specs.Views.{IsLone}
use Rattle.op_eval.specs.declared.runner.Runner.{Runner}
use Rattle.op_eval.specs.Alone.{Ran, NotBegun}
use Rattle.op_eval.specs.Exploring.{IsExploring, Unused, total, RunRules}
use Rattle.op_eval.specs.Running.{hand_view}
use Rattle.op_eval.specs.Turns.{IsEnough}
use Rattle.strata_explorer.specs.Passes.{FitsPass, IsPassed}

-- How many counters a board has for the passes over a plan: 4 for each level, and 64 more
abbrev pub counters_for : Plan → ℕ
counters_for p = 4 * length p.op_levels.items + 64

-- The operations of the level of this number, from 0 on
abbrev pub ops_of : Plan → ℕ → List ℕ
ops_of p l = slice_index_or (map (λ list. list.items) p.op_levels.items) l []

-- The operation with number n in this level
abbrev pub op_of : Plan → ℕ → ℕ → ℕ
op_of p l n = slice_index_or (ops_of p l) n 0

-- The level of pass k, if passes were made over these levels, the last one first. A pass takes its numbers from the
-- counter of its own number
abbrev pub level_of : List ℕ → ℕ → ℕ
level_of [] k = 0
level_of (l ∷ ls) k = if k == length ls then l else level_of ls k

-- The operations of pass k
abbrev pub passed_ops : Plan → (levels : List ℕ) → (k : ℕ) → List ℕ
passed_ops p ls k = ops_of p (level_of ls k)

-- How many of the numbers taken name an operation, if each counter has a list of operations
abbrev pub named : (list : ℕ → List ℕ) → List Place → ℕ
named list xs = count_by (λ x. nat_lt x.number (length (list x.counter))) xs

-- How many operations the runners rolled back
abbrev pub rolled_by : List Runner → ℕ
rolled_by rs = sum_by (λ r. rolled (hand_view r).events) rs

-- The levels are those of a valid plan: they have all of the plan's operations, and sources are in lower levels
pub record AreLevels (p : Plan) : Type 0 where
  pub few : length p.op_levels.items ≤ op_count p
  pub fits : (l : ℕ) → FitsPass p (ops_of p l)
  pub sources : (l n s : ℕ) → n < length (ops_of p l) → IsSourceOf p (op_of p l n) s
      → (k : ℕ) × (m : ℕ) × (k < l) × (m < length (ops_of p k)) × (op_of p k m ≡ s)
  pub all : (o : ℕ) → o < op_count p
      → (l : ℕ) × (n : ℕ) × (l < length p.op_levels.items) × (n < length (ops_of p l)) × (op_of p l n ≡ o)

-- The runner took numbers from these counters, each of which has a list of operations: each operation that its numbers
-- name was reached in its own trail, and it has at least as many answers. It took no number from a later counter
pub record HasReached (p : Plan) (counters : ℕ) (list : ℕ → List ℕ) (r : Runner) : Type 0 where
  pub exploring : IsExploring p r
  pub walked : (c n : ℕ) → Contains (hand_view r).places (place c n) → n < length (list c)
      → IsReached p (slice_index_or (list c) n 0) (hand_view r).trail
  pub unused : (c : ℕ) → counters ≤ c → Unused c r
  pub counted : (named list (hand_view r).places ≤ total r.answers) ⊎ (2 ^ 64 ≤ total r.answers + 1)

-- Each runner took numbers from these counters, and one of them saw each counter run out
pub record HaveReached (p : Plan) (counters : ℕ) (list : ℕ → List ℕ) (rs : List Runner) : Type 0 where
  pub each : (k : ℕ) (d : Runner) → k < length rs → HasReached p counters list (slice_index_or rs k d)
  pub enough : (c : ℕ) → c < counters
      → (k : ℕ) × (k < length rs) × ((d : Runner) → IsEnough c (length (list c)) (slice_index_or rs k d))

-- The runner has made passes over these levels, the last one first, each by the counter of its own number
abbrev pub IsStrata : Plan → (levels : List ℕ) → Runner → Type 0
IsStrata p ls = HasReached p (length ls) (passed_ops p ls)

-- Each runner has made passes over these levels, and for each pass one of them saw its counter run out
abbrev pub AreStrata : Plan → (levels : List ℕ) → List Runner → Type 0
AreStrata p ls = HaveReached p (length ls) (passed_ops p ls)

module _ (rules : RunRules) where
  -- A pass over level l may come after passes over these levels, the last one first. The first pass is over the lowest
  -- level, and each other one over the level above the one before. Under eager abort it may also be over that level or
  -- a lower one, if an operation was rolled back in the pass before
  abbrev pub FollowsPass : (l : ℕ) → List ℕ → (before now : List Runner) → Type 0
  FollowsPass l [] before now = l ≡ 0
  FollowsPass l (k ∷ ks) before now =
      (l ≡ k + 1) ⊎ ((rules.abort ≡ Eager) × (l ≤ k + 1) × (rolled_by before < rolled_by now))

  -- Passes over these levels were made, the last one first. The last one found the runners as `before`
  unfoldable pub Passes : List ℕ → (start before now : List Runner) → Type 0
  Passes [] start before now = now ≡ start
  Passes (l ∷ ls) start before now =
      (earlier : List Runner) × Passes ls start earlier before × FollowsPass l ls earlier before
      × IsPassed rules (length ls) (ops_of rules.plan l) before now

-- The lone root has gone over the levels below this one: their operations have run at attempt 1, and each
-- other operation has run so or was not begun
pub record IsLoneStrata (p : Plan) (level : ℕ) (r : Runner) : Type 0 where
  pub lone : IsLone (hand_view r)
  pub exploring : (o : ℕ) → NotBegun (hand_view r).trail o ⊎ Ran (hand_view r).trail o
  pub ran : (l n : ℕ) → l < level → n < length (ops_of p l) → Ran (hand_view r).trail (op_of p l n)

-- If the runners are one lone root that begins, it goes on alone
abbrev pub IsAlone : Plan → (level : ℕ) → List Runner → List Runner → Type 0
IsAlone p level start rs =
    length start ≡ 1 → (d : Runner) → IsLoneStrata p 0 (slice_index_or start 0 d)
    → IsLoneStrata p level (slice_index_or rs 0 d)

-- The numbers of counter c that runners took are those below some number
pub record IsWholeCounter (c : ℕ) (rs : List Runner) : Type 0 where
  pub end : ℕ
  pub below :
      (k : ℕ) (d : Runner) → k < length rs → (n : ℕ) → Contains (hand_view (slice_index_or rs k d)).places (place c n)
      → n < end
  pub taken : (n : ℕ) → n < end
      → (k : ℕ) × (k < length rs) × ((d : Runner) → Contains (hand_view (slice_index_or rs k d)).places (place c n))
