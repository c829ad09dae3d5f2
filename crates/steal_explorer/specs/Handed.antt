-- What was handed out, as contracts see it
use Rattle.std.specs.Prelude.{◌≡◌, ◌⊎◌, ℕ, ◌+◌, ◌<◌, ◌≤◌, ◌^◌, List, ◌++◌, Contains, length, map, flat_map, sum_by, slice_index_or}
use Rattle.morph_base.specs.declared.plan.Plan.{Plan}
use Rattle.op_words.specs.Trails.{IsReached}
use Rattle.op_eval.specs.declared.runner.Runner.{Runner}
use Rattle.op_eval.specs.Exploring.{total, RunRules}
use Rattle.op_eval.specs.Running.{hand_view}
use Rattle.steal_explorer.specs.declared.deques.Deques.{Deques}
use Rattle.steal_explorer.specs.declared.exploration.Handed.{Handed}
use Rattle.steal_explorer.specs.declared.member.Member.{Member}
use Rattle.steal_explorer.specs.HandingOut.{HasHandedOut}
use Rattle.steal_explorer.specs.Members.{own}
use Rattle.steal_explorer.specs.Seating.{runner_of, seat_of}

-- The workers that handed out
abbrev pub workers_of : Handed → List Member
workers_of handed = handed.workers.value.items

-- The items that the worker pushed
abbrev pub pushed_by : Member → List ℕ
pushed_by m = (own m).pushed

-- The items that were stolen from the worker's deque
abbrev pub stolen_from : Member → List ℕ
stolen_from m = (own m).stolen

-- The items that left the worker's deque for somebody who took them
abbrev pub taken_from : Member → List ℕ
taken_from m = (own m).popped ++ (own m).stolen

-- The items of the worker's deque that were left with nobody
abbrev pub left_in : Member → List ℕ
left_in m = (own m).left

-- All items that were pushed
abbrev pub pushed_of : Handed → List ℕ
pushed_of handed = flat_map pushed_by (workers_of handed)

-- All items that somebody took
abbrev pub taken_of : Handed → List ℕ
taken_of handed = flat_map taken_from (workers_of handed)

-- All items that were stolen
abbrev pub stolen_of : Handed → List ℕ
stolen_of handed = flat_map stolen_from (workers_of handed)

-- All items that were left with nobody
abbrev pub unserved_of : Handed → List ℕ
unserved_of handed = flat_map left_in (workers_of handed)

-- Each of the items was reached in a runner's trail
abbrev pub AreReached : Plan → List ℕ → List Runner → Type 0
AreReached p xs rs =
    (x : ℕ) → Contains xs x
    → (k : ℕ) × (k < length rs) × ((d : Runner) → IsReached p x (hand_view (slice_index_or rs k d)).trail)

-- The answers that the runners count are at least as many as the items that were taken, or one runner's answers are as
-- many as there can be
abbrev pub AreAnswered : List ℕ → List Runner → Type 0
AreAnswered xs rs =
    (length xs ≤ sum_by (λ r. total r.answers) rs)
    ⊎ ((k : ℕ) × (k < length rs) × ((d : Runner) → 2 ^ 64 ≤ total (slice_index_or rs k d).answers + 1))

-- The runners began beside the deques, and took the turns that led to what was handed out
pub record HasTurns (rules : RunRules) (d : Deques) (rs : List Runner) (handed : Handed) : Type 0 where
  pub begun : List Member
  pub runners : map runner_of begun ≡ rs
  pub seats : map seat_of begun ≡ d.seats.items
  pub handed_out : HasHandedOut rules d.thieves.items begun (workers_of handed)
