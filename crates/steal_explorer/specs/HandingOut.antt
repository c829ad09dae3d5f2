-- What handing out makes of all workers: their turns, what was taken and what was left
use Rattle.std.specs.Prelude.{◌≡◌, ◌⊎◌, ℕ, ◌+◌, ◌<◌, ◌≤◌, ◌^◌, ◌==◌, cond, List, [], All, length, sum_by, slice_index_or}
use Rattle.morph_base.specs.Plans.{op_count}
use Rattle.op_words.specs.Hands.{up_to}
use Rattle.op_words.specs.Trails.{IsReached}
use Rattle.op_eval.specs.declared.explored.RunEnd.TheVariants.{Drained}
use Rattle.op_eval.specs.Exploring.{total, RunRules}
use Rattle.op_eval.specs.Running.{hand_view}
use Rattle.abort_eager.specs.declared.ground.Ground.{Ground}
use Rattle.steal_explorer.specs.declared.member.Member.{Member}
use Rattle.steal_explorer.specs.Calls.{ServeCall, MakesServeCalls}
use Rattle.steal_explorer.specs.Draining.{in_plan, IsEven}
use Rattle.steal_explorer.specs.Members.{Thief, own, taken_by, IsWorkerOf}
use Rattle.steal_explorer.specs.Turns.{HasTakenTurns}

-- The number 1 if y is operation x, else 0
abbrev pub is_one : ℕ → ℕ → ℕ
is_one x y = cond (y == x) 1 0

-- The sum of h over the items that left the worker's deque for somebody who took them
abbrev pub taken_in : (ℕ → ℕ) → Member → ℕ
taken_in h m = sum_by h (own m).popped + sum_by h (own m).stolen

-- Worker k is before its first turn
pub record IsBeginning (g : Ground) (ts : List Thief) (k : ℕ) (m : Member) : Type 0 where
  pub worker : IsWorkerOf g ts m
  pub number : m.number ≡ k
  pub fresh : (h : ℕ → ℕ) → taken_by h m ≡ 0

-- The workers ms took all their turns, and are ns after all deques were emptied
pub record HasHandedOut (rules : RunRules) (ts : List Thief) (ms ns : List Member) : Type 0 where
  pub len : length ns ≡ length ms
  -- These are the workers when all had returned
  pub returned : List Member
  pub ran : (k : ℕ) (m : Member) → k < length ms
      → HasTakenTurns rules ts (slice_index_or ms k m) (slice_index_or returned k m)
  pub end : (k : ℕ) (m : Member) → k < length ms → (slice_index_or ns k m).end ≡ (slice_index_or returned k m).end
  pub pushed : (k : ℕ) (m : Member) → k < length ms
      → (own (slice_index_or ns k m)).pushed ≡ (own (slice_index_or returned k m)).pushed
  -- What was pushed was taken, or was left with nobody. A worker that is Drained left nothing
  pub even : (k : ℕ) (m : Member) → k < length ms → IsEven (slice_index_or ns k m)
  pub left : (k : ℕ) (m : Member) → k < length ms → (slice_index_or ns k m).end ≡ Drained
      → (own (slice_index_or ns k m)).left ≡ []
  -- Each operation that was taken was reached by a worker
  pub reached : (x : ℕ) → x < op_count rules.plan → 0 < sum_by (taken_in (is_one x)) ns
      → (k : ℕ) × (k < length ms)
      × ((m : Member) → IsReached rules.plan x (hand_view (slice_index_or ns k m).runner).trail)
  pub calls : (k : ℕ) (m : Member) → k < length ms
      → (cs : List ServeCall)
      × MakesServeCalls rules.plan rules.cap cs (slice_index_or ms k m).runner (slice_index_or ns k m).runner
  -- Only the plan's operations were pushed
  pub below : (k : ℕ) (m : Member) → k < length ms
      → All (λ x. x < op_count rules.plan) (own (slice_index_or ns k m)).pushed
  pub handed : (k : ℕ) (m : Member) → k < length ms
      → (slice_index_or ns k m).handed ≡ up_to (length (own (slice_index_or ns k m)).pushed)
  -- What the workers counted as stolen was stolen
  pub stolen : up_to (sum_by (λ (m : Member). m.stolen) ns) ≡ up_to (sum_by (λ m. length (own m).stolen) ns)
  -- If there is one worker, nothing was stolen
  pub unstolen : length ts ≡ 1 → (k : ℕ) (m : Member) → k < length ms → (own (slice_index_or ns k m)).stolen ≡ []
  -- The workers' answers are at least as many as the operations that were taken, or one worker's answers are as many as
  -- there can be
  pub answered : (sum_by (taken_in (in_plan rules.plan)) ns ≤ sum_by (λ m. total m.runner.answers) ns)
      ⊎ ((k : ℕ) × (k < length ns) × ((m : Member) → 2 ^ 64 ≤ total (slice_index_or ns k m).runner.answers + 1))
