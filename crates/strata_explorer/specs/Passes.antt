-- What a pass over a level makes of runners
use Rattle.std.specs.Prelude.{◌≡◌, ℕ, ◌+◌, ◌<◌, ◌≤◌, ◌^◌, ◌⊎◌, Bool, true, false, List, Contains, All, length, count_by, slice_index_or, nat_lt}
use Rattle.morph_base.specs.declared.plan.Plan.{Plan}
use Rattle.morph_base.specs.Plans.{op_count}
use Rattle.op_words.specs.declared.board.Board.{Board}
use Rattle.op_words.specs.Counting.{place, times}
use Rattle.op_eval.specs.Exploring.{RunRules, rules_on}
use Rattle.abort_eager.specs.Sweeps.{IsLike}
use Rattle.op_eval.specs.declared.runner.Runner.{Runner}
use Rattle.op_eval.specs.Running.{hand_view}
use Rattle.op_eval.specs.Turns.{IsEnough, TakingCall, Took, Tried}
use Rattle.worker_gate.specs.Sharing.{shared_from}
use Rattle.strata_explorer.specs.declared.course.Course.{Course}
use Rattle.strata_explorer.specs.Calls.{MakesPassCalls}
use Rattle.strata_explorer.specs.Walks.{WalksAll}

-- The test whether a call tried an operation
abbrev pub is_tried : TakingCall → Bool
is_tried (Took c n) = false
is_tried (Tried o) = true

-- The test whether a call took a number below this length, which names an operation of the pass
abbrev pub names : ℕ → TakingCall → Bool
names len (Took c n) = nat_lt n len
names len (Tried o) = false

-- The rules of a run on this board, by what its passes share
abbrev pub course_rules : {G : Type 0} → Board → Course G → RunRules
course_rules b c = rules_on b c.plan.now c.units.now.units c.abort

-- The operations of the pass are the plan's
pub record FitsPass (p : Plan) (ops : List ℕ) : Type 0 where
  pub few : length ops < 2 ^ 32
  pub inside : All (λ o. o < op_count p) ops

-- The first runner is the same as far as contracts see it, and the others are the same
pub record AreLike (before after : List Runner) : Type 0 where
  pub len : length after ≡ length before
  pub first : (d : Runner) → IsLike (slice_index_or before 0 d) (slice_index_or after 0 d)
  pub others : (k : ℕ) (d : Runner) → 0 < k → slice_index_or after k d ≡ slice_index_or before k d

-- The runner took numbers from counter c alone, and tried each operation that they name
pub record Worked (rules : RunRules) (c : ℕ) (ops : List ℕ) (a b : Runner) : Type 0 where
  pub calls : List TakingCall
  pub made : MakesPassCalls rules calls a b
  pub only : (k n : ℕ) → Contains calls (Took k n) → k ≡ c
  pub tried : (n : ℕ) → Contains calls (Took c n) → n < length ops → Contains calls (Tried (slice_index_or ops n 0))
  pub counted : count_by (names (length ops)) calls ≤ count_by is_tried calls

-- The runner has taken this many numbers so far, and each of them names an operation
pub record IsWorking (rules : RunRules) (c : ℕ) (ops : List ℕ) (turn : ℕ) (a b : Runner) : Type 0 where
  pub worked : Worked rules c ops a b
  pub turns : times c (hand_view b).places ≡ turn
  pub last : (turn ≡ 0) ⊎ ((n : ℕ) × Contains (hand_view b).places (place c n) × (turn ≤ n + 1) × (n < length ops))

-- A pass was made over the operations ops: each runner took numbers and walked the units of the operations that they
-- name, and one of them saw the counter run out. If the level is shared, each of them did; else only the first took
-- part
pub record IsPassed (rules : RunRules) (c : ℕ) (ops : List ℕ) (before after : List Runner) : Type 0 where
  pub len : length after ≡ length before
  pub each : (k : ℕ) (d : Runner) → k < length before
      → Worked rules c ops (slice_index_or before k d) (slice_index_or after k d)
  pub walks : (k : ℕ) (d : Runner) → k < length before
      → WalksAll rules c ops (slice_index_or before k d) (slice_index_or after k d)
  pub enough : (k : ℕ) × (k < length before) × ((d : Runner) → IsEnough c (length ops) (slice_index_or after k d))
  pub first : length ops < shared_from → (k : ℕ) (d : Runner) → 0 < k → k < length before
      → slice_index_or after k d ≡ slice_index_or before k d
  pub shared : shared_from ≤ length ops → (k : ℕ) (d : Runner) → k < length before
      → IsEnough c (length ops) (slice_index_or after k d)
