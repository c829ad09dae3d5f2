-- Events tried in turn, by runners that take their numbers from counters
use Rattle.std.specs.Prelude.{◌≡◌, ℕ, ◌+◌, ◌<◌, ◌≤◌, ◌⊎◌, ◌^◌, true, false, if◌then◌else◌, nat_lt, ◌==◌, List, [], ◌∷◌, ◌++◌, Contains, None, All, length, min, slice_index_or, sum_by}
use Rattle.morph_base.specs.declared.plan.Plan.{Plan}
use Rattle.morph_base.specs.Plans.{event_at, event_count}
use Rattle.op_words.specs.declared.board.Board.{Board}
use Rattle.op_words.specs.Counting.{place, times}
use Rattle.op_words.specs.Hands.{plan_of, counters_of, IsHandOf}
use Rattle.op_words.specs.Views.{IsLone}
use Rattle.op_eval.specs.declared.answers.Evaluation.{Evaluation}
use Rattle.op_eval.specs.declared.answers.Left.{Left}
use Rattle.op_eval.specs.declared.runner.Runner.{Runner}
use Rattle.op_eval.specs.Exploring.{Unused}
use Rattle.op_eval.specs.Running.{hand_view}
use Rattle.op_eval.specs.Turns.{CallsInOrder, IsEnough, TakingCall, Took, Tried, MakesTakingCall}
use Rattle.abort_lazy.specs.declared.run.level.Sweep.{Sweep}
use Rattle.abort_lazy.specs.declared.transaction.TxnAnswer.{TxnAnswer}
use Rattle.abort_lazy.specs.declared.transaction.TxnAnswer.TheVariants.{Settled as AllSettled, NotYet, Busy}
use Rattle.abort_lazy.specs.Transactions.{TxnDoes, counted_all}

-- What is kept of an answer: nothing if all is settled, else its cause
abbrev pub left_of : ℕ → TxnAnswer → List Left
left_of i (AllSettled committed) = []
left_of i (NotYet at w) = record { event = i; at = at; word = w; busy = false } ∷ []
left_of i (Busy at w) = record { event = i; at = at; word = w; busy = true } ∷ []

-- The runner tried event i. It keeps the cause if the event was not settled, and counted what `evaluate` and `redo`
-- answered on the way
pub record HasTriedOne (p : Plan) (i : ℕ) (a b : Runner) : Type 0 where
  pub answer : TxnAnswer
  pub does : TxnDoes p i (hand_view a) (hand_view b) answer
  pub evaluations : List Evaluation
  pub few : length evaluations ≤ (event_at p i).count
  pub counts : b.answers ≡ counted_all evaluations a.answers
  pub kept : b.kept.items ≡ a.kept.items ++ left_of i answer
  pub room : a.kept.room ≤ b.kept.room + 1

-- The call led from runner a to runner b: the runner took a number, or tried an event
abbrev pub MakesCall : Plan → TakingCall → Runner → Runner → Type 0
MakesCall p = MakesTakingCall (λ i a b. (i < event_count p) × HasTriedOne p i a b)

-- The calls, the last one first, led from runner a to runner b
abbrev pub MakesCalls : Plan → List TakingCall → Runner → Runner → Type 0
MakesCalls p = CallsInOrder (MakesCall p)

-- The weight of the event that the call tried
abbrev pub tried_by : (ℕ → ℕ) → TakingCall → ℕ
tried_by weight (Took c n) = 0
tried_by weight (Tried i) = weight i

-- The weight of the number that the call took from counter c
abbrev pub taken_by : ℕ → (ℕ → ℕ) → TakingCall → ℕ
taken_by c weight (Took k n) = if k == c then weight n else 0
taken_by c weight (Tried i) = 0

-- The weight of the event with this number among these, or 0 past the last one
abbrev pub weight_at : List ℕ → (ℕ → ℕ) → ℕ → ℕ
weight_at events weight n = if nat_lt n (length events) then weight (slice_index_or events n 0) else 0

-- The board has the plan and the counter, and the events are the plan's
pub record FitsBoard (b : Board) (p : Plan) (c : ℕ) (events : List ℕ) : Type 0 where
  pub plan : p ≡ plan_of b
  pub counter : c < counters_of b
  pub inside : All (λ i. i < event_count p) events
  pub few : length events < 2 ^ 32

-- The runner holds nothing, took no number from the counter, and has room for what the events leave
pub record CanSweep (b : Board) (c : ℕ) (events : List ℕ) (r : Runner) : Type 0 where
  pub hand : IsHandOf b r.hand
  pub free : (hand_view r).claim ≡ None
  pub unused : Unused c r
  pub room : length events ≤ r.kept.room

-- The runner took numbers from the counter, and tried the events of these numbers, each as often as its number was
-- taken, and no others
pub record Swept (p : Plan) (c : ℕ) (events : List ℕ) (a b : Runner) : Type 0 where
  pub calls : List TakingCall
  pub made : MakesCalls p calls a b
  pub only : (k n : ℕ) → Contains calls (Took k n) → k ≡ c
  pub tried :
      (n : ℕ) → Contains calls (Took c n) → n < length events → Contains calls (Tried (slice_index_or events n 0))
  pub inside : (i : ℕ) → Contains calls (Tried i)
      → (n : ℕ) × (n < length events) × (slice_index_or events n 0 ≡ i) × Contains calls (Took c n)
  pub turns : (weight : ℕ → ℕ) → sum_by (tried_by weight) calls ≡ sum_by (taken_by c (weight_at events weight)) calls
  pub room : a.kept.room ≤ b.kept.room + length events
  -- A lone root takes the numbers from 0 on
  pub whole : IsLone (hand_view a) → (n : ℕ) → n < times c (hand_view b).places → Contains calls (Took c n)

-- The runner saw the counter run out. A lone root took at least as many numbers as there are events
pub record IsThrough (c : ℕ) (events : List ℕ) (a b : Runner) : Type 0 where
  pub enough : IsEnough c (length events) b
  pub alone : IsLone (hand_view a) → length events ≤ times c (hand_view b).places

-- The runner took numbers and tried events until it saw the counter run out
pub record HasSwept (s : Sweep) (before after : Runner) : Type 0 where
  pub hand : IsHandOf s.board.now after.hand
  pub swept : Swept s.plan.now s.counter s.events.now before after
  pub through : IsThrough s.counter s.events.now before after

-- The runner is going over a part of a level. It took this many numbers from the counter, all of them below `next`, and
-- tried the events of those that name one, but for the numbers in `rest`, which are still to come
pub record IsSweeping (p : Plan) (c : ℕ) (events : List ℕ) (taken next : ℕ) (rest : List ℕ) (before now : Runner)
    : Type 0 where
  pub calls : List TakingCall
  pub made : MakesCalls p calls before now
  pub only : (k n : ℕ) → Contains calls (Took k n) → k ≡ c
  pub tried : (n : ℕ) → Contains calls (Took c n) → n < length events
      → Contains rest n ⊎ Contains calls (Tried (slice_index_or events n 0))
  pub inside : (i : ℕ) → Contains calls (Tried i)
      → (n : ℕ) × (n < length events) × (slice_index_or events n 0 ≡ i) × Contains calls (Took c n)
  pub pending : (n : ℕ) → Contains rest n → Contains calls (Took c n)
  pub turns : (weight : ℕ → ℕ)
      → sum_by (tried_by weight) calls + sum_by (weight_at events weight) rest
      ≡ sum_by (taken_by c (weight_at events weight)) calls
  pub count : times c (hand_view now).places ≡ taken
  pub last : (next ≡ 0) ⊎ ((n : ℕ) × Contains (hand_view now).places (place c n) × (next ≡ n + 1))
  pub risen : taken ≤ next
  pub room : before.kept.room + length rest ≤ now.kept.room + min taken (length events)
  -- A lone root takes the numbers from 0 on
  pub alone : IsLone (hand_view before) → next ≡ taken
  pub whole : IsLone (hand_view before) → (n : ℕ) → n < taken → Contains calls (Took c n)
