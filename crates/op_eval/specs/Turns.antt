-- What calls of the board make of a runner, one after another
use Rattle.std.specs.Prelude.{◌≡◌, ℕ, ◌+◌, ◌≤◌, ◌⊎◌, List, [], ◌∷◌, Contains}
use Rattle.op_words.specs.Counting.{place, taking, IsNumberTaken}
use Rattle.op_eval.specs.declared.runner.Runner.{Runner}
use Rattle.op_eval.specs.Running.{hand_view}

-- The calls, the last one first, lead from runner a to runner b: each makes of a runner what the relation says
abbrev pub CallsInOrder : {C : Type 0} → (C → Runner → Runner → Type 0) → List C → Runner → Runner → Type 0
CallsInOrder makes [] a b = b ≡ a
CallsInOrder makes (c ∷ cs) a b = (m : Runner) × CallsInOrder makes cs a m × makes c m b

-- The number n was taken from counter c, and nothing else of the runner changed
pub record TakesNumber (c n : ℕ) (a b : Runner) : Type 0 where
  pub view : hand_view b ≡ taking c n (hand_view a)
  pub takes : IsNumberTaken c n (hand_view a)
  pub answers : b.answers ≡ a.answers
  pub kept : b.kept ≡ a.kept

-- The runner saw counter c run out: it took the last of this many numbers or a later one, or there are none
abbrev pub IsEnough : ℕ → ℕ → Runner → Type 0
IsEnough c many r = (many ≡ 0) ⊎ ((n : ℕ) × Contains (hand_view r).places (place c n) × (many ≤ n + 1))

-- A runner that takes numbers from counters took one, or tried what it names: an operation or an event
pub data TakingCall : Type 0 where
  Took : (counter number : ℕ) → TakingCall
  Tried : (item : ℕ) → TakingCall

-- The call led from runner a to runner b: the runner took a number, or tried an item as the relation says
abbrev pub MakesTakingCall : (ℕ → Runner → Runner → Type 0) → TakingCall → Runner → Runner → Type 0
MakesTakingCall tries (Took c n) a b = TakesNumber c n a b
MakesTakingCall tries (Tried i) a b = tries i a b
