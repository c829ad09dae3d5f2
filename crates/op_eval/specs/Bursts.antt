-- Numbers that a runner takes one after another, before it tries what they name
use Rattle.std.specs.Prelude.{◌≡◌, ◌<◌, ◌≤◌, ℕ, Bool, true, false, List, [], ◌∷◌, ◌++◌, All, length, reverse}
use Rattle.op_eval.specs.declared.runner.Runner.{Runner}
use Rattle.op_eval.specs.Turns.{CallsInOrder, TakesNumber}

-- A burst: the numbers that name places, in the order in which they were taken, and whether one more was taken that is
-- past the last place
pub record BurstView : Type 0 where
  pub numbers : List ℕ
  pub over : Bool

-- The numbers, the last one first, were taken from counter c, and nothing else of the runner changed
abbrev pub TakesNumbers : ℕ → List ℕ → Runner → Runner → Type 0
TakesNumbers c = CallsInOrder (TakesNumber c)

-- The burst v was taken from counter c, for this many places: as many numbers as it may have at most, or fewer, and
-- then one that is past the last place
pub record TakesBurst (c many most : ℕ) (v : BurstView) (a b : Runner) : Type 0 where
  -- The number past the last place, if one was taken
  pub past : List ℕ
  pub takes : TakesNumbers c (past ++ reverse v.numbers) a b
  pub inside : All (λ n. n < many) v.numbers
  pub few : length v.numbers ≤ most
  pub ended : v.over ≡ true → (x : ℕ) × (past ≡ x ∷ []) × (many ≤ x)
  pub going : v.over ≡ false → (past ≡ []) × (length v.numbers ≡ most)
