-- Places of a pass that are taken in bursts, and the units that are walked from them
use Rattle.std.specs.Prelude.{◌≡◌, ℕ, ◌≤◌, List, [], ◌∷◌, length, slice_index_or}
use Rattle.op_eval.specs.declared.runner.Runner.{Runner}
use Rattle.op_eval.specs.Bursts.{BurstView, TakesBurst}
use Rattle.op_eval.specs.Exploring.{RunRules}
use Rattle.abort_eager.specs.Sweeps.{Attempts}
use Rattle.abort_eager.specs.Walks.{WalksUnit}

module _ (rules : RunRules) (ops : List ℕ) where
  -- The units of the operations that these numbers name were walked, in the order of the numbers
  abbrev pub WalksNumbers : List ℕ → Runner → Runner → Type 0
  WalksNumbers [] a b = b ≡ a
  WalksNumbers (n ∷ ns) a b =
      (m : Runner) × WalksUnit (Attempts rules) rules.units (slice_index_or ops n 0) a m × WalksNumbers ns m b

  -- These bursts were taken from counter c, the last one first, each of at least 1 and at most 16 numbers. After each
  -- burst, the units of the operations that its numbers name were walked, in the order in which they were taken
  abbrev pub WalksBursts : (c : ℕ) → List BurstView → Runner → Runner → Type 0
  WalksBursts c [] a b = b ≡ a
  WalksBursts c (v ∷ vs) a b =
      (m : Runner) × (t : Runner) × (most : ℕ) × WalksBursts c vs a m × (1 ≤ most) × (most ≤ 16)
      × TakesBurst c (length ops) most v m t × WalksNumbers v.numbers t b

-- Some bursts of numbers were taken from counter c, and after each the units of the operations that they name were
-- walked
pub record WalksAll (rules : RunRules) (c : ℕ) (ops : List ℕ) (a b : Runner) : Type 0 where
  pub bursts : List BurstView
  pub walks : WalksBursts rules ops c bursts a b
