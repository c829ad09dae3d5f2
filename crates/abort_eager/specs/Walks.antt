-- Walking units: which operations are visited, one after another
use Rattle.std.specs.Prelude.{◌≡◌, ℕ, Bool, true, false, List, [], ◌∷◌, drop, slice_index_or}
use Rattle.chain_units.specs.Places.{StandsAt}
use Rattle.op_eval.specs.declared.answers.Evaluation.{Evaluation}
use Rattle.op_eval.specs.declared.answers.Evaluation.TheVariants.{Evaluated, Blocked, Busy, Already}

-- The test whether an attempt evaluated its operation
abbrev pub has_evaluated : Evaluation → Bool
has_evaluated (Evaluated a x) = true
has_evaluated (Blocked s w) = false
has_evaluated (Busy w) = false
has_evaluated (Already w) = false

module _ {W : Type 0} (visits : (op : ℕ) → (before after : W) → Evaluation → Type 0) where
  -- The operations of the list were visited in turn, until an answer was no evaluation or none was left. None was
  -- visited if `goes_on` is false
  abbrev pub VisitsInTurn : (goes_on : Bool) → List ℕ → W → W → Type 0
  VisitsInTurn goes_on [] a b = b ≡ a
  VisitsInTurn false (o ∷ os) a b = b ≡ a
  VisitsInTurn true (o ∷ os) a b =
      (m : W) × (r : Evaluation) × visits o a m r × VisitsInTurn (has_evaluated r) os m b

  -- The unit of operation o was walked from o on: its operations were visited in turn, from o on
  pub record WalksUnit (units : List (List ℕ)) (o : ℕ) (a b : W) : Type 0 where
    pub unit : ℕ
    pub at : ℕ
    pub stands : StandsAt units unit at o
    pub visited : VisitsInTurn true (drop at (slice_index_or units unit [])) a b
