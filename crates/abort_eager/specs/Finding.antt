-- Inside the crate: what is found in a plan from a position on
use Rattle.std.specs.Prelude.{◌≡◌, ◌≢◌, ℕ, ◌+◌, ◌-◌, ◌≤◌, ◌<◌, ◌⊎◌, true, false, List, [], ◌∷◌, Contains, Option, Some, None}
use Rattle.morph_base.specs.declared.plan.Plan.{Plan}
use Rattle.morph_base.specs.Plans.{op_count}
use Rattle.morph_base.specs.Graphs.{reads_from}
use Rattle.interleaving_core.specs.Core.{places}
use Rattle.abort_eager.specs.declared.answers.Target.TheVariants.{RollBack}
use Rattle.abort_eager.specs.Targets.{place_targets, sibling_targets}

-- The answer is the first number of the list that is not below `from`, if there is one
abbrev pub IsFirstAt : List ℕ → ℕ → Option ℕ → Type 0
IsFirstAt xs from None = (x : ℕ) → Contains xs x → x < from
IsFirstAt xs from (Some y) = Contains xs y × (from ≤ y) × ((x : ℕ) → Contains xs x → x < y → x < from)

-- The answer is the lesser of two numbers, each of which may be missing
abbrev pub IsLesser : Option ℕ → Option ℕ → Option ℕ → Type 0
IsLesser None b r = r ≡ b
IsLesser (Some x) None r = r ≡ Some x
IsLesser (Some x) (Some y) r = ((x ≤ y) × (r ≡ Some x)) ⊎ ((y ≤ x) × (r ≡ Some y))

module _ (p : Plan) (first end from : ℕ) where
  -- No operation from `from` up to `to` reads from one of the operations from `first` up to `end`
  abbrev pub AreNone : ℕ → Type 0
  AreNone to = (t k : ℕ) → from ≤ t → t < to → first ≤ k → k < end → reads_from p k t ≡ false

  -- Operation q is the first one from `from` on that reads from one of the operations from `first` up to `end`
  pub record IsReaderOfFirst (q : ℕ) : Type 0 where
    pub low : from ≤ q
    pub in_range : q < op_count p
    pub source : ℕ
    pub from_first : first ≤ source
    pub below_end : source < end
    pub reads : reads_from p source q ≡ true
    pub none : AreNone q

  -- The answer is the first operation from `from` on that reads from one of the operations from `first` up to `end`, if
  -- there is one
  abbrev pub IsFirstReader : Option ℕ → Type 0
  IsFirstReader None = AreNone (op_count p)
  IsFirstReader (Some q) = IsReaderOfFirst q

-- The answer is the first place of operation q, from `from` on, that reads from one of the operations from `first` up
-- to `end`, if there is one
abbrev pub IsFirstPlace : Plan → ℕ → ℕ → ℕ → ℕ → Option ℕ → Type 0
IsFirstPlace p first end q from None = place_targets p first end q from (places p q - from) ≡ []
IsFirstPlace p first end q from (Some j) =
    (j < places p q) × (j < 255)
    × (place_targets p first end q from (places p q - from)
    ≡ RollBack q j ∷ place_targets p first end q (j + 1) (places p q - (j + 1)))

-- The number r is the first one from `from` on that is not o, or the end
pub record IsSiblingFrom (o from end r : ℕ) : Type 0 where
  pub low : from ≤ r
  pub high : r ≤ end
  pub other : r < end → r ≢ o
  pub skipped : sibling_targets o from (end - from) ≡ sibling_targets o r (end - r)
