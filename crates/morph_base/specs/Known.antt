-- What is known while a plan is being settled: the sources of an operation that already have their values
use Rattle.std.specs.Prelude.{◌≡◌, ℕ, ◌<◌, length}
use Rattle.morph_base.specs.declared.plan.Origin.{Origin}
use Rattle.morph_base.specs.declared.plan.Origin.TheVariants.{Base, Op as Written}
use Rattle.morph_base.specs.declared.plan.Plan.{Plan}
use Rattle.morph_base.specs.Plans.{op_count, keys_of, origin_at, final}

-- A source is known: it is a base, or an operation that `known` holds of
abbrev pub IsKnown : (ℕ → Type 0) → Origin → Type 0
IsKnown known (Base v) = Unit {0}
IsKnown known (Written t) = known t

module _ (p : Plan) (known : ℕ → Type 0) where
  -- All sources of operation o are known
  abbrev pub AreKnown : ℕ → Type 0
  AreKnown o = (j : ℕ) → j < length (keys_of p o) → IsKnown known (origin_at p o j)

  -- Each operation that is known has the fold's value in v
  abbrev pub IsRight : (ℕ → ℕ) → Type 0
  IsRight v = (t : ℕ) → t < op_count p → known t → v t ≡ final p t
