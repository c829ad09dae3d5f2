-- Clean assignments of values to operations and of verdicts to events. They name no order of execution. The law of
-- clean assignments says that only the fold's values and verdicts are one
use Rattle.std.specs.Prelude.{◌≡◌, ℕ, ◌<◌, Bool, true, false, map, Option, Some, None}
use Rattle.morph_base.specs.declared.plan.Origin.{Origin}
use Rattle.morph_base.specs.declared.plan.Origin.TheVariants.{Base, Op as Written}
use Rattle.morph_base.specs.declared.plan.Plan.{Plan}
use Rattle.morph_base.specs.Functions.{value_of}
use Rattle.morph_base.specs.Plans.{event_count, op_at, origin_at, origins_of, InEvent}

-- The value of a source if operations have the values v. A base has its own value
abbrev pub from : (ℕ → ℕ) → Origin → ℕ
from v (Base b) = b
from v (Written s) = v s

module _ (p : Plan) (v : ℕ → ℕ) where
  -- The value of the source at place j of operation o, if operations have the values v
  abbrev pub source : ℕ → ℕ → ℕ
  source o j = from v (origin_at p o j)

  -- What operation o answers on the values of its sources; None if it fails
  abbrev pub outcome : ℕ → Option ℕ
  outcome o = value_of (op_at p o).op (map (from v) (origins_of p o))

  -- Each operation of event i has its answer as its value
  pub record IsCommitted (i : ℕ) : Type 0 where
    pub each : (o : ℕ) → InEvent p i o → outcome o ≡ Some (v o)

  -- One operation of event i fails, and each one has the value of its target's source
  pub record IsAborted (i : ℕ) : Type 0 where
    pub culprit : ℕ
    pub inside : InEvent p i culprit
    pub fails : outcome culprit ≡ None
    pub carries : (o : ℕ) → InEvent p i o → v o ≡ source o 0

  -- Event i is committed if the verdict is true, and aborted if it is false
  abbrev pub HasVerdict : ℕ → Bool → Type 0
  HasVerdict i true = IsCommitted i
  HasVerdict i false = IsAborted i

-- Each event is committed or aborted, as its verdict in c says
pub record IsClean (p : Plan) (v : ℕ → ℕ) (c : ℕ → Bool) : Type 0 where
  pub at : (i : ℕ) → i < event_count p → HasVerdict p v i (c i)
