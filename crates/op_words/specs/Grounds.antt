-- Inside the crate: what a hand has to have seen before it takes a value back, and how it looks for it
use Rattle.std.specs.Prelude.{◌≡◌, ◌≢◌, ℕ, ◌+◌, ◌≤◌, ◌<◌, ◌⊎◌, Bool, true, false, List, Contains, Option, Some, None, Result, Ok, Err}
use Rattle.morph_base.specs.declared.limits.TheConstants.{MAX}
use Rattle.morph_base.specs.declared.plan.Plan.{Plan}
use Rattle.morph_base.specs.declared.plan.Origin.{Origin}
use Rattle.morph_base.specs.declared.plan.Origin.TheVariants.{Base, Op as Written}
use Rattle.morph_base.specs.declared.word.OpState.TheVariants.{Executed, Spread as IsSpreadState}
use Rattle.morph_base.specs.declared.word.OpWord.{OpWord}
use Rattle.morph_base.specs.Plans.{origin_at, final}
use Rattle.morph_base.specs.Clean.{source}
use Rattle.morph_base.specs.Words.{is_evaluated, is_idle, is_settled}
use Rattle.interleaving_core.specs.Core.{places}
use Rattle.op_words.specs.declared.answers.Stop.{Stop}
use Rattle.op_words.specs.declared.trail.Item.{Item}
use Rattle.op_words.specs.declared.trail.View.{View}
use Rattle.op_words.specs.Trails.{loaded, IsSourceOf, OfSources}
use Rattle.op_words.specs.Views.{IsRecordSeen, IsSettledSeen, IsSourceSeen, last_op}
use Rattle.op_words.specs.Hands.{view_of, HandCall}
use Rattle.op_words.specs.Stepping.{IsRow}
use Rattle.op_words.specs.Kinds.{IsUsable}
use Rattle.op_words.specs.Retrying.{IsSpreadFrom}

-- The hand saw all sources of operation o settled
abbrev pub AreSourcesSettled : Plan → ℕ → View → Type 0
AreSourcesSettled p o v = (s : ℕ) → IsSourceOf p o s → IsSettledSeen v s

module _ (p : Plan) (cap o : ℕ) (v : View) (w : OpWord) where
  -- A failure of the operation that was noted last may be spread to operation o, whose word w is executed below the
  -- cap. Under w the target's record has the value x
  pub record HasGroundsToSpread (x : ℕ) : Type 0 where
    pub executed : w.state ≡ Executed
    pub below : w.attempt < cap
    pub sibling : IsSpreadFrom p o (last_op 0 v.notes) v
    pub record_is : IsRecordSeen v o 0 w x

  -- The source at place j has another value than the record, and the next attempt may read it. At the cap the hand saw
  -- all sources settled
  pub record IsSeenStale (j kept : ℕ) : Type 0 where
    pub version : ℕ
    pub usable : IsUsable v cap (w.attempt + 1) (origin_at p o j) version
    pub differs : kept ≢ version
    pub at_cap : w.attempt ≡ cap → AreSourcesSettled p o v

  -- The word w is spread, and the hand saw all sources settled
  pub record IsSpreadSeen : Type 0 where
    pub state_is : w.state ≡ IsSpreadState
    pub sources : AreSourcesSettled p o v

  -- Operation o may be rolled back from its word w, for place j
  pub record HasGroundsToRoll (j : ℕ) : Type 0 where
    pub in_places : j < places p o
    pub evaluated : is_evaluated w.state ≡ true
    pub most : w.attempt ≤ cap
    pub kept : ℕ
    pub record_is : IsRecordSeen v o j w kept
    pub cause : IsSeenStale j kept ⊎ IsSpreadSeen

-- ---- the value of a source, which is loaded if it is an operation. If `needed` says so, it has to be settled

module _ (xs : List Item) (needed : Bool) where
  -- The source s was loaded with the value x
  pub record IsLoadedAs (s x : ℕ) : Type 0 where
    pub word : OpWord
    pub inside : Contains xs (loaded s word)
    pub shown : is_idle word.state ≡ false
    pub settled : needed ≡ true → is_settled word.state ≡ true
    pub value_is : word.value ≡ x

  -- The source has the value x: it is a base of this value, or was loaded with it
  abbrev pub IsSourceLoaded : Origin → ℕ → Type 0
  IsSourceLoaded (Base b) x = b ≡ x
  IsSourceLoaded (Written s) x = IsLoadedAs s x

  -- The source that stopped the call was loaded without a value, or is not settled although it has to be
  pub record IsSourceUnready (stop : Stop) : Type 0 where
    pub inside : Contains xs (loaded stop.source stop.word)
    pub settled : is_settled stop.word.state ≡ false
    pub cause : (is_idle stop.word.state ≡ true) ⊎ (needed ≡ true)

module _ (p : Plan) (o j : ℕ) (needed : Bool) (v : View) (xs : List Item) where
  -- The source at place j has the value x, which is no greater than a value can be. It had it before if the hand saw it
  -- settled. If it has to be settled, x is the fold's value
  pub record IsValueLoaded (x : ℕ) : Type 0 where
    pub read : IsSourceLoaded xs needed (origin_at p o j) x
    pub fold : needed ≡ true → x ≡ source p (final p) o j
    pub known : (y : ℕ) → IsSourceSeen v (origin_at p o j) y → y ≡ x
    pub small : x ≤ MAX

  -- The source at place j stopped the call
  pub record IsNoValueLoaded (stop : Stop) : Type 0 where
    pub source_is : origin_at p o j ≡ Written stop.source
    pub unready : IsSourceUnready xs needed stop

  -- The answer is the value of the source at place j, or the source with a word that will not do
  abbrev pub SourceTells : Result ℕ Stop → Type 0
  SourceTells (Ok x) = IsValueLoaded x
  SourceTells (Err stop) = IsNoValueLoaded stop

-- The source of operation o at place j was loaded, and this is the answer
pub record SourceDoes (c : HandCall) (p : Plan) (o j : ℕ) (needed : Bool) (r : Result ℕ Stop) : Type 0 where
  pub words : List Item
  pub row : IsRow c o words
  pub sources : OfSources p o words
  pub tells : SourceTells p o j needed (view_of c.before) words r

-- ---- all sources of an operation, which have to be settled if `needed` says so

-- The source s was loaded settled
abbrev pub IsLoadedSettled : List Item → ℕ → Type 0
IsLoadedSettled xs s = (z : OpWord) × Contains xs (loaded s z) × (is_settled z.state ≡ true)

-- A source that has to be settled was loaded, and is not
pub record IsOpenFound (p : Plan) (o : ℕ) (needed : Bool) (xs : List Item) (stop : Stop) : Type 0 where
  pub asked : needed ≡ true
  pub source : IsSourceOf p o stop.source
  pub inside : Contains xs (loaded stop.source stop.word)
  pub settled : is_settled stop.word.state ≡ false

-- Each source that has to be settled was loaded settled, or the answer is one that is not
abbrev pub OpenTells : Plan → ℕ → Bool → List Item → Option Stop → Type 0
OpenTells p o needed xs None = needed ≡ true → (s : ℕ) → IsSourceOf p o s → IsLoadedSettled xs s
OpenTells p o needed xs (Some stop) = IsOpenFound p o needed xs stop

-- The sources of operation o were loaded, and this is the answer
pub record OpenDoes (c : HandCall) (p : Plan) (o : ℕ) (needed : Bool) (r : Option Stop) : Type 0 where
  pub words : List Item
  pub row : IsRow c o words
  pub tells : OpenTells p o needed words r

-- The sources of operation o at the places before j were loaded settled
pub record IsSettledUpToPlace (c : HandCall) (p : Plan) (o j : ℕ) : Type 0 where
  pub words : List Item
  pub row : IsRow c o words
  pub settled : (k : ℕ) → k < j → (s : ℕ) → origin_at p o k ≡ Written s → IsLoadedSettled words s
