-- What the calls say that take a value back: a failure is spread, or an operation is rolled back
use Rattle.std.specs.Prelude.{◌≡◌, ◌≢◌, ℕ, ◌+◌, ◌≤◌, ◌<◌, ◌⊎◌, true, false, List, [], ◌∷◌, ◌++◌, Contains}
use Rattle.morph_base.specs.declared.plan.Plan.{Plan}
use Rattle.morph_base.specs.declared.plan.Origin.TheVariants.{Op as Written}
use Rattle.morph_base.specs.declared.word.OpState.TheVariants.{Executed, Spread as IsSpreadState}
use Rattle.morph_base.specs.declared.word.OpWord.{OpWord}
use Rattle.morph_base.specs.Plans.{op_count, event_of, origin_at}
use Rattle.morph_base.specs.Words.{is_evaluated, is_idle}
use Rattle.interleaving_core.specs.declared.event.CoreEvent.{CoreEvent}
use Rattle.interleaving_core.specs.declared.event.CoreEvent.TheVariants.{Spread as SpreadStep, RollBack}
use Rattle.interleaving_core.specs.Core.{blocked, spread, entry_of}
use Rattle.interleaving_core.specs.Counts.{spreads, rolled}
use Rattle.op_words.specs.declared.answers.Rolled.{Rolled}
use Rattle.op_words.specs.declared.answers.Rolled.TheVariants.{Done as HasRolled, Fresh, Not as Unrolled}
use Rattle.op_words.specs.declared.answers.Spreaded.{Spreaded}
use Rattle.op_words.specs.declared.answers.Spreaded.TheVariants.{Done as HasSpread, Not as Unspread}
use Rattle.op_words.specs.declared.trail.Item.{Item}
use Rattle.op_words.specs.declared.trail.View.{View}
use Rattle.op_words.specs.Trails.{loaded, left, HasLast, IsDisturbed, OwnOn, OwnOpen, NoneOwn}
use Rattle.op_words.specs.Views.{HasShownFailure, IsRecordSeen, IsSourceSeen, AddsAndFrees}
use Rattle.op_words.specs.Calls.{IsReadValue, IsSourceOpen}

-- A failure of the sibling may be spread to operation o: they are two operations of one event, and the hand showed the
-- failure
pub record IsSpreadFrom (p : Plan) (o sibling : ℕ) (v : View) : Type 0 where
  pub in_range : sibling < op_count p
  pub another : sibling ≢ o
  pub same_event : event_of p sibling ≡ event_of p o
  pub failure : HasShownFailure v sibling

module _ (p : Plan) (cap o : ℕ) (v u : View) (xs : List Item) where
  -- A failure was spread to operation o: it was found executed below the cap, and then left with its target's record,
  -- at the next attempt
  pub record IsSpread : Type 0 where
    pub first : OpWord
    pub seen : Contains xs (loaded o first)
    pub executed : first.state ≡ Executed
    pub below : first.attempt < cap
    pub value : ℕ
    pub record_is : IsRecordSeen u o 0 first value
    pub last : HasLast o xs (spread (first.attempt + 1) value)
    pub inside : Contains xs (left o (spread (first.attempt + 1) value))
    pub shown : Contains u.published (entry_of o (spread (first.attempt + 1) value))
    pub counted : spreads u.events ≡ spreads v.events + 1

  -- Nothing was spread to operation o: its word w is not executed, is not below the cap, or was disturbed
  pub record IsUnspread (w : OpWord) : Type 0 where
    pub last : HasLast o xs w
    pub seen : Contains xs (loaded o w)
    pub none : NoneOwn xs
    pub cause : (w.state ≢ Executed) ⊎ ((cap ≤ w.attempt) ⊎ IsDisturbed o xs)

  -- The answer of `spread` has its cause in the words xs
  abbrev pub SpreadTells : Spreaded → Type 0
  SpreadTells HasSpread = IsSpread
  SpreadTells (Unspread w) = IsUnspread w

  -- Operation o was rolled back: it was found with a value that may be taken back, before the last attempt, and then
  -- left blocked at the next one
  pub record IsRolled : Type 0 where
    pub first : OpWord
    pub seen : Contains xs (loaded o first)
    pub evaluated : is_evaluated first.state ≡ true
    pub below : first.attempt ≤ cap
    pub last : HasLast o xs (blocked (first.attempt + 1))
    pub inside : Contains xs (left o (blocked (first.attempt + 1)))
    pub counted : rolled u.events ≡ rolled v.events + 1

  -- Operation o is fresh: under its present word, which is not spread, the record at place j has the value x of its
  -- source, as it was loaded in the call
  pub record IsUpToDate (j x : ℕ) : Type 0 where
    pub word : OpWord
    pub last : HasLast o xs word
    pub none : NoneOwn xs
    pub evaluated : is_evaluated word.state ≡ true
    pub not_spread : word.state ≢ IsSpreadState
    pub read : IsReadValue xs (origin_at p o j) x
    pub recorded : IsRecordSeen u o j word x
    -- So has each record of it that was seen under this word, and each settled value of the source
    pub record_is : (y : ℕ) → IsRecordSeen v o j word y → y ≡ x
    pub source_is : (y : ℕ) → IsSourceSeen v (origin_at p o j) y → y ≡ x

  -- Operation o was not rolled back: its own word w has no value that may be taken back, is at the last attempt, or was
  -- disturbed
  pub record IsOwnUnrolled (w : OpWord) : Type 0 where
    pub last : HasLast o xs w
    pub seen : Contains xs (loaded o w)
    pub none : NoneOwn xs
    pub cause : (is_evaluated w.state ≡ false) ⊎ ((w.attempt ≡ cap + 1) ⊎ IsDisturbed o xs)

  -- The word of operation o is spread, though the record at place j is the value of its source, as it was loaded in the
  -- call
  pub record IsSpreadAside (j : ℕ) (word : OpWord) : Type 0 where
    pub spread : word.state ≡ IsSpreadState
    pub value : ℕ
    pub read : IsReadValue xs (origin_at p o j) value
    pub recorded : IsRecordSeen u o j word value

  -- Operation o was not rolled back for the word w of the source `at`: this is the source at place j and has no value,
  -- or it is not settled although o is at the cap, or although o is spread with a record that is right
  pub record IsSourceUnrolled (j at : ℕ) (w : OpWord) : Type 0 where
    pub source_open : IsSourceOpen p cap o v u xs at w
    pub none : NoneOwn xs
    pub cause : ((origin_at p o j ≡ Written at) × (is_idle w.state ≡ true))
        ⊎ ((source_open.own.attempt ≡ cap) ⊎ IsSpreadAside j source_open.own)

  -- The answer of `roll_back` has its cause in the words xs
  abbrev pub RollTells : ℕ → Rolled → Type 0
  RollTells j HasRolled = IsRolled
  RollTells j (Fresh x) = IsUpToDate j x
  RollTells j (Unrolled at w) = ((at ≡ o) × IsOwnUnrolled w) ⊎ ((at ≢ o) × IsSourceUnrolled j at w)

-- The steps that `spread` takes: one if it spread the failure, else none
abbrev pub spread_steps : ℕ → ℕ → Spreaded → List CoreEvent
spread_steps o sibling HasSpread = SpreadStep o sibling ∷ []
spread_steps o sibling (Unspread w) = []

-- The steps that `roll_back` takes: one if it rolled the operation back, else none
abbrev pub roll_steps : ℕ → ℕ → Rolled → List CoreEvent
roll_steps o j HasRolled = RollBack o j ∷ []
roll_steps o j (Fresh x) = []
roll_steps o j (Unrolled at w) = []

-- ---- the calls, with what they add

module _ (p : Plan) (cap o : ℕ) (v u : View) where
  -- The call `spread` led from view v to view u, and its answer r has its cause in the words that it added
  pub record SpreadDoes (sibling : ℕ) (r : Spreaded) : Type 0 where
    pub words : List Item
    pub goes : AddsAndFrees v u words
    pub own : OwnOn o words
    pub open_own : OwnOpen words
    pub steps : u.events ≡ spread_steps o sibling r ++ v.events
    pub tells : SpreadTells p cap o v u words r

  -- The call `roll_back` led from view v to view u, and its answer r has its cause in the words that it added
  pub record RollDoes (j : ℕ) (r : Rolled) : Type 0 where
    pub words : List Item
    pub goes : AddsAndFrees v u words
    pub own : OwnOn o words
    pub open_own : OwnOpen words
    pub steps : u.events ≡ roll_steps o j r ++ v.events
    pub tells : RollTells p cap o v u words j r
