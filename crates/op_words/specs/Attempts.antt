-- What evaluating a blocked operation in one call says: the cause of each answer, by the words loaded and left in it
use Rattle.std.specs.Prelude.{◌≡◌, ◌≢◌, ℕ, ◌+◌, ◌<◌, ◌⊎◌, true, false, List, [], ◌∷◌, ◌++◌, Contains, slice_index}
use Rattle.morph_base.specs.declared.plan.Plan.{Plan}
use Rattle.morph_base.specs.declared.word.OpWord.{OpWord}
use Rattle.morph_base.specs.Functions.{value_of}
use Rattle.morph_base.specs.Plans.{op_at, origin_at}
use Rattle.morph_base.specs.Words.{is_idle}
use Rattle.interleaving_core.specs.declared.event.CoreEvent.{CoreEvent}
use Rattle.interleaving_core.specs.declared.event.CoreEvent.TheVariants.{Ready as ReadyStep, Claim, Fetch, Finish}
use Rattle.interleaving_core.specs.Core.{blocked, ready, claimed, entry_of, finished, has_run, places}
use Rattle.op_words.specs.declared.answers.Attempt.{Attempt}
use Rattle.op_words.specs.declared.answers.Attempt.TheVariants.{Ran, Blocked as BlockedOn, Busy as BusyAt}
use Rattle.op_words.specs.declared.answers.Outcome.{Outcome}
use Rattle.op_words.specs.declared.trail.Item.{Item}
use Rattle.op_words.specs.declared.trail.View.{View}
use Rattle.op_words.specs.Trails.{loaded, left, IsSourceOf, OwnOn, OwnOpen}
use Rattle.op_words.specs.Views.{AddsAndFrees, HasRecordsSeen}
use Rattle.op_words.specs.Calls.{answer_of, Elsewhere, IsReadValue}

-- The steps after es and then the fetches of the values xs for operation o, from place k on, by the hand of this tag,
-- the last one first
unfoldable pub fetches : ℕ → ℕ → ℕ → List ℕ → List CoreEvent → List CoreEvent
fetches o tag k [] es = es
fetches o tag k (x ∷ xs) es = fetches o tag (k + 1) xs (Fetch o k tag x ∷ es)

-- The steps of an attempt after es, the last one first: operation o was made ready and claimed, the values xs were
-- fetched, and it was finished
abbrev pub ran_steps : ℕ → ℕ → List ℕ → List CoreEvent → List CoreEvent
ran_steps o tag xs es = Finish o tag ∷ fetches o tag 0 xs (Claim o tag ∷ ReadyStep o ∷ es)

module _ (p : Plan) (o a : ℕ) (v u : View) (xs : List Item) where
  -- Operation o was evaluated on values of its sources, each of which was loaded once. It was made ready, claimed, and
  -- left as what its function makes of these values
  pub record HasRunNow (r : Outcome) : Type 0 where
    pub row : List Item
    pub elsewhere : Elsewhere o row
    pub values : List ℕ
    pub read : (j : ℕ) → j < places p o → IsReadValue row (origin_at p o j) (slice_index values j)
    pub valued : (s : ℕ) → IsSourceOf p o s → (w : OpWord) × Contains row (loaded s w) × (is_idle w.state ≡ false)
    pub word : OpWord
    pub word_is : word ≡ finished (op_at p o).op a values
    pub words_are : xs ≡ row ++ (left o (ready a) ∷ left o (claimed a v.tag) ∷ left o word ∷ [])
    pub ran : has_run word.state ≡ true
    pub attempt_is : word.attempt ≡ a
    pub records : HasRecordsSeen p u o word values
    pub shown : Contains u.published (entry_of o word)
    pub answer : r ≡ answer_of (value_of (op_at p o).op values)
    pub steps : u.events ≡ ran_steps o v.tag values v.events

  -- The source `at` of operation o was loaded without a value, and nothing was done
  pub record IsKeptBack (at : ℕ) (w : OpWord) : Type 0 where
    pub elsewhere : Elsewhere o xs
    pub source : IsSourceOf p o at
    pub inside : Contains xs (loaded at w)
    pub idle : is_idle w.state ≡ true
    pub stays : u.events ≡ v.events

  -- Operation o was found with another word than the blocked one
  pub record IsFoundOther (row : List Item) (w : OpWord) : Type 0 where
    pub differs : w ≢ blocked a
    pub words_are : xs ≡ row ++ loaded o w ∷ []
    pub stays : u.events ≡ v.events

  -- Operation o was made ready, and then found with another word than the ready one
  pub record IsFoundTaken (row : List Item) (w : OpWord) : Type 0 where
    pub differs : w ≢ ready a
    pub words_are : xs ≡ row ++ (left o (ready a) ∷ loaded o w ∷ [])
    pub readied : u.events ≡ ReadyStep o ∷ v.events

  -- Another hand changed operation o
  pub record IsForestalled (w : OpWord) : Type 0 where
    pub row : List Item
    pub elsewhere : Elsewhere o row
    pub cause : IsFoundOther row w ⊎ IsFoundTaken row w

  -- The answer of `attempt` has its cause in the words xs
  abbrev pub AttemptTells : Attempt → Type 0
  AttemptTells (Ran r) = HasRunNow r
  AttemptTells (BlockedOn at w) = IsKeptBack at w
  AttemptTells (BusyAt w) = IsForestalled w

-- The call `attempt` led from view v to view u, and its answer r has its cause in the words that it added
pub record AttemptDoes (p : Plan) (o a : ℕ) (v u : View) (r : Attempt) : Type 0 where
  pub words : List Item
  pub goes : AddsAndFrees v u words
  pub own : OwnOn o words
  pub open_own : OwnOpen words
  pub tells : AttemptTells p o a v u words r
