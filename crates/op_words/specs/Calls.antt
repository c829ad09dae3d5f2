-- What the calls of the board say: the cause of each answer, by the words loaded and left in the call
use Rattle.std.specs.Prelude.{◌≡◌, ◌≢◌, ℕ, ◌+◌, ◌⊎◌, true, false, List, [], ◌∷◌, ◌++◌, Contains, Option, Some, None, if◌then◌else◌}
use Rattle.morph_base.specs.declared.plan.Plan.{Plan}
use Rattle.morph_base.specs.declared.plan.Origin.{Origin}
use Rattle.morph_base.specs.declared.plan.Origin.TheVariants.{Base, Op as Written}
use Rattle.morph_base.specs.declared.word.OpState.TheVariants.{Blocked, Ready}
use Rattle.morph_base.specs.declared.word.OpWord.{OpWord}
use Rattle.morph_base.specs.Functions.{value_of}
use Rattle.morph_base.specs.Plans.{op_at, origin_at}
use Rattle.morph_base.specs.Words.{is_idle, is_settled}
use Rattle.interleaving_core.specs.Core.{blocked, ready, claimed, finished, entry_of, has_run, is_failed}
use Rattle.interleaving_core.specs.Counts.{evaluated}
use Rattle.op_words.specs.declared.trail.Item.{Item}
use Rattle.op_words.specs.declared.trail.View.{View}
use Rattle.op_words.specs.declared.answers.Readied.{Readied}
use Rattle.op_words.specs.declared.answers.Readied.TheVariants.{Made, Not as Unmade}
use Rattle.op_words.specs.declared.answers.Claimed.{Claimed}
use Rattle.op_words.specs.declared.answers.Claimed.TheVariants.{Held as HeldAt, Not as Unheld}
use Rattle.op_words.specs.declared.answers.Fetched.{Fetched}
use Rattle.op_words.specs.declared.answers.Fetched.TheVariants.{Value, Unready}
use Rattle.op_words.specs.declared.answers.Outcome.{Outcome}
use Rattle.op_words.specs.declared.answers.Outcome.TheVariants.{Executed as ExecutedTo, Failed as HasFailed}
use Rattle.op_words.specs.Trails.{loaded, left, HasLast, IsDisturbed, IsSourceOf, OwnOn, OwnOpen, NoneOwn}
use Rattle.op_words.specs.Views.{HasRecordsSeen, Holds, Adds, AddsAndFrees, looking, looked, making, claiming, fetching, finishing, giving_back}

module _ (xs : List Item) where
  -- The source has the value x: it is a base of this value, or was loaded with it in the call
  abbrev pub IsReadValue : Origin → ℕ → Type 0
  IsReadValue (Base b) x = b ≡ x
  IsReadValue (Written s) x = (w : OpWord) × Contains xs (loaded s w) × (w.value ≡ x)

  -- The source has the settled value x: it is a base of this value, or was loaded settled with it in the call
  abbrev pub IsSettledRead : Origin → ℕ → Type 0
  IsSettledRead (Base b) x = b ≡ x
  IsSettledRead (Written s) x = (w : OpWord) × Contains xs (loaded s w) × (is_settled w.state ≡ true) × (w.value ≡ x)

-- No word of operation o was loaded, and no word was left
abbrev pub Elsewhere : ℕ → List Item → Type 0
Elsewhere o xs = (t : Item) → Contains xs t → (t.own ≡ false) × (t.op ≢ o)

-- The outcome of a finished operation by its word: executed with the word's value, or failed
abbrev pub outcome_of : OpWord → Outcome
outcome_of w = if is_failed w.state then HasFailed else ExecutedTo w.value

-- The outcome by the function table: executed with the value that the function gives, or failed if it gives none
abbrev pub answer_of : Option ℕ → Outcome
answer_of (Some x) = ExecutedTo x
answer_of None = HasFailed

module _ (p : Plan) (cap o : ℕ) (v u : View) (xs : List Item) where
  -- A source that is not settled stopped the call, and operation o itself is not settled
  pub record IsSourceOpen (at : ℕ) (w : OpWord) : Type 0 where
    pub source : IsSourceOf p o at
    pub inside : Contains xs (loaded at w)
    pub settled : is_settled w.state ≡ false
    pub own : OpWord
    pub last : HasLast o xs own
    pub open_own : is_settled own.state ≡ false

  -- Operation o was made ready: it was found blocked, each source was loaded with a value, and then it was left ready
  pub record IsMadeReady (first : OpWord) : Type 0 where
    pub was_blocked : first ≡ blocked first.attempt
    pub last : HasLast o xs (ready first.attempt)
    pub sources : (s : ℕ) → IsSourceOf p o s → (z : OpWord) × Contains xs (loaded s z) × (is_idle z.state ≡ false)
    pub front : List Item
    pub words_are : xs ≡ front ++ left o (ready first.attempt) ∷ []
    pub view_is : u ≡ making o first.attempt (looking front v)

  -- Operation o was not made ready: its own word w is not blocked, or was disturbed
  pub record IsUnmade (w : OpWord) : Type 0 where
    pub last : HasLast o xs w
    pub seen : Contains xs (loaded o w)
    pub none : NoneOwn xs
    pub cause : (w.state ≢ Blocked) ⊎ IsDisturbed o xs
    pub view_is : u ≡ looking xs v

  -- Operation o was not made ready: the source `at` has no value in its word w, and the word of o is blocked
  pub record IsSourceIdle (at : ℕ) (w : OpWord) : Type 0 where
    pub source : IsSourceOf p o at
    pub inside : Contains xs (loaded at w)
    pub none : NoneOwn xs
    pub idle : is_idle w.state ≡ true
    pub own : OpWord
    pub last : HasLast o xs own
    pub own_blocked : own.state ≡ Blocked
    pub own_bare : own ≡ blocked own.attempt
    pub view_is : u ≡ looking xs v

  -- The answer of `ready` has its cause in the words xs
  abbrev pub MakeTells : OpWord → Readied → Type 0
  MakeTells first Made = IsMadeReady first
  MakeTells first (Unmade at w) = ((at ≡ o) × IsUnmade w) ⊎ ((at ≢ o) × IsSourceIdle at w)

  -- Operation o was claimed: it was found ready, and then left claimed
  pub record WasClaimed (a : ℕ) : Type 0 where
    pub words : xs ≡ loaded o (ready a) ∷ left o (claimed a v.tag) ∷ []
    pub holds : Holds u o a []
    pub view_is : u ≡ claiming o a (looked o (ready a) v)

  -- Operation o was not claimed: its own word w is not ready, or was disturbed
  pub record IsUnheld (w : OpWord) : Type 0 where
    pub free : u.claim ≡ None
    pub last : HasLast o xs w
    pub seen : Contains xs (loaded o w)
    pub none : NoneOwn xs
    pub cause : (w.state ≢ Ready) ⊎ IsDisturbed o xs
    pub view_is : u ≡ looking xs v

  -- The answer of `claim` has its cause in the words xs
  abbrev pub ClaimTells : Claimed → Type 0
  ClaimTells (HeldAt a) = WasClaimed a
  ClaimTells (Unheld w) = IsUnheld w

  -- The value x of source s may be read at attempt a: its one word, as it was loaded, has this value, and is settled at
  -- the last attempt
  pub record IsUsed (a s x : ℕ) : Type 0 where
    pub word : OpWord
    pub words : xs ≡ loaded s word ∷ []
    pub shown : is_idle word.state ≡ false
    pub at_last : a ≡ cap + 1 → is_settled word.state ≡ true
    pub value_is : word.value ≡ x

  -- The place got the value x of its source: a base needs no load, and an operation's word was loaded once
  abbrev pub IsPlaceTaken : ℕ → Origin → ℕ → Type 0
  IsPlaceTaken a (Base b) x = (xs ≡ []) × (b ≡ x)
  IsPlaceTaken a (Written s) x = IsUsed a s x

  -- The hand fetched the value x for place j: it read it from the source, and holds it with those fetched before
  pub record IsFetched (a j : ℕ) (ys : List ℕ) (x : ℕ) : Type 0 where
    pub read : IsReadValue xs (origin_at p o j) x
    pub holds : Holds u o a (ys ++ x ∷ [])
    pub taken : IsPlaceTaken a (origin_at p o j) x
    pub view_is : u ≡ fetching (record { op = o; attempt = a; values = ys }) x (looking xs v)

  -- Nothing was fetched for place j: the word w of its source has no value, or is not settled at the last attempt
  pub record IsUnfetched (a j at : ℕ) (ys : List ℕ) (w : OpWord) : Type 0 where
    pub source_is : IsSourceOf p o at
    pub at_place : origin_at p o j ≡ Written at
    pub inside : Contains xs (loaded at w)
    pub settled : is_settled w.state ≡ false
    pub cause : (is_idle w.state ≡ true) ⊎ (a ≡ cap + 1)
    pub holds : Holds u o a ys
    pub view_is : u ≡ looking xs v

  -- The answer of `fetch` has its cause in the words xs
  abbrev pub FetchTells : ℕ → ℕ → List ℕ → Fetched → Type 0
  FetchTells a j ys (Value x) = IsFetched a j ys x
  FetchTells a j ys (Unready at w) = IsUnfetched a j at ys w

  -- Operation o was finished: what its function makes of the values that were fetched was left and shown
  pub record IsFinished (a : ℕ) (ys : List ℕ) (r : Outcome) : Type 0 where
    pub free : u.claim ≡ None
    pub word : OpWord
    pub word_is : word ≡ finished (op_at p o).op a ys
    pub words : xs ≡ left o word ∷ []
    pub ran : has_run word.state ≡ true
    pub attempt_is : word.attempt ≡ a
    pub shown : Contains u.published (entry_of o word)
    pub finished_more : evaluated u.events ≡ evaluated v.events + 1
    pub records : HasRecordsSeen p u o word ys
    pub answer : r ≡ answer_of (value_of (op_at p o).op ys)
    pub outcome : r ≡ outcome_of word
    pub view_is : u ≡ finishing o word ys v

  -- Operation o was given back: it was left blocked at the same attempt
  pub record IsGivenBack (a : ℕ) : Type 0 where
    pub free : u.claim ≡ None
    pub words : xs ≡ left o (blocked a) ∷ []
    pub view_is : u ≡ giving_back o a v

-- ---- the calls, with what they add

module _ (p : Plan) (cap o : ℕ) (v u : View) where
  -- The call `peek` led from view v to view u: the hand loaded word w of operation o, and holds nothing
  pub record PeekDoes (w : OpWord) : Type 0 where
    pub words : List Item
    pub goes : AddsAndFrees v u words
    pub none : NoneOwn words
    pub last : HasLast o words w
    pub seen : Contains words (loaded o w)
    pub only : words ≡ loaded o w ∷ []

  -- The call `ready` led from view v to view u, and its answer r has its cause in the words that it added
  pub record MakeDoes (r : Readied) : Type 0 where
    pub words : List Item
    pub goes : AddsAndFrees v u words
    pub own : OwnOn o words
    pub open_own : OwnOpen words
    pub first : OpWord
    pub rest : List Item
    pub begins : words ≡ loaded o first ∷ rest
    pub tells : MakeTells p cap o v u words first r

  -- The call `claim` led from view v to view u, and its answer r has its cause in the words that it added
  pub record ClaimDoes (r : Claimed) : Type 0 where
    pub words : List Item
    pub adds : Adds v u words
    pub tells : ClaimTells p cap o v u words r

  -- The call `fetch` led from view v to view u, and its answer r has its cause in the words that it added
  pub record FetchDoes (j : ℕ) (r : Fetched) : Type 0 where
    pub words : List Item
    pub adds : Adds v u words
    pub elsewhere : Elsewhere o words
    pub tells : (a : ℕ) (ys : List ℕ) → Holds v o a ys → FetchTells p cap o v u words a j ys r

  -- The call `finish` led from view v to view u, and its answer r has its cause in the words that it added
  pub record FinishDoes (r : Outcome) : Type 0 where
    pub words : List Item
    pub adds : Adds v u words
    pub free : u.claim ≡ None
    pub tells : (a : ℕ) (ys : List ℕ) → Holds v o a ys → IsFinished p cap o v u words a ys r

  -- The call `give_back` led from view v to view u: operation o was given back
  pub record GiveBackDoes : Type 0 where
    pub words : List Item
    pub adds : Adds v u words
    pub free : u.claim ≡ None
    pub tells : (a : ℕ) (ys : List ℕ) → Holds v o a ys → IsGivenBack p cap o v u words a
