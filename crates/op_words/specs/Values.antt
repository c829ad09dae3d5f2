-- Inside the crate: the values of all sources of an operation, loaded once and then recorded
use Rattle.std.specs.Prelude.{◌≡◌, ◌≢◌, ℕ, ◌<◌, ◌⊎◌, Bool, true, List, [], ◌∷◌, Contains, Option, Some, None, Result, Ok, Err, slice_index, take}
use Rattle.morph_base.specs.declared.plan.Plan.{Plan}
use Rattle.morph_base.specs.declared.word.OpWord.{OpWord}
use Rattle.morph_base.specs.Functions.{value_of}
use Rattle.morph_base.specs.Clean.{source}
use Rattle.morph_base.specs.Plans.{op_at, origin_at, final}
use Rattle.interleaving_core.specs.Core.{ready, claimed, entry_of, finished, has_run, places}
use Rattle.interleaving_core.specs.declared.event.CoreEvent.TheVariants.{Claim, Finish}
use Rattle.op_words.specs.declared.answers.Outcome.{Outcome}
use Rattle.op_words.specs.declared.answers.Stop.{Stop}
use Rattle.op_words.specs.declared.board.Holding.{Holding}
use Rattle.op_words.specs.declared.trail.Item.{Item}
use Rattle.op_words.specs.declared.trail.View.{View}
use Rattle.op_words.specs.Attempts.{fetches, ran_steps, IsFoundOther, IsFoundTaken}
use Rattle.op_words.specs.Trails.{loaded, left, IsSourceOf}
use Rattle.op_words.specs.Views.{Adds, HasRecordsSeen}
use Rattle.op_words.specs.Calls.{answer_of}
use Rattle.op_words.specs.Grounds.{IsSourceLoaded, IsSourceUnready}
use Rattle.op_words.specs.Hands.{fetched_of, view_of, HandCall, HasHeldValues, IsHandOf}
use Rattle.op_words.specs.Kinds.{IsUsable}
use Rattle.op_words.specs.Stepping.{IsRow}

-- The view after the values xs were fetched for the first places of operation o, claimed at attempt a
abbrev pub holding : ℕ → ℕ → List ℕ → View → View
holding o a xs v =
    record v {
      claim = Some (record { op = o; attempt = a; values = xs });
      events = fetches o v.tag 0 xs v.events;
      own = fetches o v.tag 0 xs v.own;
    }

module _ (p : Plan) (o : ℕ) (needed : Bool) where
  -- The source of operation o at place j was loaded with the value x. If it has to be settled, x is the fold's value
  pub record IsPlaceLoaded (xs : List Item) (j x : ℕ) : Type 0 where
    pub read : IsSourceLoaded xs needed (origin_at p o j) x
    pub fold : needed ≡ true → x ≡ source p (final p) o j

  -- The sources of operation o at the places before j were loaded with these values
  abbrev pub AreLoaded : ℕ → List Item → List ℕ → Type 0
  AreLoaded j xs values = (k : ℕ) → k < j → IsPlaceLoaded xs k (slice_index values k)

  -- All sources of operation o were loaded with the values that were put down, or the answer is one that has none, or
  -- that is not settled although it has to be
  abbrev pub LoadTells : List Item → Holding → Option Stop → Type 0
  LoadTells xs found None = (found.count ≡ places p o) × AreLoaded (places p o) xs (fetched_of found)
  LoadTells xs found (Some stop) = IsSourceOf p o stop.source × IsSourceUnready xs needed stop

module _ (c : HandCall) (p : Plan) (o : ℕ) (needed : Bool) (a : ℕ) where
  -- The sources of operation o at the places before j were loaded, and their values were put down for attempt a
  pub record IsLoadedUpTo (j : ℕ) (found : Holding) : Type 0 where
    pub words : List Item
    pub row : IsRow c o words
    pub fits : HasHeldValues found
    pub attempt : found.attempt ≡ a
    pub count : found.count ≡ j
    pub read : AreLoaded p o needed j words (fetched_of found)

  -- The sources of operation o were loaded, to be read at attempt a, and this is the answer
  pub record IsAllLoaded (found : Holding) (r : Option Stop) : Type 0 where
    pub words : List Item
    pub row : IsRow c o words
    pub fits : HasHeldValues found
    pub attempt : found.attempt ≡ a
    pub tells : LoadTells p o needed words found r

-- Each value may be recorded at its place, at attempt a
abbrev pub AreUsable : Plan → (cap o a : ℕ) → View → List ℕ → Type 0
AreUsable p cap o a v values = (k : ℕ) → k < places p o → IsUsable v cap a (origin_at p o k) (slice_index values k)

-- The first j of the values were recorded
pub record IsKeptUpTo (c : HandCall) (o a j : ℕ) (values : List ℕ) : Type 0 where
  pub hand : IsHandOf c.board c.after
  pub view : view_of c.after ≡ holding o a (take j values) (view_of c.before)

-- On these values the function of operation o gave the answer r, and the hand left and showed the word w
pub record IsLeftWith (p : Plan) (o a : ℕ) (values : List ℕ) (u : View) (w : OpWord) (r : Outcome) : Type 0 where
  pub word_is : w ≡ finished (op_at p o).op a values
  pub ran : has_run w.state ≡ true
  pub attempt_is : w.attempt ≡ a
  pub records : HasRecordsSeen p u o w values
  pub shown : Contains u.published (entry_of o w)
  pub answer : r ≡ answer_of (value_of (op_at p o).op values)

module _ (p : Plan) (o a : ℕ) (values : List ℕ) (v u : View) (xs : List Item) where
  -- Operation o was claimed, the values were recorded, and it was finished
  pub record IsCarriedOut (r : Outcome) : Type 0 where
    pub word : OpWord
    pub evaluated : IsLeftWith p o a values u word r
    pub words_are : xs ≡ left o (claimed a v.tag) ∷ left o word ∷ []
    pub steps : u.events ≡ Finish o v.tag ∷ fetches o v.tag 0 values (Claim o v.tag ∷ v.events)

  -- Operation o was found with another word than the ready one
  pub record IsTaken (w : OpWord) : Type 0 where
    pub differs : w ≢ ready a
    pub words_are : xs ≡ loaded o w ∷ []
    pub stays : u.events ≡ v.events

  -- The answer has its cause in the words xs
  abbrev pub CarryTells : Result Outcome OpWord → Type 0
  CarryTells (Ok r) = IsCarriedOut r
  CarryTells (Err w) = IsTaken w

  -- Operation o was made ready and claimed, the values were recorded, and it was finished
  pub record IsTakenUp (r : Outcome) : Type 0 where
    pub word : OpWord
    pub evaluated : IsLeftWith p o a values u word r
    pub words_are : xs ≡ left o (ready a) ∷ left o (claimed a v.tag) ∷ left o word ∷ []
    pub steps : u.events ≡ ran_steps o v.tag values v.events

  -- The answer has its cause in the words xs
  abbrev pub TakeUpTells : Result Outcome OpWord → Type 0
  TakeUpTells (Ok r) = IsTakenUp r
  TakeUpTells (Err w) = IsFoundOther p o a v u xs [] w ⊎ IsFoundTaken p o a v u xs [] w

-- Operation o was to be claimed, recorded and finished, and this is the answer
pub record CarryDoes (p : Plan) (o a : ℕ) (values : List ℕ) (v u : View) (r : Result Outcome OpWord) : Type 0 where
  pub words : List Item
  pub adds : Adds v u words
  pub tells : CarryTells p o a values v u words r

-- Operation o was to be made ready, claimed, recorded and finished, and this is the answer
pub record TakeUpDoes (p : Plan) (o a : ℕ) (values : List ℕ) (v u : View) (r : Result Outcome OpWord) : Type 0 where
  pub words : List Item
  pub adds : Adds v u words
  pub tells : TakeUpTells p o a values v u words r
