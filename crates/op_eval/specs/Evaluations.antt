-- What evaluating an operation says: the cause of each answer, by the words loaded and left in the call
use Rattle.std.specs.Prelude.{◌≡◌, ◌≢◌, ℕ, ◌+◌, ◌<◌, ◌⊎◌, true, false, List, [], ◌∷◌, length, Contains, Option, Some, None, slice_index}
use Rattle.morph_base.specs.declared.plan.Plan.{Plan}
use Rattle.morph_base.specs.declared.plan.Origin.TheVariants.{Op as Written}
use Rattle.morph_base.specs.declared.word.OpState.TheVariants.{Blocked, Claimed}
use Rattle.morph_base.specs.declared.word.OpWord.{OpWord}
use Rattle.morph_base.specs.Functions.{value_of}
use Rattle.morph_base.specs.Plans.{op_at, op_count, origin_at}
use Rattle.morph_base.specs.Words.{is_idle, is_settled}
use Rattle.interleaving_core.specs.Core.{blocked, claimed, entry_of, finished, has_run, places}
use Rattle.interleaving_core.specs.declared.event.CoreEvent.{CoreEvent}
use Rattle.interleaving_core.specs.declared.event.CoreEvent.TheVariants.{Ready as ReadyStep, Claim, Finish, GiveBack}
use Rattle.interleaving_core.specs.Counts.{evaluated, spreads, rolled}
use Rattle.op_words.specs.declared.answers.Outcome.{Outcome}
use Rattle.op_words.specs.declared.answers.Outcome.TheVariants.{Executed, Failed}
use Rattle.op_words.specs.declared.answers.Redone.{Redone}
use Rattle.op_words.specs.declared.answers.Redone.TheVariants.{Good, Bad, Open, Busy as BusyAgain}
use Rattle.op_words.specs.declared.trail.Item.{Item}
use Rattle.op_words.specs.declared.trail.View.{View}
use Rattle.op_words.specs.Trails.{loaded, left, HasLast, IsDisturbed, IsReached, IsSourceOf, OwnOn, OwnOpen}
use Rattle.op_words.specs.Views.{Adds, AddsAndFrees, Holds, HasRecordsSeen}
use Rattle.op_words.specs.Attempts.{fetches}
use Rattle.op_words.specs.Calls.{answer_of, Elsewhere, IsReadValue, IsSourceOpen}
use Rattle.op_words.specs.Redoing.{RedoDoes}
use Rattle.op_eval.specs.declared.answers.Evaluation.{Evaluation}
use Rattle.op_eval.specs.declared.answers.Evaluation.TheVariants.{Evaluated, Blocked as BlockedOn, Busy as BusyAt, Already}
use Rattle.op_eval.specs.declared.evaluation.Stopped.{Stopped}
use Rattle.op_eval.specs.declared.runner.Runner.{Runner}
use Rattle.op_eval.specs.Running.{hand_view, counted}

-- ---- the steps of an evaluation, the last one first

-- The steps fs are es, or es and then the step that makes operation o ready
abbrev pub IsReadiedOrNot : ℕ → List CoreEvent → List CoreEvent → Type 0
IsReadiedOrNot o es fs = (fs ≡ es) ⊎ (fs ≡ ReadyStep o ∷ es)

-- The steps fs are es, then perhaps the step that makes operation o ready, its claim, and the fetches of the values xs
abbrev pub IsClaimedWith : ℕ → ℕ → List ℕ → List CoreEvent → List CoreEvent → Type 0
IsClaimedWith o tag xs es fs =
    (begun : List CoreEvent) × IsReadiedOrNot o es begun × (fs ≡ fetches o tag 0 xs (Claim o tag ∷ begun))

-- The steps fs are those of a claim and of fetches after es, and then the step that gives operation o back
abbrev pub IsGivenUp : ℕ → ℕ → List CoreEvent → List CoreEvent → Type 0
IsGivenUp o tag es fs =
    (xs : List ℕ) × (held : List CoreEvent) × IsClaimedWith o tag xs es held × (fs ≡ GiveBack o tag ∷ held)

-- ---- what each answer says

-- Operation s was loaded with a value
abbrev pub IsValued : List Item → ℕ → Type 0
IsValued xs s = (w : OpWord) × Contains xs (loaded s w) × (is_idle w.state ≡ false)

module _ (p : Plan) (cap o : ℕ) (v u : View) (xs : List Item) where
  -- Operation o was evaluated: it was found idle, and left as what its function makes of the values that were loaded of
  -- its sources. `first` is the word that the call loaded first
  pub record IsEvaluated (first : OpWord) (attempt : ℕ) (r : Outcome) : Type 0 where
    pub word : OpWord
    pub last : HasLast o xs word
    pub ran : has_run word.state ≡ true
    pub seen : Contains xs (left o word)
    pub attempt_is : word.attempt ≡ attempt
    pub began : is_idle first.state ≡ true
    pub kept : (attempt ≡ first.attempt) ⊎ IsDisturbed o xs
    pub values : List ℕ
    pub word_is : word ≡ finished (op_at p o).op attempt values
    pub outcome_is : r ≡ answer_of (value_of (op_at p o).op values)
    pub shown : Contains u.published (entry_of o word)
    -- The last step is the finish. The steps before it make o ready, claim it and fetch these values
    pub held : List CoreEvent
    pub claimed_with : IsClaimedWith o v.tag values v.events held
    pub steps : u.events ≡ Finish o v.tag ∷ held
    pub finished_more : evaluated u.events ≡ evaluated v.events + 1
    pub records : HasRecordsSeen p u o word values
    pub read : (j : ℕ) → j < places p o → IsReadValue xs (origin_at p o j) (slice_index values j)
    pub sources : (s : ℕ) → IsSourceOf p o s → IsValued xs s

  -- Operation o was not evaluated: the word w of its source `at` has no value, or is not settled at the last attempt
  pub record IsBlocked (first : OpWord) (at : ℕ) (w : OpWord) : Type 0 where
    pub began : is_idle first.state ≡ true
    pub source : IsSourceOpen p cap o v u xs at w
    pub other : at ≢ o
    -- The claim was given back, or never made
    pub back : (z : OpWord) → HasLast o xs z → (z ≡ blocked first.attempt) ⊎ IsDisturbed o xs
    pub cause : (is_idle w.state ≡ true) ⊎ ((first.attempt ≡ cap + 1) ⊎ IsDisturbed o xs)
    pub at_last : (is_idle w.state ≡ true) ⊎ Contains xs (left o (claimed (cap + 1) v.tag))
    pub steps : (u.events ≡ v.events) ⊎ IsGivenUp o v.tag v.events u.events

  -- Operation o was seen claimed by another hand, or another hand changed it during the call
  pub record IsBusy (first : OpWord) (w : OpWord) : Type 0 where
    pub began : is_idle first.state ≡ true
    pub last : HasLast o xs w
    pub seen : Contains xs (loaded o w)
    pub cause : (w.state ≡ Claimed) ⊎ IsDisturbed o xs
    pub by_another : w.state ≡ Claimed → w.by ≢ v.tag
    pub steps : IsReadiedOrNot o v.events u.events

  -- Operation o was evaluated or settled before, as its word w says, the only one that was loaded
  pub record IsAlready (w : OpWord) : Type 0 where
    pub only : xs ≡ loaded o w ∷ []
    pub there : is_idle w.state ≡ false
    pub stays : u.events ≡ v.events

  -- The answer of `evaluate` has its cause in the words xs
  abbrev pub EvaluationTells : OpWord → Evaluation → Type 0
  EvaluationTells first (Evaluated attempt r) = IsEvaluated first attempt r
  EvaluationTells first (BlockedOn source w) = IsBlocked first source w
  EvaluationTells first (BusyAt w) = IsBusy first w
  EvaluationTells first (Already w) = IsAlready w

-- The call `evaluate` led from view v to view u: its own steps are on operation o alone, and settle, spread and roll
-- back nothing, and o is reached
pub record EvaluationDoes (p : Plan) (cap o : ℕ) (v u : View) (r : Evaluation) : Type 0 where
  pub words : List Item
  pub goes : AddsAndFrees v u words
  pub own : OwnOn o words
  pub open_own : OwnOpen words
  pub first : OpWord
  pub rest : List Item
  pub begins : words ≡ loaded o first ∷ rest
  pub tells : EvaluationTells p cap o v u words first r
  pub reached : IsReached p o words
  pub no_spread : spreads u.events ≡ spreads v.events
  pub no_roll : rolled u.events ≡ rolled v.events

-- The call `evaluate` led from runner `before` to runner `after`: its view and the count of its answers changed, and
-- nothing else
pub record Tries (p : Plan) (cap o : ℕ) (before after : Runner) (r : Evaluation) : Type 0 where
  pub in_range : o < op_count p
  pub does : EvaluationDoes p cap o (hand_view before) (hand_view after) r
  pub counts : after.answers ≡ counted r before.answers
  pub kept : after.kept ≡ before.kept

-- The answer of `evaluate` that says the same as this one of `redo`
abbrev pub evaluation_of : Redone → Evaluation
evaluation_of (Good w) = Evaluated w.attempt (Executed w.value)
evaluation_of (Bad w) = Evaluated w.attempt Failed
evaluation_of (Open s w) = BlockedOn s w
evaluation_of (BusyAgain w) = BusyAt w

-- The call `redo` led from runner `before` to runner `after`: its view and the count of its answers changed, and
-- nothing else
pub record Redoes (p : Plan) (o : ℕ) (w : OpWord) (j : ℕ) (before after : Runner) (r : Redone) : Type 0 where
  pub does : RedoDoes p o w j (hand_view before) (hand_view after) r
  pub counts : after.answers ≡ counted (evaluation_of r) before.answers
  pub kept : after.kept ≡ before.kept

-- ---- on the way

-- The call has added the words xs so far. Its own steps are on operation o alone, and settle nothing
pub record SoFar (o : ℕ) (start v : View) (xs : List Item) : Type 0 where
  pub goes : AddsAndFrees start v xs
  pub own : OwnOn o xs
  pub open_own : OwnOpen xs

-- The call began with a load of an idle word, and w is the last word of operation o. It is at the attempt of the first
-- one, unless o was disturbed
pub record IsEvaluatingSoFar (o : ℕ) (start v : View) (xs : List Item) (w : OpWord) : Type 0 where
  pub far : SoFar o start v xs
  pub first : OpWord
  pub rest : List Item
  pub begins : xs ≡ loaded o first ∷ rest
  pub began : is_idle first.state ≡ true
  pub last : HasLast o xs w
  pub kept : (w.attempt ≡ first.attempt) ⊎ IsDisturbed o xs
  pub readied : IsReadiedOrNot o start.events v.events
  pub unready : w.state ≡ Blocked → v.events ≡ start.events

-- The fetches for an operation that is held at an attempt, with the views before and after them
pub record Fetching : Type 0 where
  pub op : ℕ
  pub attempt : ℕ
  pub before : View
  pub after : View

-- The fetches for operation o at attempt a, from view v to view u
abbrev pub fetching : (o a : ℕ) (v u : View) → Fetching
fetching o a v u = record { op = o; attempt = a; before = v; after = u }

-- The values of the places before j were fetched, each as it was loaded since the claim
pub record IsFetchedUpTo (p : Plan) (j : ℕ) (f : Fetching) : Type 0 where
  pub words : List Item
  pub adds : Adds f.before f.after words
  pub elsewhere : Elsewhere f.op words
  pub values : List ℕ
  pub holds : Holds f.after f.op f.attempt values
  pub count : length values ≡ j
  pub read : (k : ℕ) → k < j → IsReadValue words (origin_at p f.op k) (slice_index values k)
  pub valued : (k s : ℕ) → k < j → origin_at p f.op k ≡ Written s → IsValued words s
  pub steps : f.after.events ≡ fetches f.op f.before.tag 0 values f.before.events

-- A source stopped the call: its word has no value, or is not settled at the last attempt
pub record IsStopped (p : Plan) (cap : ℕ) (f : Fetching) (at : Stopped) : Type 0 where
  pub words : List Item
  pub adds : Adds f.before f.after words
  pub elsewhere : Elsewhere f.op words
  pub values : List ℕ
  pub holds : Holds f.after f.op f.attempt values
  pub source : IsSourceOf p f.op at.source
  pub inside : Contains words (loaded at.source at.word)
  pub settled : is_settled at.word.state ≡ false
  pub cause : (is_idle at.word.state ≡ true) ⊎ (f.attempt ≡ cap + 1)
  pub steps : f.after.events ≡ fetches f.op f.before.tag 0 values f.before.events

-- All places were fetched, or the answer is the source that stopped it
abbrev pub FetchAllTells : Plan → (cap : ℕ) → Fetching → Option Stopped → Type 0
FetchAllTells p cap f None = IsFetchedUpTo p (places p f.op) f
FetchAllTells p cap f (Some at) = IsStopped p cap f at
