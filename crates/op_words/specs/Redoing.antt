-- What taking back a stale operation and evaluating it again says: the cause of each answer, by the words loaded and
-- left in the call
use Rattle.std.specs.Prelude.{◌≡◌, ◌≢◌, ℕ, ◌+◌, ◌⊎◌, false, List, [], ◌∷◌, ◌++◌, Contains, Some, None}
use Rattle.morph_base.specs.declared.plan.Plan.{Plan}
use Rattle.morph_base.specs.declared.word.OpState.TheVariants.{Failed}
use Rattle.morph_base.specs.declared.word.OpWord.{OpWord}
use Rattle.morph_base.specs.Words.{is_settled}
use Rattle.interleaving_core.specs.declared.event.CoreEvent.{CoreEvent}
use Rattle.interleaving_core.specs.declared.event.CoreEvent.TheVariants.{Ready as ReadyStep, RollBack}
use Rattle.interleaving_core.specs.Core.{blocked, ready, claimed}
use Rattle.op_words.specs.declared.answers.Redone.{Redone}
use Rattle.op_words.specs.declared.answers.Redone.TheVariants.{Good, Bad, Open, Busy}
use Rattle.op_words.specs.declared.trail.Item.{Item}
use Rattle.op_words.specs.declared.trail.View.{View}
use Rattle.op_words.specs.Trails.{loaded, left, IsSourceOf, OwnOn, OwnOpen}
use Rattle.op_words.specs.Views.{AddsAndFrees, IsJudged}
use Rattle.op_words.specs.Attempts.{ran_steps}
use Rattle.op_words.specs.Calls.{Elsewhere}
use Rattle.op_words.specs.Judging.{IsAnswerSeen, IsGoodAt}

module _ (p : Plan) (o : ℕ) (w : OpWord) (j : ℕ) (v u : View) (xs : List Item) where
  -- The attempt behind that of the stale word
  abbrev pub next : ℕ
  next = w.attempt + 1

  -- The operation was taken back and evaluated again at its next attempt: it was left with the word z, whose records
  -- are the settled values of its sources
  pub record IsRedone (z : OpWord) : Type 0 where
    pub row : List Item
    pub elsewhere : Elsewhere o row
    pub words_are :
        xs ≡ row ++ (left o (blocked next) ∷ left o (ready next) ∷ left o (claimed next v.tag) ∷ left o z ∷ [])
    pub attempt_is : z.attempt ≡ next
    pub judged : IsJudged p u o z
    pub steps : u.events ≡ ran_steps o v.tag judged.values (RollBack o j ∷ v.events)

  -- It was evaluated again, and is good at the word z
  pub record IsGoodAgain (z : OpWord) : Type 0 where
    pub redone : IsRedone z
    pub good : IsGoodAt p u o z
    pub answer : IsAnswerSeen p u o (Some z.value)

  -- It was evaluated again, and failed with the word z
  pub record IsBadAgain (z : OpWord) : Type 0 where
    pub redone : IsRedone z
    pub failed : z.state ≡ Failed
    pub answer : IsAnswerSeen p u o None

  -- Its source `at` was loaded with a word that is not settled, and nothing was done
  pub record IsKeptOpen (at : ℕ) (z : OpWord) : Type 0 where
    pub elsewhere : Elsewhere o xs
    pub source : IsSourceOf p o at
    pub inside : Contains xs (loaded at z)
    pub settled : is_settled z.state ≡ false
    pub stays : u.events ≡ v.events

  -- The steps that the hand took on the operation before it found another word, with the words that it left and the
  -- word that it knew last: none, or it was taken back, or it was taken back and made ready
  abbrev pub IsOnTheWay : List Item → List CoreEvent → OpWord → Type 0
  IsOnTheWay own steps known =
      ((own ≡ []) × (steps ≡ []) × (known ≡ w))
      ⊎ (((own ≡ left o (blocked next) ∷ []) × (steps ≡ RollBack o j ∷ []) × (known ≡ blocked next))
      ⊎ ((own ≡ left o (blocked next) ∷ left o (ready next) ∷ []) × (steps ≡ ReadyStep o ∷ RollBack o j ∷ [])
      × (known ≡ ready next)))

  -- Another hand changed the operation: it was found with the word z, which is not the one that this hand knew last
  pub record IsInterrupted (z : OpWord) : Type 0 where
    pub row : List Item
    pub elsewhere : Elsewhere o row
    pub own : List Item
    pub taken : List CoreEvent
    pub known : OpWord
    pub way : IsOnTheWay own taken known
    pub differs : z ≢ known
    pub words_are : xs ≡ row ++ (own ++ loaded o z ∷ [])
    pub steps : u.events ≡ taken ++ v.events

  -- The answer of `redo` has its cause in the words xs
  abbrev pub RedoTells : Redone → Type 0
  RedoTells (Good z) = IsGoodAgain z
  RedoTells (Bad z) = IsBadAgain z
  RedoTells (Open at z) = IsKeptOpen at z
  RedoTells (Busy z) = IsInterrupted z

-- The call `redo` led from view v to view u, and its answer r has its cause in the words that it added
pub record RedoDoes (p : Plan) (o : ℕ) (w : OpWord) (j : ℕ) (v u : View) (r : Redone) : Type 0 where
  pub words : List Item
  pub goes : AddsAndFrees v u words
  pub own : OwnOn o words
  pub open_own : OwnOpen words
  pub tells : RedoTells p o w j v u words r
