-- What settling one transaction says: the cause of each answer, by the words loaded and left in the call
use Rattle.std.specs.Prelude.{◌≡◌, ◌↔◌, ◌≢◌, ℕ, ◌<◌, ◌≤◌, ◌⊎◌, Bool, true, false, List, [], ◌∷◌, length, Contains, Option, Some, None}
use Rattle.morph_base.specs.declared.plan.Plan.{Plan}
use Rattle.morph_base.specs.declared.word.OpState.TheVariants.{Claimed}
use Rattle.morph_base.specs.declared.word.OpWord.{OpWord}
use Rattle.morph_base.specs.Plans.{event_count, InEvent, verdict}
use Rattle.morph_base.specs.Words.{is_settled}
use Rattle.op_words.specs.declared.board.Board.{Board}
use Rattle.op_words.specs.declared.board.Hand.{Hand}
use Rattle.op_words.specs.declared.trail.Item.{Item}
use Rattle.op_words.specs.declared.trail.View.{View}
use Rattle.op_words.specs.Hands.{plan_of, view_of, IsHandOf}
use Rattle.op_words.specs.Trails.{loaded, HasLast, IsSourceOf, IsShaken, OwnIn}
use Rattle.op_words.specs.Views.{IsJudged, IsLone, IsSettledSeen, AddsAndFrees}
use Rattle.op_eval.specs.declared.answers.Answers.{Answers}
use Rattle.op_eval.specs.declared.answers.Evaluation.{Evaluation}
use Rattle.op_eval.specs.declared.runner.Runner.{Runner}
use Rattle.op_eval.specs.Running.{counted}
use Rattle.abort_lazy.specs.declared.transaction.TxnAnswer.{TxnAnswer}
use Rattle.abort_lazy.specs.declared.transaction.TxnAnswer.TheVariants.{Settled as AllSettled, NotYet, Busy}

-- A call may use hand h for event i of plan p: the hand is one of the board's and holds nothing, and the plan is the
-- board's and has the event
abbrev pub MaySettleEvent : Board → (h : Hand) → (p : Plan) → (i : ℕ) → Type 0
MaySettleEvent b h p i = IsHandOf b h × (p ≡ plan_of b) × (i < event_count p) × ((view_of h).claim ≡ None)

-- The hand saw each source of operation o settled
pub record AreSourcesSeen (p : Plan) (v : View) (o : ℕ) : Type 0 where
  pub each : (s : ℕ) → IsSourceOf p o s → IsSettledSeen v s

-- Operation o was settled at the attempt of the word at which it was judged
pub record IsSettledOn (p : Plan) (v : View) (o : ℕ) : Type 0 where
  pub word : OpWord
  pub judged : IsJudged p v o word
  pub seen : IsSettledSeen v o
  pub attempt_is : seen.note.word.attempt ≡ word.attempt

-- The test whether the answer is that all is settled
abbrev pub is_all_settled : TxnAnswer → Bool
is_all_settled (AllSettled committed) = true
is_all_settled (NotYet at w) = false
is_all_settled (Busy at w) = false

-- The answer r fits an operation o that was found with word w: it is none if w is settled, busy if w is claimed, and
-- else not yet
pub record StopsAt (o : ℕ) (w : OpWord) (r : Option TxnAnswer) : Type 0 where
  pub settled : is_settled w.state ≡ true → r ≡ None
  pub claimed : w.state ≡ Claimed → r ≡ Some (Busy o w)
  pub other : is_settled w.state ≡ false → w.state ≢ Claimed → r ≡ Some (NotYet o w)

module _ (p : Plan) (i : ℕ) (v u : View) (xs : List Item) where
  -- The operation `at` is a source of an operation of event i, and was loaded with word w, which is not settled
  pub record IsSourceCause (at : ℕ) (w : OpWord) : Type 0 where
    pub reader : ℕ
    pub inside : InEvent p i reader
    pub source : IsSourceOf p reader at
    pub seen : Contains xs (loaded at w)
    pub settled : is_settled w.state ≡ false

  -- The operation `at` of event i, or a source of it, was disturbed. The word w is the last one of `at`, and was loaded
  pub record IsShakenCause (at : ℕ) (w : OpWord) : Type 0 where
    pub inside : InEvent p i at
    pub last : HasLast at xs w
    pub seen : Contains xs (loaded at w)
    pub shaken : IsShaken p at xs

  -- The operation `at` of event i is held by another hand, as its last word w says, which was loaded
  pub record IsBusyCause (at : ℕ) (w : OpWord) : Type 0 where
    pub inside : InEvent p i at
    pub last : HasLast at xs w
    pub seen : Contains xs (loaded at w)
    pub claimed : w.state ≡ Claimed
    pub other : w.by ≢ v.tag

  -- The answer of `settle_txn` has its cause in the words xs
  abbrev pub AnswersWithCause : TxnAnswer → Type 0
  AnswersWithCause (AllSettled committed) = committed ≡ verdict p i
  AnswersWithCause (NotYet at w) = IsSourceCause at w ⊎ IsShakenCause at w
  AnswersWithCause (Busy at w) = IsBusyCause at w

  -- The answer r of `settle_txn` is right for event i
  pub record TxnTells (r : TxnAnswer) : Type 0 where
    pub cause : AnswersWithCause r
    -- The answer is that all is settled exactly if the hand saw each operation of the event settled
    pub exact : (is_all_settled r ≡ true) ↔ ((o : ℕ) → InEvent p i o → IsSettledSeen u o)
    -- A hand that is the only one made settles an event if it had seen all of the event's sources settled
    pub lone : IsLone v → ((o : ℕ) → InEvent p i o → AreSourcesSeen p v o) → is_all_settled r ≡ true
    -- It settles each operation that it had not seen settled at the attempt of the word at which it judged it
    pub agreed : IsLone v → is_all_settled r ≡ true
        → (o : ℕ) → InEvent p i o → (IsSettledSeen v o → ⊥) → IsSettledOn p u o

-- The call `settle_txn` led from view v to view u: its own steps are on operations of event i alone, and its answer r
-- is right
pub record TxnDoes (p : Plan) (i : ℕ) (v u : View) (r : TxnAnswer) : Type 0 where
  pub words : List Item
  pub goes : AddsAndFrees v u words
  pub own : OwnIn p i words
  pub tells : TxnTells p i v u words r

-- ---- what a runner counts

-- The counts after these answers of `evaluate`, or those of `redo` that say the same, one after another
unfoldable pub counted_all : List Evaluation → Answers → Answers
counted_all [] n = n
counted_all (r ∷ rs) n = counted_all rs (counted r n)

-- The runner was given at most this many answers, and counted each. What it keeps is as it was
pub record IsAnswered (most : ℕ) (before after : Runner) : Type 0 where
  pub answers : List Evaluation
  pub few : length answers ≤ most
  pub counts : after.answers ≡ counted_all answers before.answers
  pub kept : after.kept ≡ before.kept
