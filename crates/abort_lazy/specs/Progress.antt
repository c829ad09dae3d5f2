-- Inside the crate: what is known on the way through one transaction
use Rattle.std.specs.Prelude.{◌≡◌, ◌≢◌, ℕ, ◌-◌, ◌≤◌, ◌<◌, ◌⊎◌, Bool, true, false, List, ◌++◌, Contains, Option, Some, None, Result, Ok, Err, length, slice_index_or}
use Rattle.morph_base.specs.declared.plan.Plan.{Plan}
use Rattle.morph_base.specs.declared.word.OpState.TheVariants.{Claimed, Failed, Spread}
use Rattle.morph_base.specs.declared.word.OpWord.{OpWord}
use Rattle.morph_base.specs.Plans.{InEvent, event_at, final, verdict}
use Rattle.morph_base.specs.Clean.{outcome}
use Rattle.morph_base.specs.Words.{is_idle, is_settled}
use Rattle.interleaving_core.specs.Core.{blocked, has_run}
use Rattle.op_words.specs.declared.answers.Outcome.{Outcome}
use Rattle.op_words.specs.declared.trail.Item.{Item}
use Rattle.op_words.specs.declared.trail.View.{View}
use Rattle.op_words.specs.Trails.{loaded, HasLast, IsDisturbed, OwnOn, OwnIn, OwnOpen, NoneOwn}
use Rattle.op_words.specs.Views.{IsDecisionSeen, IsJudged, IsLone, IsSettledSeen, AddsAndFrees}
use Rattle.op_words.specs.Judging.{IsAnswerSeen, IsGoodAt, IsGoodSeen, MaySayOf}
use Rattle.op_eval.specs.Evaluations.{IsEvaluated, SoFar}
use Rattle.abort_lazy.specs.declared.transaction.TxnAnswer.{TxnAnswer}
use Rattle.abort_lazy.specs.declared.transaction.TxnAnswer.TheVariants.{NotYet, Busy}
use Rattle.abort_lazy.specs.declared.transaction.standing.Grounds.{Grounds}
use Rattle.abort_lazy.specs.declared.transaction.standing.Say.{Say}
use Rattle.abort_lazy.specs.declared.transaction.standing.Say.TheVariants.{Commit, Abort, Decided as IsDecidedNow}
use Rattle.abort_lazy.specs.declared.transaction.standing.Standing.{Standing}
use Rattle.abort_lazy.specs.declared.transaction.standing.Standing.TheVariants.{Good, Bad, Settled as IsSettledNow, Stopped}
use Rattle.abort_lazy.specs.Transactions.{AreSourcesSeen, AnswersWithCause, is_all_settled}

-- ---- one operation, so far

-- A call so far: the view at its start, the view now, and the words that it added in between
pub record CallSoFar : Type 0 where
  pub start : View
  pub now : View
  pub words : List Item

-- The call that began with view v, has view u now, and added the words xs
abbrev pub so_far : (v u : View) → List Item → CallSoFar
so_far v u xs = record { start = v; now = u; words = xs }

-- The last word of operation o in the call so far has no value yet
pub record IsIdleSoFar (o : ℕ) (c : CallSoFar) : Type 0 where
  pub far : SoFar o c.start c.now c.words
  pub word : OpWord
  pub last : HasLast o c.words word
  pub idle : is_idle word.state ≡ true

-- The word w of operation o is its last one in the call so far
pub record IsStaleSoFar (o : ℕ) (w : OpWord) (c : CallSoFar) : Type 0 where
  pub far : SoFar o c.start c.now c.words
  pub last : HasLast o c.words w

-- The last word of operation o in the call so far is spread, below the last attempt
pub record IsSpreadSoFar (cap o : ℕ) (c : CallSoFar) : Type 0 where
  pub far : SoFar o c.start c.now c.words
  pub word : OpWord
  pub last : HasLast o c.words word
  pub spread : word.state ≡ Spread
  pub below : word.attempt ≤ cap

-- The back part of the call so far evaluated operation o
pub record IsMadeSoFar (p : Plan) (cap o : ℕ) (c : CallSoFar) : Type 0 where
  pub far : SoFar o c.start c.now c.words
  pub before : View
  pub front : List Item
  pub back : List Item
  pub parts : c.words ≡ front ++ back
  pub goes : AddsAndFrees before c.now back
  pub first : OpWord
  pub attempt : ℕ
  pub value : Outcome
  pub evaluated : IsEvaluated p cap o before c.now back first attempt value

-- The word w of operation o, the last one in the call so far, was loaded. It is neither executed nor failed, or o was
-- disturbed
pub record IsFoundSoFar (p : Plan) (cap o : ℕ) (c : CallSoFar) (w : OpWord) : Type 0 where
  pub far : SoFar o c.start c.now c.words
  pub last : HasLast o c.words w
  pub seen : Contains c.words (loaded o w)
  pub cause : (has_run w.state ≡ false) ⊎ IsDisturbed o c.words
  pub spread : w.state ≡ Spread → w.attempt ≤ cap

-- ---- ready for the decision

-- Operation o was judged at its last word in the call
pub record IsJudgedLast (p : Plan) (o : ℕ) (u : View) (xs : List Item) : Type 0 where
  pub word : OpWord
  pub last : HasLast o xs word
  pub judged : IsJudged p u o word
  pub fails : word.state ≡ Failed → outcome p (final p) o ≡ None

-- Operation o was seen settled, or judged at its last word, or was disturbed
abbrev pub IsDealtWith : Plan → ℕ → View → List Item → Type 0
IsDealtWith p o u xs = IsSettledSeen u o ⊎ (IsJudgedLast p o u xs ⊎ IsDisturbed o xs)

-- Operation o was judged good at word w. It is its last word in the call, unless o was disturbed
pub record IsGoodLast (p : Plan) (o : ℕ) (u : View) (xs : List Item) (w : OpWord) : Type 0 where
  pub last : HasLast o xs w ⊎ IsDisturbed o xs
  pub good : IsGoodAt p u o w
  pub answers : IsGoodSeen p u o

-- The answer r is not that all is settled, and has its cause in the call
pub record StopsWithCause (p : Plan) (i : ℕ) (v u : View) (xs : List Item) (r : TxnAnswer) : Type 0 where
  pub stopped : is_all_settled r ≡ false
  pub cause : AnswersWithCause p i v u xs r
  pub not_all : ((o : ℕ) → InEvent p i o → IsSettledSeen u o) → ⊥
  pub lone : IsLone v → ((o : ℕ) → InEvent p i o → AreSourcesSeen p v o) → ⊥

-- The standing r fits an operation o that was found with word w: it is settled if w is. Otherwise the call stops, busy
-- if w is claimed, and else not yet
pub record IsStandingOf (o : ℕ) (w : OpWord) (r : Standing) : Type 0 where
  pub settled : is_settled w.state ≡ true → r ≡ IsSettledNow
  pub claimed : w.state ≡ Claimed → r ≡ Stopped (Busy o w)
  pub other : is_settled w.state ≡ false → w.state ≢ Claimed → r ≡ Stopped (NotYet o w)

-- What the call says of operation o by its standing: it is good, bad or settled, or the call stops
abbrev pub StandingTells : Plan → ℕ → ℕ → View → View → List Item → Standing → Type 0
StandingTells p i o start u xs (Good w) = IsGoodLast p o u xs w
StandingTells p i o start u xs Bad = IsAnswerSeen p u o None
StandingTells p i o start u xs IsSettledNow = IsSettledSeen u o
StandingTells p i o start u xs (Stopped r) = StopsWithCause p i start u xs r

-- The standing lets the call go on
abbrev pub LetsPass : Standing → Type 0
LetsPass (Good w) = Unit {0}
LetsPass Bad = Unit {0}
LetsPass IsSettledNow = Unit {0}
LetsPass (Stopped r) = ⊥

-- Operation o was made ready for the decision as far as it could be, and this is its standing
pub record ReadyDoes (p : Plan) (i o : ℕ) (start u : View) (r : Standing) : Type 0 where
  pub words : List Item
  pub far : SoFar o start u words
  pub tells : StandingTells p i o start u words r
  pub dealt : LetsPass r → IsDealtWith p o u words

-- ---- what the operations say of the event

-- The word in an empty place
abbrev pub no_word : OpWord
no_word = blocked 1

-- The word at which operation o of event i was judged, if it was good
abbrev pub word_at : Plan → (i : ℕ) → Grounds → (o : ℕ) → OpWord
word_at p i g o = slice_index_or g.words (o - (event_at p i).first) no_word

-- The grounds after the operation of this number was heard, and the answer, if the operation stops the call
abbrev pub HasHeard : ℕ → Standing → Grounds → Grounds → Option TxnAnswer → Type 0
HasHeard number (Good w) g h r =
    (r ≡ None) × (h.say ≡ g.say) × (length h.words ≡ length g.words)
    × (slice_index_or h.words number no_word ≡ w)
    × ((k : ℕ) → k ≢ number → slice_index_or h.words k no_word ≡ slice_index_or g.words k no_word)
HasHeard number Bad g h r = (r ≡ None) × (h.say ≡ Abort)
HasHeard number IsSettledNow g h r = (r ≡ None) × (h.say ≡ IsDecidedNow)
HasHeard number (Stopped a) g h r = r ≡ Some a

-- Operation o of event i was made ready for the decision as far as it could be, and what it says was added, by its
-- number in the event. It stops the call if there is an answer
pub record PreparesOne (p : Plan) (i o number : ℕ) (start u : View) (g h : Grounds) (r : Option TxnAnswer) : Type 0 where
  pub standing : Standing
  pub ready : ReadyDoes p i o start u standing
  pub heard : HasHeard number standing g h r

-- What the operations of event i that are meant say of it: all are good, or one is bad, or this says nothing
abbrev pub SayTells : Plan → ℕ → (ℕ → Type 0) → View → List Item → Grounds → Say → Type 0
SayTells p i meant u xs g Commit = (o : ℕ) → meant o → IsGoodLast p o u xs (word_at p i g o)
SayTells p i meant u xs g Abort = (o : ℕ) × InEvent p i o × IsAnswerSeen p u o None
SayTells p i meant u xs g IsDecidedNow = Unit {0}

-- The hand has seen what decides event i, if its operations say how
abbrev pub SaysSo : Plan → (i : ℕ) → View → Say → Type 0
SaysSo p i v Commit = MaySayOf p v i true
SaysSo p i v Abort = MaySayOf p v i false
SaysSo p i v IsDecidedNow = Unit {0}

-- Each operation of event i was dealt with, and this is what they say of it
pub record IsAllReady (p : Plan) (i : ℕ) (u : View) (xs : List Item) (g : Grounds) : Type 0 where
  pub each : (o : ℕ) → InEvent p i o → IsDealtWith p o u xs
  pub says : SayTells p i (InEvent p i) u xs g g.say

-- Each operation of event i was dealt with, or the answer stops the call
abbrev pub AllReadyTells : Plan → ℕ → View → View → List Item → Grounds → Option TxnAnswer → Type 0
AllReadyTells p i v u xs g None = IsAllReady p i u xs g
AllReadyTells p i v u xs g (Some r) = StopsWithCause p i v u xs r

-- The operations of event i were made ready for the decision as far as they could be, and this is the answer
pub record AllReadyDoes (p : Plan) (i : ℕ) (v u : View) (g : Grounds) (r : Option TxnAnswer) : Type 0 where
  pub words : List Item
  pub goes : AddsAndFrees v u words
  pub open_own : OwnOpen words
  pub own : OwnIn p i words
  pub tells : AllReadyTells p i v u words g r

-- The operations from `first` on, before `op`, were dealt with, and this is what they say of the event
pub record IsReadyUpTo (p : Plan) (i first op : ℕ) (start v : View) (g : Grounds) : Type 0 where
  pub words : List Item
  pub goes : AddsAndFrees start v words
  pub open_own : OwnOpen words
  pub own : OwnIn p i words
  pub ready : (o : ℕ) → first ≤ o → o < op → IsDealtWith p o v words
  pub says : SayTells p i (λ o. (first ≤ o) × (o < op)) v words g g.say

-- ---- decided and settled

-- If the operations that are `concerned` were dealt with in the call so far, the answer r has its cause in the whole
-- call
abbrev pub StopsAfter : Plan → ℕ → (ℕ → View → List Item → Type 0) → View → View → List Item → TxnAnswer → Type 0
StopsAfter p i ready v u ys r =
    (start : View) (xs : List Item) → AddsAndFrees start v xs → ((o : ℕ) → InEvent p i o → ready o v xs)
    → StopsWithCause p i start u (xs ++ ys) r

-- Event i is decided as the fold decides, and the hand knows it
pub record IsDecidedAs (p : Plan) (i : ℕ) (u : View) (committed : Bool) : Type 0 where
  pub right : committed ≡ verdict p i
  pub known : IsDecisionSeen u i committed

-- The answer is the decision on event i, or stops the call
abbrev pub DecidedTells : Plan → ℕ → View → View → List Item → Result Bool TxnAnswer → Type 0
DecidedTells p i v u ys (Ok committed) = IsDecidedAs p i u committed
DecidedTells p i v u ys (Err r) = StopsAfter p i (IsDealtWith p) v u ys r

-- Event i was to be decided, and this is the answer
pub record DecidedDoes (p : Plan) (i : ℕ) (v u : View) (r : Result Bool TxnAnswer) : Type 0 where
  pub words : List Item
  pub goes : AddsAndFrees v u words
  pub none : NoneOwn words
  pub tells : DecidedTells p i v u words r

-- The hand knows the decision on event i. If the event commits by its grounds, each operation is good at its word
pub record IsDecidedBy (p : Plan) (i : ℕ) (v : View) (g : Grounds) : Type 0 where
  pub committed : Bool
  pub known : IsDecisionSeen v i committed
  pub commits : g.say ≡ Commit → committed ≡ true
  pub good : g.say ≡ Commit → (o : ℕ) → InEvent p i o → IsGoodAt p v o (word_at p i g o)

-- What is known of operation o in the call so far, before it is settled: if the event commits by its grounds, the last
-- word of o is the one at which it was judged, or o was disturbed
abbrev pub IsReadyBy : Plan → (i : ℕ) → Grounds → Say → ℕ → View → List Item → Type 0
IsReadyBy p i g Commit o v xs = HasLast o xs (word_at p i g o) ⊎ IsDisturbed o xs
IsReadyBy p i g Abort o v xs = IsDealtWith p o v xs
IsReadyBy p i g IsDecidedNow o v xs = IsDealtWith p o v xs

-- The word w is one from which operation o can be settled: the one at which it was judged, if the event commits by its
-- grounds, and else one that is executed or failed
abbrev pub CanBeSettledFrom : Plan → (i : ℕ) → Grounds → Say → ℕ → OpWord → Type 0
CanBeSettledFrom p i g Commit o w = w ≡ word_at p i g o
CanBeSettledFrom p i g Abort o w = has_run w.state ≡ true
CanBeSettledFrom p i g IsDecidedNow o w = has_run w.state ≡ true

-- Operation o is settled. If it was not disturbed, it was settled at the attempt of the word that it had last
pub record IsOneSettled (p : Plan) (i : ℕ) (g : Grounds) (o : ℕ) (v u : View) (ys : List Item) : Type 0 where
  pub seen : IsSettledSeen u o
  pub from : (xs : List Item) (w : OpWord) → HasLast o xs w → CanBeSettledFrom p i g g.say o w
      → IsDisturbed o (xs ++ ys) ⊎ (seen.note.word.attempt ≡ w.attempt)

-- Operation o is settled, or the answer stops the call
abbrev pub OneTells : Plan → ℕ → Grounds → ℕ → View → View → List Item → Option TxnAnswer → Type 0
OneTells p i g o v u ys None = IsOneSettled p i g o v u ys
OneTells p i g o v u ys (Some r) =
    (start : View) (xs : List Item) → AddsAndFrees start v xs → IsReadyBy p i g g.say o v xs
    → StopsWithCause p i start u (xs ++ ys) r

-- Operation o was to be settled, and this is the answer
pub record OneDoes (p : Plan) (i : ℕ) (g : Grounds) (o : ℕ) (v u : View) (r : Option TxnAnswer) : Type 0 where
  pub words : List Item
  pub goes : AddsAndFrees v u words
  pub own : OwnOn o words
  pub tells : OneTells p i g o v u words r

-- Each operation of event i is settled, or the answer stops the call
abbrev pub RestTells : Plan → ℕ → Grounds → View → View → List Item → Option TxnAnswer → Type 0
RestTells p i g v u ys None = (o : ℕ) → InEvent p i o → IsOneSettled p i g o v u ys
RestTells p i g v u ys (Some r) = StopsAfter p i (IsReadyBy p i g g.say) v u ys r

-- The operations of event i were to be settled, and this is the answer
pub record RestDoes (p : Plan) (i : ℕ) (g : Grounds) (v u : View) (r : Option TxnAnswer) : Type 0 where
  pub words : List Item
  pub goes : AddsAndFrees v u words
  pub own : OwnIn p i words
  pub tells : RestTells p i g v u words r

-- The operations from `first` on, before `op`, are settled
pub record IsSettledUpTo (p : Plan) (i : ℕ) (g : Grounds) (first op : ℕ) (begin v : View) : Type 0 where
  pub words : List Item
  pub goes : AddsAndFrees begin v words
  pub settled : (o : ℕ) → first ≤ o → o < op → IsOneSettled p i g o begin v words
  pub own : (t : Item) → Contains words t → t.own ≡ true → t.op < op
  pub within : OwnIn p i words
