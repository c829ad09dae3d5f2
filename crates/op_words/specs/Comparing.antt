-- Inside the crate: records of an operation beside its settled sources, and what a hand has to have seen to decide and
-- settle
use Rattle.std.specs.Prelude.{◌≡◌, ◌≢◌, ℕ, ◌<◌, ◌⊎◌, true, false, List, [], ◌∷◌, Contains, None, Result, Ok, Err}
use Rattle.morph_base.specs.declared.plan.Plan.{Plan}
use Rattle.morph_base.specs.declared.plan.Origin.TheVariants.{Op as Written}
use Rattle.morph_base.specs.declared.word.OpState.TheVariants.{Executed}
use Rattle.morph_base.specs.declared.word.OpWord.{OpWord}
use Rattle.morph_base.specs.Clean.{source}
use Rattle.morph_base.specs.Plans.{event_of, origin_at, final, InEvent}
use Rattle.morph_base.specs.Words.{is_settled, settled, settled_aborted}
use Rattle.interleaving_core.specs.Core.{blocked, is_open, places}
use Rattle.op_words.specs.declared.answers.Compared.{Compared}
use Rattle.op_words.specs.declared.answers.Compared.TheVariants.{Equal, Open, Differs}
use Rattle.op_words.specs.declared.answers.Decided.{Decided}
use Rattle.op_words.specs.declared.answers.Decided.TheVariants.{Committed, Aborted, NotYet as Undecided}
use Rattle.op_words.specs.declared.answers.Stop.{Stop}
use Rattle.op_words.specs.declared.answers.SettleAnswer.{SettleAnswer}
use Rattle.op_words.specs.declared.answers.SettleAnswer.TheVariants.{Done as HasSettledIt, Not as Unsettled}
use Rattle.op_words.specs.declared.answers.Verdict.{Verdict}
use Rattle.op_words.specs.declared.answers.Verdict.TheVariants.{Good, Stale, Unready}
use Rattle.op_words.specs.declared.trail.Item.{Item}
use Rattle.op_words.specs.declared.trail.View.{View}
use Rattle.op_words.specs.Trails.{loaded, left, last_word, HasLast, IsSourceOf, OfSources, NoneOwn}
use Rattle.op_words.specs.Views.{IsDecisionSeen, IsRecordSeen, IsSourceSeen, AddsAndFrees, last_place, settling}
use Rattle.op_words.specs.Calls.{IsSettledRead}
use Rattle.op_words.specs.Judging.{IsStaleAt, IsStaleSeen, VerdictTells, IsAnswerSeen, IsGoodAt, IsJudgedGood, IsDoubtful, IsInDoubt}
use Rattle.op_words.specs.Hands.{cap_of, plan_of, view_of, HandCall, IsHandOf}
use Rattle.op_words.specs.Stepping.{Looked, Left, IsWalk}

-- All words in xs are of operation o or of sources of it
abbrev pub OfReads : Plan → ℕ → List Item → Type 0
OfReads p o xs = (t : Item) → Contains xs t → (t.op ≡ o) ⊎ IsSourceOf p o t.op

-- ---- one place

-- The source of operation o at place j was loaded settled, or is a base, with value x, which is the fold's
pub record IsSourceRight (p : Plan) (o j : ℕ) (xs : List Item) (u : View) (x : ℕ) : Type 0 where
  pub read : IsSettledRead xs (origin_at p o j) x
  pub seen : IsSourceSeen u (origin_at p o j) x
  pub fold : x ≡ source p (final p) o j

-- The source of operation o at place j was loaded, and is not settled
pub record IsOpenAt (p : Plan) (o j : ℕ) (xs : List Item) (stop : Stop) : Type 0 where
  pub source_is : origin_at p o j ≡ Written stop.source
  pub inside : Contains xs (loaded stop.source stop.word)
  pub settled : is_settled stop.word.state ≡ false

-- The answer is the settled value of the source at place j, or the source with its word that is not settled
abbrev pub SettledTells : Plan → ℕ → ℕ → List Item → View → Result ℕ Stop → Type 0
SettledTells p o j xs u (Ok x) = IsSourceRight p o j xs u x
SettledTells p o j xs u (Err stop) = IsOpenAt p o j xs stop

-- The source of operation o at place j was loaded, and this is the answer
pub record IsLoadedAt (c : HandCall) (p : Plan) (o j : ℕ) (r : Result ℕ Stop) : Type 0 where
  pub words : List Item
  pub walk : IsWalk c o words
  pub sources : OfSources p o words
  pub tells : SettledTells p o j words (view_of c.after) r

-- Under word w of operation o, the record at place j is the fold's value of its source, which is settled
pub record IsEqualAt (p : Plan) (o : ℕ) (w : OpWord) (u : View) (j : ℕ) : Type 0 where
  pub seen : IsSourceSeen u (origin_at p o j) (source p (final p) o j)
  pub recorded : IsRecordSeen u o j w (source p (final p) o j)

-- A place, the value that its record has, and that of its source
pub record PlaceDifference : Type 0 where
  pub place : ℕ
  pub kept : ℕ
  pub value : ℕ

-- The difference at a place
abbrev pub difference_at : (place kept value : ℕ) → PlaceDifference
difference_at place kept value = record { place = place; kept = kept; value = value }

-- Under word w of operation o, the record at a place has another value than its settled source. It is the record that
-- was loaded last
pub record IsOtherAt (p : Plan) (o : ℕ) (w : OpWord) (xs : List Item) (u : View) (d : PlaceDifference) : Type 0 where
  pub in_places : d.place < places p o
  pub right : IsSourceRight p o d.place xs u d.value
  pub recorded : IsRecordSeen u o d.place w d.kept
  pub differs : d.kept ≢ d.value
  pub noted : last_place 0 u.records ≡ d.place

-- The word w of operation o is the one that was noted last
abbrev pub IsNotedLast : ℕ → View → OpWord → Type 0
IsNotedLast o v w = last_word o (blocked 1) v.notes ≡ w

-- The answer says that the record at place j is equal to its settled source, that the source is not settled, or that
-- the record differs
abbrev pub PlaceIsCompared : Plan → ℕ → OpWord → ℕ → List Item → View → Compared → Type 0
PlaceIsCompared p o w j xs u Equal = IsEqualAt p o w u j
PlaceIsCompared p o w j xs u (Open stop) = IsOpenAt p o j xs stop
PlaceIsCompared p o w j xs u (Differs k kept value) = IsOtherAt p o w xs u (difference_at k kept value)

-- The record of operation o at place j was compared with its source, and this is the answer
pub record IsComparedAt (c : HandCall) (p : Plan) (o j : ℕ) (r : Compared) : Type 0 where
  pub words : List Item
  pub walk : IsWalk c o words
  pub sources : OfSources p o words
  pub tells : (w : OpWord) → IsNotedLast o (view_of c.before) w → PlaceIsCompared p o w j words (view_of c.after) r

-- ---- all places

-- The records of operation o at the places before j are equal to their sources
pub record IsComparedUpTo (c : HandCall) (p : Plan) (o j : ℕ) : Type 0 where
  pub words : List Item
  pub walk : IsWalk c o words
  pub sources : OfSources p o words
  pub equal : (w : OpWord) → IsNotedLast o (view_of c.before) w → (k : ℕ) → k < j → IsEqualAt p o w (view_of c.after) k

-- A source of operation o was loaded, and is not settled
pub record IsStoppedAt (p : Plan) (o : ℕ) (xs : List Item) (stop : Stop) : Type 0 where
  pub source : IsSourceOf p o stop.source
  pub inside : Contains xs (loaded stop.source stop.word)
  pub settled : is_settled stop.word.state ≡ false

-- The answer says that each record is equal to its settled source, that a source is not settled, or that a record
-- differs
abbrev pub AllTells : Plan → ℕ → OpWord → List Item → View → Compared → Type 0
AllTells p o w xs u Equal = (j : ℕ) → j < places p o → IsEqualAt p o w u j
AllTells p o w xs u (Open stop) = IsStoppedAt p o xs stop
AllTells p o w xs u (Differs j kept value) = IsOtherAt p o w xs u (difference_at j kept value)

-- The records of operation o were compared with their sources, and this is the answer
pub record IsCompared (c : HandCall) (p : Plan) (o : ℕ) (r : Compared) : Type 0 where
  pub words : List Item
  pub walk : IsWalk c o words
  pub sources : OfSources p o words
  pub tells : (w : OpWord) → IsNotedLast o (view_of c.before) w → AllTells p o w words (view_of c.after) r

-- ---- the word again

-- Operation o was loaded again, with word w. If this is the first word, the verdict stays; else o is not ready to be
-- judged
pub record IsConfirmed (c : HandCall) (o : ℕ) (first : OpWord) (verdict : Verdict) (w : OpWord) (r : Verdict) : Type 0 where
  pub looked : Looked c o w
  pub tells : ((w ≡ first) × (r ≡ verdict)) ⊎ ((w ≢ first) × (r ≡ Unready o w))

-- ---- a verdict, with the word that it is about

-- Operation o was judged with the answer r. The call loads o first, and then only o and its sources. A stale answer and
-- a good one are about this word w
pub record IsJudgedAs (c : HandCall) (p : Plan) (cap o : ℕ) (w : OpWord) (r : Verdict) : Type 0 where
  pub hand : IsHandOf c.board c.after
  pub words : List Item
  pub goes : AddsAndFrees (view_of c.before) (view_of c.after) words
  pub none : NoneOwn words
  pub reads : OfReads p o words
  pub first : OpWord
  pub rest : List Item
  pub begins : words ≡ loaded o first ∷ rest
  pub stays : (view_of c.after).events ≡ (view_of c.before).events
  pub tells : VerdictTells p cap o (view_of c.before) (view_of c.after) words r
  pub stale :
      (j kept value : ℕ) → r ≡ Stale j kept value → IsStaleAt p cap o (view_of c.before) (view_of c.after) words w j kept value
  pub stale_seen : (j kept value : ℕ) → r ≡ Stale j kept value → IsStaleSeen p cap (view_of c.after) o w j
  pub good : (x : ℕ) → r ≡ Good x → HasLast o words w × IsGoodAt p (view_of c.after) o w

-- ---- what the operations of an event say of it

-- The answer says that operation o is good, that it fails on sources that the hand saw settled, or that it is in doubt
abbrev pub WeighTells : Plan → ℕ → ℕ → View → View → List Item → Decided → Type 0
WeighTells p cap o v u xs Committed = IsJudgedGood p cap o v u xs
WeighTells p cap o v u xs Aborted = IsAnswerSeen p u o None
WeighTells p cap o v u xs (Undecided at w) = IsDoubtful p cap o v u xs at w

-- Operation o was judged, and the answer is what it says of its event. The call loads o first, and then only o and its
-- sources
pub record IsWeighed (c : HandCall) (p : Plan) (cap o : ℕ) (r : Decided) : Type 0 where
  pub hand : IsHandOf c.board c.after
  pub words : List Item
  pub goes : AddsAndFrees (view_of c.before) (view_of c.after) words
  pub none : NoneOwn words
  pub reads : OfReads p o words
  pub first : OpWord
  pub rest : List Item
  pub begins : words ≡ loaded o first ∷ rest
  pub stays : (view_of c.after).events ≡ (view_of c.before).events
  pub tells : WeighTells p cap o (view_of c.before) (view_of c.after) words r

-- The call judged operation o good, by the words xs
abbrev pub FindsGood : HandCall → Plan → List Item → ℕ → Type 0
FindsGood c p xs o = IsJudgedGood p (cap_of c.board) o (view_of c.before) (view_of c.after) xs

-- The call found operation o good or in doubt, by the words xs
abbrev pub FindsNoFailure : HandCall → Plan → List Item → ℕ → Type 0
FindsNoFailure c p xs o =
    FindsGood c p xs o ⊎ IsInDoubt p (cap_of c.board) o (view_of c.before) (view_of c.after) xs

-- Of the operations of event i below `end` one is in doubt, those before it are good, and each behind it is good or in
-- doubt. The word that stopped the call is one of the words xs
pub record HasDoubt (c : HandCall) (p : Plan) (i end : ℕ) (xs : List Item) (stop : Stop) : Type 0 where
  pub culprit : ℕ
  pub inside : InEvent p i culprit
  pub below : culprit < end
  pub doubt : IsDoubtful p (cap_of c.board) culprit (view_of c.before) (view_of c.after) xs stop.source stop.word
  pub before : (o : ℕ) → InEvent p i o → o < culprit → FindsGood c p xs o
  pub behind : (o : ℕ) → InEvent p i o → culprit < o → o < end → FindsNoFailure c p xs o

-- The answer says that all operations of event i below `end` are good, that one fails, or that one is in doubt
abbrev pub GroundsTell : HandCall → Plan → (i end : ℕ) → List Item → Decided → Type 0
GroundsTell c p i end xs Committed = (o : ℕ) → InEvent p i o → o < end → FindsGood c p xs o
GroundsTell c p i end xs Aborted = (o : ℕ) × InEvent p i o × IsAnswerSeen p (view_of c.after) o None
GroundsTell c p i end xs (Undecided at w) = HasDoubt c p i end xs (record { source = at; word = w })

-- The operations of event i below `end` were judged, and the answer is what they say of it
pub record HasFoundGrounds (c : HandCall) (p : Plan) (i end : ℕ) (r : Decided) : Type 0 where
  pub hand : IsHandOf c.board c.after
  pub words : List Item
  pub goes : AddsAndFrees (view_of c.before) (view_of c.after) words
  pub none : NoneOwn words
  pub stays : (view_of c.after).events ≡ (view_of c.before).events
  pub tells : GroundsTell c p i end words r

-- ---- what a hand has to have seen

-- The word w of operation o may become the settled word z of a committed event: w is executed on records that are the
-- values of its sources
pub record IsToCommit (p : Plan) (v : View) (o : ℕ) (w z : OpWord) : Type 0 where
  pub decided : IsDecisionSeen v (event_of p o) true
  pub executed : w.state ≡ Executed
  pub equal : (j : ℕ) → j < places p o → IsEqualAt p o w v j
  pub word_is : z ≡ settled w.attempt w.value v.tag

-- The word w of operation o may become the settled word z of an aborted event: w is open, and z has the value of its
-- target's source
pub record IsToAbort (p : Plan) (v : View) (o : ℕ) (w z : OpWord) : Type 0 where
  pub decided : IsDecisionSeen v (event_of p o) false
  pub open_is : is_open w.state ≡ true
  pub target : IsSourceSeen v (origin_at p o 0) (source p (final p) o 0)
  pub word_is : z ≡ settled_aborted w.attempt (source p (final p) o 0) v.tag

-- The word w of operation o may become the settled word z
abbrev pub MaySettleIt : Plan → View → ℕ → OpWord → OpWord → Type 0
MaySettleIt p v o w z = IsToCommit p v o w z ⊎ IsToAbort p v o w z

-- ---- settling

-- The call began with a load of the word w of operation o
pub record BeginsWithLoad (p : Plan) (o : ℕ) (v u : View) (w : OpWord) : Type 0 where
  pub goes : AddsAndFrees v u (loaded o w ∷ [])
  pub tag : u.tag ≡ v.tag
  pub stays : u.events ≡ v.events

-- The exchange settled operation o with the fold's value, or found another word
abbrev pub SealTells : HandCall → ℕ → OpWord → OpWord → SettleAnswer → Type 0
SealTells c o w z (HasSettledIt x) =
    Left c (settling o z (view_of c.before)) (left o z) × (x ≡ z.value) × (z.value ≡ final (plan_of c.board) o)
SealTells c o w z (Unsettled at found) = (at ≡ o) × (found ≢ w) × Looked c o found

-- The exchange of word w of operation o for the settled word z was tried, and this is the answer
pub record IsSealed (c : HandCall) (o : ℕ) (w z : OpWord) (r : SettleAnswer) : Type 0 where
  pub hand : IsHandOf c.board c.after
  pub tells : SealTells c o w z r
