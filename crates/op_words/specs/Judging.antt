-- What the calls say that judge an operation, decide on its event and settle it
use Rattle.std.specs.Prelude.{◌≡◌, ◌≢◌, ℕ, ◌≤◌, ◌<◌, ◌⊎◌, Bool, true, false, List, [], ◌∷◌, ◌++◌, Contains, Option, Some, None, if◌then◌else◌}
use Rattle.morph_base.specs.declared.plan.Plan.{Plan}
use Rattle.morph_base.specs.declared.plan.Origin.TheVariants.{Op as Written}
use Rattle.morph_base.specs.declared.word.OpState.TheVariants.{Claimed, Executed, Failed, Spread}
use Rattle.morph_base.specs.declared.word.OpWord.{OpWord}
use Rattle.morph_base.specs.Plans.{event_of, origin_at, final, verdict, InEvent}
use Rattle.morph_base.specs.Clean.{outcome, source}
use Rattle.morph_base.specs.Words.{IsWord, is_settled}
use Rattle.interleaving_core.specs.declared.event.CoreEvent.{CoreEvent}
use Rattle.interleaving_core.specs.declared.event.CoreEvent.TheVariants.{Decide, Settle}
use Rattle.interleaving_core.specs.Core.{has_run, is_failed, places}
use Rattle.op_words.specs.declared.answers.Verdict.{Verdict}
use Rattle.op_words.specs.declared.answers.Verdict.TheVariants.{Good, Bad, Stale, Unready}
use Rattle.op_words.specs.declared.answers.Decided.{Decided}
use Rattle.op_words.specs.declared.answers.Decided.TheVariants.{Committed, Aborted, NotYet as Undecided}
use Rattle.op_words.specs.declared.answers.SettleAnswer.{SettleAnswer}
use Rattle.op_words.specs.declared.answers.SettleAnswer.TheVariants.{Done as HasSettledIt, Not as Unsettled}
use Rattle.op_words.specs.declared.trail.Item.{Item}
use Rattle.op_words.specs.declared.trail.View.{View}
use Rattle.op_words.specs.Trails.{loaded, left, HasLast, IsDisturbed, OwnOn, NoneOwn}
use Rattle.op_words.specs.Views.{IsDecisionSeen, IsJudged, IsRecordSeen, IsSettledSeen, IsSourceSeen, AddsAndFrees, last_place}
use Rattle.op_words.specs.Calls.{IsSettledRead, IsSourceOpen}

-- The verdict on an operation with this word, executed or failed, if its records are right
abbrev pub verdict_of : OpWord → Verdict
verdict_of w = if is_failed w.state then Bad else Good w.value

-- The answer that there is this decision
abbrev pub decided_as : Bool → Decided
decided_as committed = if committed then Committed else Aborted

module _ (p : Plan) (cap o : ℕ) (v u : View) (xs : List Item) where
  -- Operation o is stale at place j: under its word w, which is below the last attempt, the record there has the value
  -- `kept`, and its source has another settled value
  pub record IsStaleAt (w : OpWord) (j kept value : ℕ) : Type 0 where
    pub last : HasLast o xs w
    pub seen : Contains xs (loaded o w)
    pub ran : has_run w.state ≡ true
    pub in_places : j < places p o
    pub below : w.attempt ≤ cap
    pub source : IsSettledRead xs (origin_at p o j) value
    pub differs : kept ≢ value
    pub kept_is : IsRecordSeen u o j w kept
    pub alike : (x : ℕ) → IsRecordSeen v o j w x → x ≡ kept

  -- Operation o is stale at some place, under its word w
  pub record IsStaleWord (w : OpWord) : Type 0 where
    pub place : ℕ
    pub kept : ℕ
    pub value : ℕ
    pub stale : IsStaleAt w place kept value

  -- Operation o is good: it is executed, each record is the settled value of its source, and on these values its
  -- function gives x
  pub record IsGood (x : ℕ) : Type 0 where
    pub word : OpWord
    pub last : HasLast o xs word
    pub state_is : word.state ≡ Executed
    pub judged : IsJudged p u o word
    pub value_is : word.value ≡ x
    pub answer : outcome p (final p) o ≡ Some x

  -- Operation o is bad: it failed, each record is the settled value of its source, and on these values its function
  -- gives nothing
  pub record IsBad : Type 0 where
    pub word : OpWord
    pub last : HasLast o xs word
    pub state_is : word.state ≡ Failed
    pub judged : IsJudged p u o word
    pub answer : outcome p (final p) o ≡ None

  -- Operation o is stale at place j, under some word
  pub record IsStale (j kept value : ℕ) : Type 0 where
    pub word : OpWord
    pub stale : IsStaleAt word j kept value

  -- Operation o is not ready to be judged: its own word w is neither executed nor failed, or was disturbed
  pub record IsOwnUnready (w : OpWord) : Type 0 where
    pub last : HasLast o xs w
    pub seen : Contains xs (loaded o w)
    pub cause : (has_run w.state ≡ false) ⊎ IsDisturbed o xs
    pub spread : w.state ≡ Spread → w.attempt ≤ cap

  -- The answer of `verdict` has its cause in the words xs
  abbrev pub VerdictTells : Verdict → Type 0
  VerdictTells (Good x) = IsGood x
  VerdictTells Bad = IsBad
  VerdictTells (Stale j kept value) = IsStale j kept value
  VerdictTells (Unready at w) = ((at ≡ o) × IsOwnUnready w) ⊎ ((at ≢ o) × IsSourceOpen p cap o v u xs at w)

  -- The hand settled operation o with the fold's value x, at the attempt of the word that it loaded first
  pub record IsDone (x : ℕ) : Type 0 where
    pub first : OpWord
    pub rest : List Item
    pub begins : xs ≡ loaded o first ∷ rest
    pub word : OpWord
    pub inside : Contains xs (left o word)
    pub last : HasLast o xs word
    pub settled : is_settled word.state ≡ true
    pub mine : word.by ≡ v.tag
    pub kept : word.attempt ≡ first.attempt
    pub value_is : word.value ≡ x
    pub fold : x ≡ final p o
    pub booked : Contains u.settlings (record { op = o; by = v.tag })

  -- Operation o was not settled: its own word w is claimed, settled, or was disturbed; or its event commits, and w is
  -- not executed or a record is stale
  pub record IsOwnUnsettled (w : OpWord) : Type 0 where
    pub last : HasLast o xs w
    pub seen : Contains xs (loaded o w)
    pub none : NoneOwn xs
    pub cause :
        ((w.state ≡ Claimed) ⊎ (is_settled w.state ≡ true))
        ⊎ (IsDisturbed o xs ⊎ ((verdict p (event_of p o) ≡ true) × ((w.state ≢ Executed) ⊎ IsStaleWord w)))

  -- The operation `at` is a source that has to be settled: any source if the event commits, else that of the target
  abbrev pub IsNeeded : ℕ → Type 0
  IsNeeded at = (verdict p (event_of p o) ≡ true) ⊎ (origin_at p o 0 ≡ Written at)

  -- The answer of `settle` has its cause in the words xs
  abbrev pub SettleTells : SettleAnswer → Type 0
  SettleTells (HasSettledIt x) = IsDone x
  SettleTells (Unsettled at w) =
      ((at ≡ o) × IsOwnUnsettled w) ⊎ ((at ≢ o) × IsSourceOpen p cap o v u xs at w × IsNeeded at)

-- The steps that `settle` takes: one if it settled the operation, else none
abbrev pub settle_steps : ℕ → ℕ → SettleAnswer → List CoreEvent
settle_steps o tag (HasSettledIt x) = Settle o tag ∷ []
settle_steps o tag (Unsettled at w) = []

-- The hand saw operation o good at word w: w is executed, and each record under w is the fold's value of its source,
-- which is settled
pub record IsGoodAt (p : Plan) (v : View) (o : ℕ) (w : OpWord) : Type 0 where
  pub in_range : IsWord w
  pub executed : w.state ≡ Executed
  pub sources : (j : ℕ) → j < places p o → IsSourceSeen v (origin_at p o j) (source p (final p) o j)
  pub records : (j : ℕ) → j < places p o → IsRecordSeen v o j w (source p (final p) o j)

-- The hand saw all sources of operation o settled, and on their values o gives this answer, or nothing if it fails
pub record IsAnswerSeen (p : Plan) (u : View) (o : ℕ) (answer : Option ℕ) : Type 0 where
  pub sources : (j : ℕ) → j < places p o → (x : ℕ) × IsSourceSeen u (origin_at p o j) x
  pub answer_is : outcome p (final p) o ≡ answer

-- The hand saw all sources of operation o settled, and o answers on their values
abbrev pub IsGoodSeen : Plan → View → ℕ → Type 0
IsGoodSeen p u o = (x : ℕ) × IsAnswerSeen p u o (Some x)

-- The hand has seen what decides event i: every operation answers on settled sources, or one fails on them
abbrev pub MaySayOf : Plan → View → ℕ → Bool → Type 0
MaySayOf p v i true = (o : ℕ) → InEvent p i o → IsGoodSeen p v o
MaySayOf p v i false = (o : ℕ) × InEvent p i o × IsAnswerSeen p v o None

-- The hand saw operation o stale at place j under its word w, which is below the last attempt: the record there is not
-- the settled value of the source. It is the record that the hand noted last
pub record IsStaleSeen (p : Plan) (cap : ℕ) (v : View) (o : ℕ) (w : OpWord) (j : ℕ) : Type 0 where
  pub in_range : IsWord w
  pub ran : has_run w.state ≡ true
  pub below : w.attempt ≤ cap
  pub in_places : j < places p o
  pub kept : ℕ
  pub record_is : IsRecordSeen v o j w kept
  pub value : ℕ
  pub source : IsSourceSeen v (origin_at p o j) value
  pub differs : kept ≢ value
  pub noted : last_place 0 v.records ≡ j

-- Operation o is in doubt at word w of operation `at`: it is not ready to be judged, or stale, or a source of it is not
-- settled
abbrev pub IsDoubtful : Plan → ℕ → ℕ → View → View → List Item → ℕ → OpWord → Type 0
IsDoubtful p cap o v u xs at w =
    ((at ≡ o) × (IsOwnUnready p cap o v u xs w ⊎ IsStaleWord p cap o v u xs w)) ⊎ IsSourceOpen p cap o v u xs at w

-- Operation o is in doubt by what was loaded from a load of its own word on. What was loaded before that, to judge
-- other operations, is left out
pub record IsInDoubt (p : Plan) (cap o : ℕ) (v u : View) (xs : List Item) : Type 0 where
  pub front : List Item
  pub first : OpWord
  pub rest : List Item
  pub split : xs ≡ front ++ (loaded o first ∷ rest)
  pub at : ℕ
  pub word : OpWord
  pub doubt : IsDoubtful p cap o v u (loaded o first ∷ rest) at word

-- Operation o was judged good
abbrev pub IsJudgedGood : Plan → ℕ → ℕ → View → View → List Item → Type 0
IsJudgedGood p cap o v u xs = (x : ℕ) × IsGood p cap o v u xs x

module _ (p : Plan) (cap i : ℕ) (v u : View) (xs : List Item) where
  -- Event i is decided as the fold decides, and the hand knows it
  pub record IsDecided (committed : Bool) : Type 0 where
    pub right : verdict p i ≡ committed
    pub known : IsDecisionSeen u i committed

  -- There is no decision on event i: the hand had seen none, and no operation of the event settled. One of them is in
  -- doubt, those before it were judged good, and each behind it was judged good or is in doubt. So none is bad
  pub record IsUndecided (at : ℕ) (w : OpWord) : Type 0 where
    pub culprit : ℕ
    pub inside : InEvent p i culprit
    pub undecided : (committed : Bool) → IsDecisionSeen v i committed → ⊥
    pub none_settled : (o : ℕ) → InEvent p i o → IsSettledSeen v o → ⊥
    pub cause : IsDoubtful p cap culprit v u xs at w
    pub before : (o : ℕ) → InEvent p i o → o < culprit → IsJudgedGood p cap o v u xs
    pub behind : (o : ℕ) → InEvent p i o → culprit < o → IsJudgedGood p cap o v u xs ⊎ IsInDoubt p cap o v u xs

  -- The answer of `decide` has its cause in the words xs
  abbrev pub DecideTells : Decided → Type 0
  DecideTells Committed = IsDecided true
  DecideTells Aborted = IsDecided false
  DecideTells (Undecided at w) = IsUndecided at w

-- The call took no step, or the one that decides event i
abbrev pub MayHaveDecided : ℕ → Bool → View → View → Type 0
MayHaveDecided i committed v u = (u.events ≡ v.events) ⊎ (u.events ≡ Decide i committed ∷ v.events)

-- The call `decide` took no step if it gives no decision, and else at most the one that decides the event
abbrev pub DecideSteps : ℕ → View → View → Decided → Type 0
DecideSteps i v u Committed = MayHaveDecided i true v u
DecideSteps i v u Aborted = MayHaveDecided i false v u
DecideSteps i v u (Undecided at w) = u.events ≡ v.events

-- ---- the calls, with what they add

module _ (p : Plan) (cap o : ℕ) (v u : View) where
  -- The call `verdict` led from view v to view u, and its answer r has its cause in the words that it added. It took no
  -- step
  pub record VerdictDoes (r : Verdict) : Type 0 where
    pub words : List Item
    pub goes : AddsAndFrees v u words
    pub none : NoneOwn words
    pub stays : u.events ≡ v.events
    pub tells : VerdictTells p cap o v u words r

  -- The call `verdict_at` led from view v to view u, as `verdict` does with its answer r. A good operation is so at the
  -- word w, its last one, and so is a stale one
  pub record VerdictAtDoes (w : OpWord) (r : Verdict) : Type 0 where
    pub answer : VerdictDoes r
    pub good : (x : ℕ) → r ≡ Good x → HasLast o answer.words w × IsGoodAt p u o w
    pub stale : (j kept value : ℕ) → r ≡ Stale j kept value → HasLast o answer.words w × IsStaleSeen p cap u o w j

  -- The call `settle` led from view v to view u, and its answer r has its cause in the words that it added
  pub record SettleDoes (r : SettleAnswer) : Type 0 where
    pub words : List Item
    pub goes : AddsAndFrees v u words
    pub own : OwnOn o words
    pub steps : u.events ≡ settle_steps o v.tag r ++ v.events
    pub tells : SettleTells p cap o v u words r

-- The call `decide` led from view v to view u, and its answer r has its cause in the words that it added
pub record DecideDoes (p : Plan) (cap i : ℕ) (v u : View) (r : Decided) : Type 0 where
  pub words : List Item
  pub goes : AddsAndFrees v u words
  pub none : NoneOwn words
  pub steps : DecideSteps i v u r
  pub tells : DecideTells p cap i v u words r

-- The call `conclude` led from view v to view u. It loaded no operation. The hand knows the decision on event i, which
-- is the fold's
pub record ConcludeDoes (p : Plan) (i : ℕ) (v u : View) (committed : Bool) : Type 0 where
  pub goes : AddsAndFrees v u []
  pub steps : MayHaveDecided i committed v u
  pub right : verdict p i ≡ committed
  pub known : IsDecisionSeen u i committed

-- ---- settling from a word that was judged

-- The hand settled operation o with the fold's value x, at the attempt of the word w, and loaded nothing
pub record IsDoneFrom (p : Plan) (o : ℕ) (v u : View) (xs : List Item) (w : OpWord) (x : ℕ) : Type 0 where
  pub word : OpWord
  pub words_are : xs ≡ left o word ∷ []
  pub settled : is_settled word.state ≡ true
  pub mine : word.by ≡ v.tag
  pub kept : word.attempt ≡ w.attempt
  pub value_is : word.value ≡ x
  pub fold : x ≡ final p o
  pub booked : Contains u.settlings (record { op = o; by = v.tag })

-- The exchange found another word of operation o than w, and loaded nothing else
pub record IsOvertaken (o : ℕ) (xs : List Item) (w found : OpWord) : Type 0 where
  pub differs : found ≢ w
  pub words_are : xs ≡ loaded o found ∷ []

-- The answer of `settle_good` has its cause in the words xs
abbrev pub SettleGoodTells : Plan → ℕ → View → View → List Item → OpWord → SettleAnswer → Type 0
SettleGoodTells p o v u xs w (HasSettledIt x) = IsDoneFrom p o v u xs w x
SettleGoodTells p o v u xs w (Unsettled at found) = (at ≡ o) × IsOvertaken o xs w found

-- The call `settle_good` led from view v to view u, and its answer r has its cause in the words that it added
pub record SettleGoodDoes (p : Plan) (o : ℕ) (v u : View) (w : OpWord) (r : SettleAnswer) : Type 0 where
  pub words : List Item
  pub goes : AddsAndFrees v u words
  pub own : OwnOn o words
  pub steps : u.events ≡ settle_steps o v.tag r ++ v.events
  pub tells : SettleGoodTells p o v u words w r
