-- What a hand's view says, and what a call or a step makes of it
use Rattle.std.specs.Prelude.{◌≡◌, ◌≢◌, ℕ, ◌+◌, ◌≤◌, ◌<◌, ◌⊎◌, Bool, true, false, Option, List, [], ◌∷◌, ◌++◌, length, Contains, Some, None, slice_index}
use Rattle.morph_base.specs.declared.plan.Plan.{Plan}
use Rattle.morph_base.specs.declared.plan.Origin.{Origin}
use Rattle.morph_base.specs.declared.plan.Origin.TheVariants.{Base, Op as Written}
use Rattle.morph_base.specs.declared.word.OpWord.{OpWord}
use Rattle.morph_base.specs.Plans.{op_count, origin_at}
use Rattle.morph_base.specs.Words.{is_idle, is_settled}
use Rattle.interleaving_core.specs.declared.entry.Entry.{Entry}
use Rattle.interleaving_core.specs.declared.entry.Held.{Held}
use Rattle.interleaving_core.specs.declared.entry.Settling.{Settling}
use Rattle.interleaving_core.specs.declared.event.CoreEvent.{CoreEvent}
use Rattle.interleaving_core.specs.declared.event.CoreEvent.TheVariants.{Ready as ReadyStep, Claim, Fetch, Finish, GiveBack, Spread as SpreadStep, RollBack, Decide, Settle}
use Rattle.interleaving_core.specs.Core.{Core, blocked, ready, claimed, entry_of, has_run, places}
use Rattle.interleaving_core.specs.Steps.{Run}
use Rattle.op_words.specs.declared.trail.Item.{Item}
use Rattle.op_words.specs.declared.trail.RecordSeen.{RecordSeen}
use Rattle.op_words.specs.declared.trail.DecisionSeen.{DecisionSeen}
use Rattle.op_words.specs.declared.trail.Joined.{Joined}
use Rattle.op_words.specs.declared.trail.View.{View}
use Rattle.op_words.specs.Trails.{loaded, left, last_word, IsSteadyTrail, IsCalm}

-- ---- what a view says

-- The hand saw a settled word of operation o
pub record IsSettledSeen (v : View) (o : ℕ) : Type 0 where
  pub note : Item
  pub inside : Contains v.notes note
  pub op_is : note.op ≡ o
  pub settled : is_settled note.word.state ≡ true

-- The hand saw a settled word of operation s, with value x
pub record IsSeenAs (v : View) (s x : ℕ) : Type 0 where
  pub seen : IsSettledSeen v s
  pub value_is : seen.note.word.value ≡ x

-- The source is a base of value x, or an operation that the hand saw settled with value x
abbrev pub IsSourceSeen : View → Origin → ℕ → Type 0
IsSourceSeen v (Base b) x = b ≡ x
IsSourceSeen v (Written s) x = IsSeenAs v s x

-- The hand saw the value x of the record of operation o at place j, under word w of o
abbrev pub IsRecordSeen : View → ℕ → ℕ → OpWord → ℕ → Type 0
IsRecordSeen v o j w x = Contains v.records (record { op = o; place = j; value = x; word = w })

-- The hand saw that the records of operation o under word w are xs
pub record HasRecordsSeen (p : Plan) (v : View) (o : ℕ) (w : OpWord) (xs : List ℕ) : Type 0 where
  pub len : length xs ≡ places p o
  pub each : (j : ℕ) → j < places p o → IsRecordSeen v o j w (slice_index xs j)

-- The hand judged operation o at word w: all its records under w are the values of its sources, which are settled
pub record IsJudged (p : Plan) (v : View) (o : ℕ) (w : OpWord) : Type 0 where
  pub ran : has_run w.state ≡ true
  pub values : List ℕ
  pub records : HasRecordsSeen p v o w values
  pub sources : (j : ℕ) → j < places p o → IsSourceSeen v (origin_at p o j) (slice_index values j)

-- The hand knows the decision on event i: it commits if `committed` is true, and else aborts
abbrev pub IsDecisionSeen : View → ℕ → Bool → Type 0
IsDecisionSeen v i committed = Contains v.decisions (record { event = i; committed = committed })

-- The hand showed a failure of operation o
pub record HasShownFailure (v : View) (o : ℕ) : Type 0 where
  pub entry : Entry
  pub inside : Contains v.published entry
  pub op_is : entry.op ≡ o
  pub failed_is : entry.failed ≡ true

-- The root is the only hand that was made
pub record IsLone (v : View) : Type 0 where
  pub root : v.tag ≡ 1
  pub alone : v.made ≡ 1

-- The hand holds operation o at attempt a, and has fetched the values xs for it
abbrev pub Holds : View → ℕ → ℕ → List ℕ → Type 0
Holds v o a xs = v.claim ≡ Some (record { op = o; attempt = a; values = xs })

-- The hand does not hold operation o
abbrev pub IsApart : View → ℕ → Type 0
IsApart v o = (h : Held) → v.claim ≡ Some h → h.op ≢ o

-- All settled words of one operation that the hand saw are the same
abbrev pub Agrees : View → Type 0
Agrees v =
    (m n : Item) → Contains v.notes m → Contains v.notes n → m.op ≡ n.op → is_settled m.word.state ≡ true
    → is_settled n.word.state ≡ true → m.word ≡ n.word

-- The hand holds nothing, and the settled words that it saw agree: so it is between two calls
pub record IsAtRest (v : View) : Type 0 where
  pub free : v.claim ≡ None
  pub agree : Agrees v

-- The hand noted every word that it loaded or left
pub record IsTrailNoted (v : View) : Type 0 where
  pub each : (t : Item) → Contains v.trail t → Contains v.notes t

-- The trail xs has a settled word of operation o that its hand left
pub record HasSettled (xs : List Item) (o : ℕ) : Type 0 where
  pub word : OpWord
  pub inside : Contains xs (left o word)
  pub settled : is_settled word.state ≡ true

-- The settling x stands in the trail of a hand that was joined, the one that made it
pub record IsJoinedTrail (v : View) (x : Settling) : Type 0 where
  pub of_tag : Joined
  pub inside : Contains v.joined of_tag
  pub tag_is : of_tag.tag ≡ x.by
  pub settled : HasSettled of_tag.trail x.op

-- The settling x stands in the trail of the hand that made it: this hand's own trail, or that of a joined hand
abbrev pub IsBookedInView : View → Settling → Type 0
IsBookedInView v x = ((v.tag ≡ x.by) × HasSettled v.trail x.op) ⊎ IsJoinedTrail v x

-- The last words in the trail of this view are the present ones. An operation without a word there is as at the start
pub record IsPresent (p : Plan) (c : Core) (v : View) : Type 0 where
  pub each : (o : ℕ) → o < op_count p → c.word o ≡ last_word o (blocked 1) v.trail

-- The steps in this view lead to a state whose words are the last ones in its trail
pub record LeadsToPresent (v : View) : Type 0 where
  pub core : Core
  pub run : Run v.plan.value v.cap v.events core
  pub present : IsPresent v.plan.value core v

-- The word w of operation o is no older than what the hand saw or made of o: attempts do not fall, a settled word
-- stays, and an attempt that the hand showed has a value
pub record IsFresh (v : View) (o : ℕ) (w : OpWord) : Type 0 where
  pub attempt : (n : Item) → Contains v.notes n → n.op ≡ o → n.word.attempt ≤ w.attempt
  pub settled : (n : Item) → Contains v.notes n → n.op ≡ o → is_settled n.word.state ≡ true → w ≡ n.word
  pub made : (e : Entry) → Contains v.published e → e.op ≡ o
      → (e.attempt < w.attempt) ⊎ ((e.attempt ≡ w.attempt) × (is_idle w.state ≡ false))

-- ---- what loads and steps make of a view

-- The view after the words xs were loaded
abbrev pub looking : List Item → View → View
looking xs v = record v { notes = v.notes ++ xs; trail = v.trail ++ xs }

-- The view after word w of operation o was loaded
abbrev pub looked : ℕ → OpWord → View → View
looked o w v = looking (loaded o w ∷ []) v

-- The view after word w was left on operation o by the step e
abbrev pub leaving : ℕ → OpWord → CoreEvent → View → View
leaving o w e v = record v { notes = v.notes ++ left o w ∷ []; trail = v.trail ++ left o w ∷ []; events = e ∷ v.events; own = e ∷ v.own }

-- The view after operation o was made ready at attempt a
abbrev pub making : ℕ → ℕ → View → View
making o a v = leaving o (ready a) (ReadyStep o) v

-- The view after operation o was claimed at attempt a
abbrev pub claiming : ℕ → ℕ → View → View
claiming o a v = record (leaving o (claimed a v.tag) (Claim o v.tag) v) { claim = Some (record { op = o; attempt = a; values = [] }) }

-- The view after the next place of the held operation got the value x
abbrev pub fetching : Held → ℕ → View → View
fetching h x v =
    record v {
      claim = Some (record { op = h.op; attempt = h.attempt; values = h.values ++ x ∷ [] });
      events = Fetch h.op (length h.values) v.tag x ∷ v.events;
      own = Fetch h.op (length h.values) v.tag x ∷ v.own;
    }

-- The values xs as records of operation o under word w, from place k on
unfoldable pub records_from : ℕ → ℕ → OpWord → List ℕ → List RecordSeen
records_from k o w [] = []
records_from k o w (x ∷ xs) = record { op = o; place = k; value = x; word = w } ∷ records_from (k + 1) o w xs

-- The view after operation o was finished with word w on the values xs. The hand holds nothing then
abbrev pub finishing : ℕ → OpWord → List ℕ → View → View
finishing o w xs v =
    record (leaving o w (Finish o v.tag) v) { claim = None; published = v.published ++ entry_of o w ∷ []; records = v.records ++ records_from 0 o w xs }

-- The view after operation o was given back at attempt a. The hand holds nothing then
abbrev pub giving_back : ℕ → ℕ → View → View
giving_back o a v = record (leaving o (blocked a) (GiveBack o v.tag) v) { claim = None }

-- The view after the record of operation o at place j was loaded. The last word of o that the hand had noted is put
-- beside it
abbrev pub recalling : ℕ → ℕ → ℕ → View → View
recalling o j x v = record v { records = v.records ++ record { op = o; place = j; value = x; word = last_word o (blocked 1) v.notes } ∷ [] }

-- The view after the decision on event i was loaded
abbrev pub learning : ℕ → Option Bool → View → View
learning i None v = v
learning i (Some committed) v = record v { decisions = v.decisions ++ record { event = i; committed = committed } ∷ [] }

-- The view after event i was decided
abbrev pub deciding : ℕ → Bool → View → View
deciding i committed v =
    record (learning i (Some committed) v) { events = Decide i committed ∷ v.events; own = Decide i committed ∷ v.own }

-- The view after operation o was settled with word w
abbrev pub settling : ℕ → OpWord → View → View
settling o w v =
    record (leaving o w (Settle o v.tag) v) { settlings = v.settlings ++ record { op = o; by = v.tag } ∷ [] }

-- The operation of the last item of a list, or d if the list is empty
unfoldable pub last_op : ℕ → List Item → ℕ
last_op d [] = d
last_op d (t ∷ ts) = last_op t.op ts

-- The view after a failure of the operation that was noted last was spread to operation o, which was left with word w
abbrev pub spreading : ℕ → OpWord → View → View
spreading o w v =
    record (leaving o w (SpreadStep o (last_op 0 v.notes)) v) { published = v.published ++ entry_of o w ∷ [] }

-- The place of the last record of a list, or d if the list is empty
unfoldable pub last_place : ℕ → List RecordSeen → ℕ
last_place d [] = d
last_place d (r ∷ rs) = last_place r.place rs

-- The view after operation o was rolled back to attempt a, for the record that was loaded last
abbrev pub rolling_back : ℕ → ℕ → View → View
rolling_back o a v = leaving o (blocked a) (RollBack o (last_place 0 v.records)) v

-- The root's view after it made a hand
abbrev pub parent : View → View
parent v = record v { made = v.made + 1 }

-- The view of the hand that was made: the root's notes and decisions, a tag that is one more than the number of hands
-- made before, and nothing else
abbrev pub child : View → View
child v =
    record {
      plan = v.plan;
      cap = v.cap;
      tag = v.made + 1;
      made = 0;
      room = 0;
      claim = None;
      published = [];
      notes = v.notes;
      records = [];
      decisions = v.decisions;
      trail = [];
      places = [];
      events = [];
      own = [];
      settlings = [];
      joined = [];
    }

-- What the root keeps of a joined hand under its tag: its trail and its places
abbrev pub joined_of : View → Joined
joined_of w = record { tag = w.tag; trail = w.trail; places = w.places }

-- The root's view after a hand with view w was joined into it: the root has the lists of w, and the trail and places of
-- w under its tag
abbrev pub merged : View → View → View
merged v w =
    record v {
      published = v.published ++ w.published;
      notes = v.notes ++ w.notes;
      records = v.records ++ w.records;
      decisions = v.decisions ++ w.decisions;
      events = v.events ++ w.events;
      settlings = v.settlings ++ w.settlings;
      joined = v.joined ++ joined_of w ∷ [];
    }

-- ---- what a call adds to a view

-- From view v to view u the hand added the words xs to its trail and its notes, and perhaps more to its lists
pub record Adds (v u : View) (xs : List Item) : Type 0 where
  pub trail : u.trail ≡ v.trail ++ xs
  pub notes : u.notes ≡ v.notes ++ xs
  pub records : (r : RecordSeen) → Contains v.records r → Contains u.records r
  pub decisions : (d : DecisionSeen) → Contains v.decisions d → Contains u.decisions d
  pub published : (e : Entry) → Contains v.published e → Contains u.published e
  pub settlings : (x : Settling) → Contains v.settlings x → Contains u.settlings x
  pub tag : u.tag ≡ v.tag
  pub made : u.made ≡ v.made
  pub room : u.room ≡ v.room
  pub joined : u.joined ≡ v.joined
  -- The hand took no number from a counter. Its new steps are es, the last one first
  pub places : u.places ≡ v.places
  pub events : (es : List CoreEvent) × (u.events ≡ es ++ v.events) × (u.own ≡ es ++ v.own)
  pub agree : Agrees u
  pub steady : IsSteadyTrail v.tag v.notes xs
  pub calm : IsLone v → IsCalm v.trail xs

-- From view v to view u the hand added the words xs, and it holds nothing afterwards
pub record AddsAndFrees (v u : View) (xs : List Item) : Type 0 where
  pub adds : Adds v u xs
  pub free : u.claim ≡ None
