-- What each kind of step shows the hand that makes it, and what it makes of the hand's view
use Rattle.std.specs.Prelude.{◌≡◌, ◌≢◌, ℕ, ◌+◌, ◌≤◌, ◌<◌, ◌⊎◌, Bool, true, List, [], length, Option, Some, None, slice_index}
use Rattle.atomic_table.specs.Table.{Step, Me}
use Rattle.morph_base.specs.declared.plan.Plan.{Plan}
use Rattle.morph_base.specs.declared.word.OpWord.{OpWord}
use Rattle.morph_base.specs.declared.limits.TheConstants.{MAX}
use Rattle.morph_base.specs.declared.word.OpState.TheVariants.{Spread}
use Rattle.morph_base.specs.Plans.{op_at, op_count, event_count, origin_at, final, verdict, InEvent}
use Rattle.morph_base.specs.Words.{IsWord, is_settled, packed}
use Rattle.interleaving_core.specs.declared.entry.Held.{Held}
use Rattle.interleaving_core.specs.declared.entry.Record.{Record}
use Rattle.interleaving_core.specs.Core.{blocked, ready, claimed, finished, has_run, places, record_value}
use Rattle.op_words.specs.declared.trail.Item.{Item}
use Rattle.op_words.specs.declared.trail.View.{View}
use Rattle.op_words.specs.Trails.{loaded, left, IsSteadyAt, IsCalmAt}
use Rattle.op_words.specs.Views.{Agrees, IsApart, LeadsToPresent, IsFresh, IsLone, IsTrailNoted, IsSettledSeen, IsSourceSeen, IsRecordSeen, IsDecisionSeen, looked, making, claiming, fetching, finishing, giving_back, recalling, learning, deciding, settling, spreading, rolling_back, parent, child, merged}
use Rattle.op_words.specs.Layout.{record_index, packed_record, decision_base, packed_decision}

-- What a seat has: the view of its hand
abbrev pub Sat : Type 0
Sat = Me (Unit {0}) (Option View)

-- What a hand knows of its view u after any step: settled words agree, the trail is noted, and if the hand is a lone
-- root, its steps lead to the words that it knows
pub record IsTold (u : View) : Type 0 where
  pub agree : Agrees u
  pub noted : IsTrailNoted u
  pub done : IsLone u → LeadsToPresent u

-- ---- a load

-- The word w, executed or failed, is what the operation's function makes of some values. These are its records that
-- were seen under w, and at the last attempt the settled values of its sources
pub record IsRunResult (p : Plan) (cap : ℕ) (v : View) (o : ℕ) (w : OpWord) : Type 0 where
  pub values : List ℕ
  pub len : length values ≡ places p o
  pub word_is : w ≡ finished (op_at p o).op w.attempt values
  pub records : (j x : ℕ) → j < places p o → IsRecordSeen v o j w x → x ≡ slice_index values j
  pub last :
      w.attempt ≡ cap + 1 → (j x : ℕ) → j < places p o → IsSourceSeen v (origin_at p o j) x → x ≡ slice_index values j

-- The present word w of operation o shows this: its attempt is at most one above the cap, a settled word has the fold's
-- value, and an executed or failed one is the result of its function
pub record IsSight (p : Plan) (cap : ℕ) (v : View) (o : ℕ) (w : OpWord) : Type 0 where
  pub most : w.attempt ≤ cap + 1
  pub spread : w.state ≡ Spread → w.attempt ≤ cap
  pub settled : is_settled w.state ≡ true → w.value ≡ final p o
  pub run : has_run w.state ≡ true → IsRunResult p cap v o w

-- Word w of operation o was found, as the number n, and shows this to the hand: it is fresh, it keeps the view as it
-- has to be, and it is right in itself
pub record Looks (o n : ℕ) (v : View) (w : OpWord) : Type 0 where
  pub is_word : IsWord w
  pub found : n ≡ packed w
  pub fresh : IsFresh v o w
  pub told : IsTold (looked o w v)
  pub steady : IsApart v o → IsSteadyAt v.tag v.notes (loaded o w)
  pub calm : IsApart v o → IsLone v → IsCalmAt v.trail (loaded o w)
  pub sight : IsSight v.plan.value v.cap v o w

-- The step loads the word of an operation, and the view notes it
abbrev pub looks : Step (Unit {0}) → Sat → ℕ → Sat → Type 0
looks st m n m' =
    (v : View) → m.0 ≡ Some v → (w : OpWord) × Looks st.word n v w × (m' ≡ (Some (looked st.word w v), m.1))

-- The step loads the record of an operation at a place that it reads
abbrev pub recalls : Step (Unit {0}) → Sat → ℕ → Sat → Type 0
recalls st m n m' =
    (v : View) → m.0 ≡ Some v → (o j : ℕ) → o < op_count v.plan.value → j < places v.plan.value o
    → st.word ≡ record_index v.plan.value o j
    → (r : Option Record) × (record_value r ≤ MAX) × (n ≡ packed_record r)
    × (m' ≡ (Some (recalling o j (record_value r) v), m.1))

-- The decision d on event i is the fold's, and the one that the hand saw before. If there is none, the hand saw no
-- operation of the event settled
pub record IsDecision (p : Plan) (v : View) (i : ℕ) (d : Option Bool) : Type 0 where
  pub right : (committed : Bool) → d ≡ Some committed → verdict p i ≡ committed
  pub known : (committed : Bool) → IsDecisionSeen v i committed → d ≡ Some committed
  pub none_settled : d ≡ None → (o : ℕ) → InEvent p i o → IsSettledSeen v o → ⊥

-- The step loads a decision
abbrev pub learns : Step (Unit {0}) → Sat → ℕ → Sat → Type 0
learns st m n m' =
    (v : View) → m.0 ≡ Some v → (i : ℕ) → i < event_count v.plan.value → st.word ≡ decision_base v.plan.value + i
    → (d : Option Bool) × (n ≡ packed_decision d) × IsDecision v.plan.value v i d × (m' ≡ (Some (learning i d v), m.1))

-- The step is a load that leaves the view as it is. If the root is the only hand made, none was joined into it
abbrev pub tells : Step (Unit {0}) → Sat → ℕ → Sat → Type 0
tells st m n m' = (v : View) → m.0 ≡ Some v → (m' ≡ m) × IsTold v × (IsLone v → v.joined ≡ [])

-- ---- a word that is left

-- The hand left the item t, and its view is u afterwards
pub record Leaves (v u : View) (t : Item) : Type 0 where
  pub told : IsTold u
  pub steady : IsSteadyAt v.tag v.notes t

-- The exchange on operation o expects the number `first`. If it finds that number, it leaves word w and makes the view
-- u. Otherwise it is a load
abbrev pub Swaps : (o n first : ℕ) → View → View → OpWord → Sat → Sat → Type 0
Swaps o n first v u w m m' =
    ((n ≡ first) × (m' ≡ (Some u, m.1)) × Leaves v u (left o w))
    ⊎ ((n ≢ first) × (found : OpWord) × (m' ≡ (Some (looked o found v), m.1)) × Looks o n v found)

-- The step exchanges blocked for ready
abbrev pub makes : Step (Unit {0}) → Sat → ℕ → Sat → Type 0
makes st m n m' =
    (v : View) → m.0 ≡ Some v → (a : ℕ) → st.first ≡ packed (blocked a)
    → Swaps st.word n st.first v (making st.word a v) (ready a) m m'

-- The step exchanges ready for claimed
abbrev pub claims : Step (Unit {0}) → Sat → ℕ → Sat → Type 0
claims st m n m' =
    (v : View) → m.0 ≡ Some v → (a : ℕ) → st.first ≡ packed (ready a)
    → Swaps st.word n st.first v (claiming st.word a v) (claimed a v.tag) m m'

-- The step exchanges a word for a settled one, which has the fold's value
abbrev pub settles : Step (Unit {0}) → Sat → ℕ → Sat → Type 0
settles st m n m' =
    (v : View) → m.0 ≡ Some v → (w : OpWord) → IsWord w → st.second ≡ packed w
    → Swaps st.word n st.first v (settling st.word w v) w m m' × (n ≡ st.first → w.value ≡ final v.plan.value st.word)

-- The step exchanges a word for a spread one, for a failure of the operation that was noted last
abbrev pub spreads : Step (Unit {0}) → Sat → ℕ → Sat → Type 0
spreads st m n m' =
    (v : View) → m.0 ≡ Some v → (w : OpWord) → IsWord w → st.second ≡ packed w
    → Swaps st.word n st.first v (spreading st.word w v) w m m'

-- The step exchanges a word for a blocked one, for the record that was loaded last
abbrev pub rolls : Step (Unit {0}) → Sat → ℕ → Sat → Type 0
rolls st m n m' =
    (v : View) → m.0 ≡ Some v → (a : ℕ) → st.second ≡ packed (blocked a)
    → Swaps st.word n st.first v (rolling_back st.word a v) (blocked a) m m'

-- ---- a decision that is made

-- The step exchanges no decision for one. The decision that stands afterwards is the hand's, which it made or another
-- hand made before
abbrev pub decides : Step (Unit {0}) → Sat → ℕ → Sat → Type 0
decides st m n m' =
    (v : View) → m.0 ≡ Some v → (i : ℕ) → i < event_count v.plan.value → st.word ≡ decision_base v.plan.value + i
    → (committed : Bool) → st.second ≡ packed_decision (Some committed)
    → (verdict v.plan.value i ≡ committed)
    × (((n ≡ 0) × (m' ≡ (Some (deciding i committed v), m.1)) × IsTold (deciding i committed v))
    ⊎ ((n ≡ packed_decision (Some committed)) × (m' ≡ (Some (learning i (Some committed) v), m.1))))

-- ---- stores of a hand on what it holds

-- The step stores a record for the next place of what the hand holds
abbrev pub keeps : Step (Unit {0}) → Sat → ℕ → Sat → Type 0
keeps st m n m' =
    (v : View) → m.0 ≡ Some v → (h : Held) → v.claim ≡ Some h → (x : ℕ)
    → st.first ≡ packed_record (Some (record { value = x; attempt = h.attempt }))
    → (m' ≡ (Some (fetching h x v), m.1)) × IsTold (fetching h x v)

-- The word of an operation that was finished on all values that were fetched
abbrev pub end_of : View → Held → OpWord
end_of v h = finished (op_at v.plan.value h.op).op h.attempt h.values

-- The step stores the word that ends a claim, executed or failed
abbrev pub ends : Step (Unit {0}) → Sat → ℕ → Sat → Type 0
ends st m n m' =
    (v : View) → m.0 ≡ Some v → (h : Held) → v.claim ≡ Some h
    → (m' ≡ (Some (finishing h.op (end_of v h) h.values v), m.1))
    × Leaves v (finishing h.op (end_of v h) h.values v) (left h.op (end_of v h))

-- The step stores the blocked word that ends a claim
abbrev pub gives : Step (Unit {0}) → Sat → ℕ → Sat → Type 0
gives st m n m' =
    (v : View) → m.0 ≡ Some v → (h : Held) → v.claim ≡ Some h
    → (m' ≡ (Some (giving_back h.op h.attempt v), m.1))
    × Leaves v (giving_back h.op h.attempt v) (left h.op (blocked h.attempt))

-- ---- hands made and joined

-- The root's view after it made a hand
abbrev pub staying : Option View → Option View
staying None = None
staying (Some v) = Some (parent v)

-- The view of the hand that was made
abbrev pub going : Option View → Option View
going None = None
going (Some v) = Some (child v)

-- The root's view after a hand was joined into it
abbrev pub both : Option View → Option View → Option View
both None b = None
both (Some v) None = Some v
both (Some v) (Some w) = Some (merged v w)
