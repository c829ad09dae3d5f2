-- What the table is after each kind of step of a hand, and which step of the machine that is
use Rattle.std.specs.Prelude.{◌≡◌, ◌≢◌, ℕ, ◌+◌, ◌<◌, Bool, true, false, List, Contains, [], ◌∷◌, ◌++◌, length, Some, None, slice_index, slice_set}
use mathlib.Core.Option.{some}
use lib.ListN.{get_elem?}
use Rattle.morph_base.specs.Limits.{most_workers}
use Rattle.morph_base.specs.declared.plan.Plan.{Plan}
use Rattle.morph_base.specs.declared.plan.Origin.{Origin}
use Rattle.morph_base.specs.declared.plan.Origin.TheVariants.{Base, Op as Written}
use Rattle.morph_base.specs.Plans.{op_count, event_count, origin_at}
use Rattle.morph_base.specs.declared.word.OpWord.{OpWord}
use Rattle.morph_base.specs.Words.{is_idle, is_settled, packed}
use Rattle.interleaving_core.specs.declared.entry.Held.{Held}
use Rattle.interleaving_core.specs.declared.event.CoreEvent.{CoreEvent}
use Rattle.interleaving_core.specs.declared.event.CoreEvent.TheVariants.{Ready as ReadyStep, Claim, Fetch, Finish, GiveBack, Spread as SpreadStep, RollBack, Decide, Settle}
use Rattle.interleaving_core.specs.Core.{blocked, ready, claimed, places, record_value}
use Rattle.interleaving_core.specs.Steps.{May, after, spread_of}
use Rattle.op_words.specs.declared.trail.View.{View}
use Rattle.op_words.specs.Trails.{loaded}
use Rattle.op_words.specs.Views.{looked, making, claiming, fetching, finishing, giving_back, spreading, rolling_back, recalling, learning, deciding, settling, last_op, last_place, parent, child, merged}
use Rattle.op_words.specs.Journals.{roomed}
use Rattle.op_words.specs.Layout.{record_index, packed_record, decision_base, packed_decision, level_index, counter_base}
use Rattle.op_words.specs.Rule.{Seats, Lawful, Stays, Steps, most_taken}
use Rattle.op_words.specs.Counting.{taking, times}
use Rattle.op_words.specs.Plays.{end_of}

-- The hand may read the value x of operation s at attempt a: it loaded a word of s that has this value, and that is
-- settled if the attempt is the last one
pub record IsSeenUsable (v : View) (cap a s x : ℕ) : Type 0 where
  pub word : OpWord
  pub inside : Contains v.notes (loaded s word)
  pub shown : is_idle word.state ≡ false
  pub at_last : a ≡ cap + 1 → is_settled word.state ≡ true
  pub value_is : word.value ≡ x

-- The hand may read the value x at a place with this source, at attempt a. A base has its own value
abbrev pub IsUsable : View → ℕ → ℕ → Origin → ℕ → Type 0
IsUsable v cap a (Base b) x = b ≡ x
IsUsable v cap a (Written s) x = IsSeenUsable v cap a s x

-- A state of the table that keeps the rule, and a seat with its view, whose hand makes the next step
pub record Moment (p : Plan) (cap counters : ℕ) : Type 0 where
  pub table : Seats
  pub lawful : Lawful p cap counters table
  pub seat : ℕ
  pub view : View
  pub there : get_elem? table.views seat ≡ some (Some view)

-- The table with the words ws, in which seat i has the view u
abbrev pub turned : Seats → ℕ → List ℕ → View → Seats
turned s i ws u = record { words = ws; homes = s.homes; views = slice_set s.views i (Some u) }

module _ (p : Plan) (cap counters : ℕ) (m : Moment p cap counters) where
  -- The table t after the step leaves the machine as it was
  abbrev pub IsNone : Seats → Type 0
  IsNone t = Stays p cap counters m.table m.lawful t

  -- The table t after the step is as step e of the machine makes it
  abbrev pub IsStep : CoreEvent → Seats → Type 0
  IsStep e t = Steps p cap counters m.table m.lawful t e

  -- A load leaves the machine as it was, and so does an exchange that finds another word than it expects
  abbrev pub Loads : Type 0
  Loads =
      (o : ℕ) → o < op_count p → IsNone (turned m.table m.seat m.table.words (looked o (m.lawful.core.word o) m.view))

  -- The exchange of blocked to ready is the machine's step `Ready`
  abbrev pub Makes : Type 0
  Makes =
      (o a : ℕ) → o < op_count p → m.lawful.core.word o ≡ blocked a
      → IsStep (ReadyStep o) (turned m.table m.seat (slice_set m.table.words o (packed (ready a))) (making o a m.view))

  -- The exchange of ready to claimed is the machine's step `Claim`
  abbrev pub Claims : Type 0
  Claims =
      (o a : ℕ) → o < op_count p → m.view.claim ≡ None → m.lawful.core.word o ≡ ready a
      → IsStep (Claim o m.view.tag)
      (turned m.table m.seat (slice_set m.table.words o (packed (claimed a m.view.tag))) (claiming o a m.view))

  -- The store of a record that the hand may make is the machine's step `Fetch`
  abbrev pub Records : Type 0
  Records =
      (h : Held) (x : ℕ) → m.view.claim ≡ Some h → length h.values < places p h.op
      → IsUsable m.view cap h.attempt (origin_at p h.op (length h.values)) x
      → IsStep (Fetch h.op (length h.values) m.view.tag x)
      (turned m.table m.seat (slice_set m.table.words (record_index p h.op (length h.values))
      (packed_record (Some (record { value = x; attempt = h.attempt })))) (fetching h x m.view))

  -- The store of executed or failed over claimed is the machine's step `Finish`
  abbrev pub Finishes : Type 0
  Finishes =
      (h : Held) → m.view.claim ≡ Some h → length h.values ≡ places p h.op
      → IsStep (Finish h.op m.view.tag)
      (turned m.table m.seat (slice_set m.table.words h.op (packed (end_of m.view h)))
      (finishing h.op (end_of m.view h) h.values m.view))

  -- The store of blocked over claimed is the machine's step `GiveBack`
  abbrev pub GivesBack : Type 0
  GivesBack =
      (h : Held) → m.view.claim ≡ Some h
      → IsStep (GiveBack h.op m.view.tag)
      (turned m.table m.seat (slice_set m.table.words h.op (packed (blocked h.attempt)))
      (giving_back h.op h.attempt m.view))

  -- The exchange of executed to spread, by a failure of the operation that the hand noted last, is the machine's step
  -- `Spread` if the machine may take it
  abbrev pub Spreads : Type 0
  Spreads =
      (o sibling : ℕ) → last_op 0 m.view.notes ≡ sibling → May p cap m.lawful.core (SpreadStep o sibling)
      → IsStep (SpreadStep o sibling)
      (turned m.table m.seat (slice_set m.table.words o (packed (spread_of p m.lawful.core o)))
      (spreading o (spread_of p m.lawful.core o) m.view))

  -- The exchange of a word with a value for blocked at the next attempt, for the place whose record the hand noted
  -- last, is the machine's step `RollBack` if the machine may take it
  abbrev pub RollsBack : Type 0
  RollsBack =
      (o j : ℕ) → last_place 0 m.view.records ≡ j → May p cap m.lawful.core (RollBack o j)
      → IsStep (RollBack o j) (turned m.table m.seat
      (slice_set m.table.words o (packed (blocked ((m.lawful.core.word o).attempt + 1))))
      (rolling_back o ((m.lawful.core.word o).attempt + 1) m.view))

  -- The exchange of no decision for one is the machine's step `Decide` if the machine may take it
  abbrev pub DecidesEvent : Type 0
  DecidesEvent =
      (i : ℕ) (committed : Bool) → May p cap m.lawful.core (Decide i committed)
      → IsStep (Decide i committed)
      (turned m.table m.seat (slice_set m.table.words (decision_base p + i) (packed_decision (Some committed)))
      (deciding i committed m.view))

  -- The word that operation o has after the machine settled it
  abbrev pub settled_word : ℕ → OpWord
  settled_word o = (after p m.lawful.core (Settle o m.view.tag)).word o

  -- The exchange of a word for the settled one is the machine's step `Settle` if the machine may take it
  abbrev pub Settles : Type 0
  Settles =
      (o : ℕ) → May p cap m.lawful.core (Settle o m.view.tag)
      → IsStep (Settle o m.view.tag)
      (turned m.table m.seat (slice_set m.table.words o (packed (settled_word o))) (settling o (settled_word o) m.view))

  -- A load of a record leaves the machine as it was
  abbrev pub LoadsRecord : Type 0
  LoadsRecord =
      (o j : ℕ) → o < op_count p → j < places p o
      → IsNone (turned m.table m.seat m.table.words (recalling o j (record_value (m.lawful.core.recorded o j)) m.view))

  -- A load of a decision leaves the machine as it was
  abbrev pub LoadsDecision : Type 0
  LoadsDecision =
      (i : ℕ) → i < event_count p
      → IsNone (turned m.table m.seat m.table.words (learning i (m.lawful.core.decision i) m.view))

  -- An addition of 1 to a counter leaves the machine as it was
  abbrev pub MayTakeNumber : Type 0
  MayTakeNumber =
      (k : ℕ) → k < counters → times k m.view.places < most_taken
      → IsNone (turned m.table m.seat
      (slice_set m.table.words (counter_base p + k) (slice_index m.table.words (counter_base p + k) + 1))
      (taking k (slice_index m.table.words (counter_base p + k)) m.view))

  -- The machine stays as it was whatever is written to the level word
  abbrev pub Lowers : Type 0
  Lowers = (a : ℕ) → IsNone (turned m.table m.seat (slice_set m.table.words (level_index p) a) m.view)

  -- A step that leaves the level word as it is and gives the hand's journal room leaves the machine as it was
  abbrev pub GetsRoom : Type 0
  GetsRoom =
      (n : ℕ)
      → IsNone (turned m.table m.seat
      (slice_set m.table.words (level_index p) (slice_index m.table.words (level_index p))) (roomed n m.view))

  -- The machine stays as it was if the root makes a hand
  abbrev pub MakesHand : Type 0
  MakesHand =
      m.view.tag ≡ 1 → m.view.made < most_workers
      → IsNone (record { words = m.table.words; homes = m.table.homes; views = slice_set m.table.views m.seat (Some (parent m.view)) ++ Some (child m.view) ∷ [] })

  -- The machine stays as it was if a hand that holds nothing is joined into the root
  abbrev pub JoinsHand : Type 0
  JoinsHand =
      (o : ℕ) (w : View) → get_elem? m.table.views o ≡ some (Some w) → o ≢ m.seat → m.view.tag ≡ 1 → w.claim ≡ None
      → IsNone (record { words = m.table.words; homes = m.table.homes; views = slice_set (slice_set m.table.views m.seat (Some (merged m.view w))) o None })

-- An operation is held by at most one seat of a table
abbrev pub HoldsAlone : Plan → ℕ → ℕ → Type 0
HoldsAlone p cap counters =
    (s : Seats) (lawful : Lawful p cap counters s) (i j : ℕ) (v w : View) (h k : Held)
    → get_elem? s.views i ≡ some (Some v) → get_elem? s.views j ≡ some (Some w)
    → v.claim ≡ Some h → w.claim ≡ Some k → h.op ≡ k.op → i ≡ j
