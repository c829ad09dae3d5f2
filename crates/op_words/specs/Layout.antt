-- How the board keeps a state of the machine in one row of words
use Rattle.std.specs.Prelude.{◌≡◌, ℕ, ◌+◌, ◌≤◌, ◌<◌, Bool, true, false, List, length, Option, Some, None, slice_index}
use Rattle.morph_base.specs.declared.plan.Plan.{Plan}
use Rattle.morph_base.specs.Plans.{op_count, event_count}
use Rattle.morph_base.specs.OpLists.{places_before}
use Rattle.morph_base.specs.Words.{packed}
use Rattle.interleaving_core.specs.declared.entry.Record.{Record}
use Rattle.interleaving_core.specs.Core.{Core, blocked, places, ready}

-- The word of operation o is the o-th. The records come after the operations, one for each place that an operation
-- reads: this is the place of the first one of operation o
abbrev pub record_base : Plan → ℕ → ℕ
record_base p o = op_count p + places_before p.ops.items o

-- The place of the record of operation o at place j
abbrev pub record_index : Plan → ℕ → ℕ → ℕ
record_index p o j = record_base p o + j

-- The decisions come after the records: this is the place of the first one
abbrev pub decision_base : Plan → ℕ
decision_base p = record_base p (op_count p)

-- The level word comes after the decisions: this is its place
abbrev pub level_index : Plan → ℕ
level_index p = decision_base p + event_count p

-- The counters come last: this is the place of the first one
abbrev pub counter_base : Plan → ℕ
counter_base p = level_index p + 1

-- A record is one number: its value above the packed word of an operation that is ready at its attempt. So value and
-- attempt stand where a packed word has them, with a bit above them. The number is 0 if there is no record
abbrev pub packed_record : Option Record → ℕ
packed_record None = 0
packed_record (Some r) = r.value + packed (ready r.attempt)

-- A decision is one number: 0 if there is none, 1 if the event commits, 2 if it aborts
abbrev pub packed_decision : Option Bool → ℕ
packed_decision None = 0
packed_decision (Some true) = 1
packed_decision (Some false) = 2

-- The words ws show state c of the machine. Nothing is said of the level word and the counters except how many words
-- there are
pub record Shows (p : Plan) (counters : ℕ) (c : Core) (ws : List ℕ) : Type 0 where
  pub long : length ws ≡ counter_base p + counters
  pub ops : (o : ℕ) → o < op_count p → slice_index ws o ≡ packed (c.word o)
  pub records :
      (o j : ℕ) → o < op_count p → j < places p o → slice_index ws (record_index p o j) ≡ packed_record (c.recorded o j)
  pub decisions : (i : ℕ) → i < event_count p → slice_index ws (decision_base p + i) ≡ packed_decision (c.decision i)

-- The words ws are those of a new board: each operation is blocked at attempt 1, nothing is recorded or decided, the
-- level word has its greatest number, and each counter is 0
pub record AreFirstWords (p : Plan) (counters : ℕ) (ws : List ℕ) : Type 0 where
  pub long : length ws ≡ counter_base p + counters
  pub ops : (o : ℕ) → o < op_count p → slice_index ws o ≡ packed (blocked 1)
  pub zeros : (i : ℕ) → op_count p ≤ i → i < level_index p → slice_index ws i ≡ 0
  pub level : slice_index ws (level_index p) ≡ 4294967295
  pub counters_are : (k : ℕ) → k < counters → slice_index ws (counter_base p + k) ≡ 0
