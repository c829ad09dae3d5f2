-- What a plan has so far while it is made: operations and events over lists, and over the first of them
use Rattle.std.specs.Prelude.{◌≡◌, ℕ, ◌+◌, ◌-◌, ◌*◌, ◌≤◌, ◌<◌, List, ◌++◌, length, take, drop, map, replicate, All, count_by, sum_by, slice_index_or, if◌then◌else◌}
use Rattle.std.specs.List.{flat_map}
use Rattle.morph_base.specs.declared.limits.TheConstants.{PARAMS, READS}
use Rattle.morph_base.specs.declared.key.Key.{Key}
use Rattle.morph_base.specs.declared.operation.Op.{Op}
use Rattle.morph_base.specs.declared.plan.Origin.{Origin}
use Rattle.morph_base.specs.declared.plan.Origin.TheVariants.{Base}
use Rattle.morph_base.specs.declared.plan.PlanOp.{PlanOp}
use Rattle.morph_base.specs.declared.plan.PlanEvent.{PlanEvent}
use Rattle.morph_base.specs.Operations.{reads, IsShaped}
use Rattle.morph_base.specs.Sources.{IsSource}
pub use Rattle.morph_base.specs.Readers.{sources_of}
use Rattle.morph_base.specs.Plans.{no_plan_op, no_event}
use Rattle.morph_base.specs.Known.{IsKnown}
use Rattle.morph_base.specs.Graphs.{greatest, is_written, level_of}
use Rattle.txn_splitter.specs.declared.txn_events.TxnEvent.{TxnEvent}
use Rattle.txn_splitter.specs.declared.txns.Txns.{Txns}
use Rattle.txn_splitter.specs.Txns.{txn_op_count, txn_at, txn_op_at, txn_of, txn_target}
use Rattle.precedence_graph.specs.declared.edges.Written.{Written}
use Rattle.precedence_graph.specs.declared.sources.Reads.{Reads}
use Rattle.precedence_graph.specs.declared.writers.Writers.{Writers}
use Rattle.precedence_graph.specs.Writers.{entered_count, room_of, source_in, entered_level, entered_event_level}

-- The source is a base or one of the first n operations
abbrev pub IsAmong : ℕ → Origin → Type 0
IsAmong n = IsKnown (λ s. s < n)

-- The sources, and then a base of 0 for each place that is not used
abbrev pub padded : List Origin → List Origin
padded sources = sources ++ replicate (READS - length sources) (Base 0)

-- The operation with number o
abbrev pub planned : List PlanOp → ℕ → PlanOp
planned ops o = slice_index_or ops o no_plan_op

-- The level of operation o
abbrev pub op_level_in : List PlanOp → ℕ → ℕ
op_level_in ops o = (planned ops o).level

-- The level of the event of operation o
abbrev pub event_level_in : List PlanOp → List PlanEvent → ℕ → ℕ
event_level_in ops events o = (slice_index_or events (planned ops o).event no_event).level

-- The operation has a valid shape and a source at each place. It reads only from the first n operations, and from none
-- if it is at level 1
pub record IsSoundPlanOp (n : ℕ) (q : PlanOp) : Type 0 where
  pub shaped : IsShaped q.op
  pub places : length q.origins ≡ READS
  pub among : All (IsAmong n) (sources_of q)
  pub lowest : q.level ≤ 1 → All (IsAmong 0) (sources_of q)

-- The table has the last writers among the first n operations, and room for the others
pub record HasWriters (x : Txns) (n : ℕ) (writers : Writers) : Type 0 where
  pub count : entered_count writers ≡ n
  pub room : n + room_of writers ≡ txn_op_count x
  pub source : (key : Key) → IsSource n (txn_target x) (λ _. 0) 1 key (source_in writers key)

-- The first n operations were entered with their levels
abbrev pub HasLevels : List PlanOp → ℕ → Writers → Type 0
HasLevels ops n writers = (o : ℕ) → o < n → entered_level writers o ≡ op_level_in ops o

-- The first n operations were entered with the levels of their events
abbrev pub HasEventLevels : List PlanOp → List PlanEvent → ℕ → Writers → Type 0
HasEventLevels ops events n writers = (o : ℕ) → o < n → entered_event_level writers o ≡ event_level_in ops events o

-- Operation o of the transactions is planned in `ops`: some function gives the source of each key for its event, with 0
-- at a base, and the operation reads from operations before it
pub record IsPlannedOp (x : Txns) (ops : List PlanOp) (o : ℕ) : Type 0 where
  pub op_is : (planned ops o).op ≡ txn_op_at x o
  pub event_is : (planned ops o).event ≡ txn_of x o
  pub source : Key → Origin
  pub source_is : (key : Key) → IsSource (txn_op_count x) (txn_target x) (txn_of x) (txn_of x o) key (source key)
  pub base_is : (key : Key) (v : ℕ) → source key ≡ Base v → v ≡ 0
  pub origins_are : (planned ops o).origins ≡ padded (map source (reads (planned ops o).op))
  pub among : All (IsAmong o) (sources_of (planned ops o))
  pub level_is : (planned ops o).level ≡ 1 + greatest (map (level_of (op_level_in ops)) (sources_of (planned ops o)))

-- How many of the operations' targets were written by an operation
abbrev pub targets_in : List PlanOp → ℕ
targets_in ops = count_by (λ q. is_written (slice_index_or q.origins 0 (Base 0))) ops

-- How many of the operations' parameters were written by an operation
abbrev pub parameters_in : List PlanOp → ℕ
parameters_in ops = sum_by (λ q. count_by is_written (drop 1 (sources_of q))) ops

-- The counts are those of these operations, and are bounded by the number of operations
pub record IsWrittenOf (ops : List PlanOp) (written : Written) : Type 0 where
  pub targets : written.targets ≡ targets_in ops
  pub parameters : written.parameters ≡ parameters_in ops
  pub few : written.parameters ≤ PARAMS * length ops

-- The result r has the greatest levels of the operation's sources, and counts how many of the sources are operations
pub record IsSumOf (writers : Writers) (op : Op) (r : Reads) : Type 0 where
  pub level : r.level ≡ greatest (map (level_of (entered_level writers)) (map (source_in writers) (reads op)))
  pub event_level :
      r.event_level ≡ greatest (map (level_of (entered_event_level writers)) (map (source_in writers) (reads op)))
  pub target : r.target ≡ (if is_written (source_in writers op.key) then 1 else 0)
  pub parameters : r.parameters ≡ count_by is_written (map (source_in writers) (drop 1 (reads op)))
  pub few : r.parameters ≤ PARAMS

-- The first n operations are planned, with levels of at most n
pub record ArePlanned (x : Txns) (n : ℕ) (ops : List PlanOp) : Type 0 where
  pub many : length ops ≡ n
  pub each : (o : ℕ) → o < n → IsPlannedOp x ops o
  pub low : All (λ q. q.level ≤ n) ops

-- The operations of event i
abbrev pub members_of : Txns → List PlanOp → ℕ → List PlanOp
members_of x ops i = take (txn_at x i).count (drop (txn_at x i).first ops)

-- All sources of the operations in the list
abbrev pub event_sources_of : List PlanOp → List Origin
event_sources_of members = flat_map sources_of members

-- An event of a plan as one of the transactions
abbrev pub txn_event : PlanEvent → TxnEvent
txn_event e = record { ts = e.ts; first = e.first; count = e.count }

-- The first n events are planned, with levels of at most n
pub record AreEventsPlanned (x : Txns) (ops : List PlanOp) (n : ℕ) (events : List PlanEvent) : Type 0 where
  pub events_are : map txn_event events ≡ take n x.events
  pub level_is : (i : ℕ) → i < n
      → (slice_index_or events i no_event).level
      ≡ 1 + greatest (map (level_of (event_level_in ops events)) (event_sources_of (members_of x ops i)))
  pub low : All (λ e. e.level ≤ n) events
