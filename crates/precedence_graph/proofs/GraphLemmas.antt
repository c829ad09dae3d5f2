-- The graph of a plan whose operations and events are all planned.
use Rattle.std.proofs.Common.{◌≡◌, ℕ, ◌+◌, ◌-◌, ◌*◌, ◌/◌, ◌<◌, cond, eqb, List, length, get_or, drop, map, filter, sum_by, flat_map, sym, ap, ◌∙◌, arith}
use Rattle.std.specs.Prelude.{count_by}
use Rattle.std.specs.List.{range_with_len}
use Rattle.std.proofs.lemmas.List.Folds.{flat_map-map}
use Rattle.morph_base.specs.declared.plan.Origin.{Origin}
use Rattle.morph_base.specs.declared.plan.Origin.TheVariants.{Base}
use Rattle.morph_base.specs.declared.plan.PlanOp.{PlanOp}
use Rattle.morph_base.specs.declared.plan.PlanEvent.{PlanEvent}
use Rattle.morph_base.specs.declared.plan.Plan.{Plan}
use Rattle.morph_base.specs.Plans.{no_plan_op, no_event, origins_of}
use Rattle.morph_base.specs.Graphs.{greatest, below, is_written, level_of, event_origins, IsGraph}
use Rattle.txn_splitter.specs.declared.txn_events.TxnEvent.{TxnEvent}
use Rattle.txn_splitter.specs.declared.txns.Txns.{Txns}
use Rattle.txn_splitter.specs.Txns.{IsTxns, txn_count, txn_op_count, txn_at}
use Rattle.txn_splitter.proofs.TxnLemmas.{txn_end}
use Rattle.precedence_graph.specs.Planned.{sources_of, planned, event_level_in, event_sources_of, members_of, targets_in, parameters_in, ArePlanned, AreEventsPlanned}
use Rattle.precedence_graph.proofs.ListLemmas.{sum_by-below, map-range_is}
use Rattle.precedence_graph.proofs.BuiltLemmas.{events_same, ops_same, event_at_same}

-- ---- what the parts of a graph are, over its operations and events

abbrev pub op_lists_of : List PlanOp → List (List ℕ)
op_lists_of ops = map (λ l. filter (λ o. eqb (planned ops o).level (l + 1)) (below (length ops))) (below (greatest (map (λ q. q.level) ops)))

abbrev pub event_lists_of : List PlanEvent → List (List ℕ)
event_lists_of events = map (λ l. filter (λ i. eqb (get_or events i no_event).level (l + 1)) (below (length events))) (below (greatest (map (λ e. e.level) events)))

abbrev pub logical_of : List PlanEvent → ℕ
logical_of events = sum_by (λ e. e.count * (e.count - 1) / 2) events

module _ (x : Txns) (is : IsTxns x) (p : Plan) (done : ArePlanned x (txn_op_count x) p.ops.items) (events_done : AreEventsPlanned x p.ops.items (txn_count x) p.events.items) where
  event_origins_are : (i : ℕ) → i < txn_count x → event_sources_of (members_of x p.ops.items i) ≡ event_origins p i
  event_origins_are i lt =
      let end = txn_end x is i lt in
      let many : length p.ops.items ≡ txn_op_count x = done.many in
      let numbers = range_with_len (txn_at x i).first (txn_at x i).count in
      ap (flat_map sources_of) (sym (map-range_is p.ops.items (txn_at x i).first (txn_at x i).count no_plan_op (omega arith))) ∙ flat_map-map sources_of (planned p.ops.items) numbers ∙ ap (λ (e : TxnEvent). flat_map (origins_of p) (range_with_len e.first e.count)) (event_at_same x is p done events_done i)

  pub graph_is : map (λ list. list.items) p.op_levels.items ≡ op_lists_of p.ops.items → map (λ list. list.items) p.event_levels.items ≡ event_lists_of p.events.items
      → p.edges.temporal ≡ targets_in p.ops.items → p.edges.parametric ≡ parameters_in p.ops.items → p.edges.logical ≡ logical_of p.events.items → IsGraph p
  graph_is op_lists event_lists temporal parametric logical = record {
    op_level_is = λ o lt. (done.each o (omega (arith, ops_same x is p done events_done))).level_is;
    event_level_is = λ i lt. let inside : i < txn_count x = omega (arith, events_same x is p done events_done) in
        events_done.level_is i inside ∙ ap (λ (origins : List Origin). 1 + greatest (map (level_of (event_level_in p.ops.items p.events.items)) origins)) (event_origins_are i inside);
    op_levels_are = op_lists;
    event_levels_are = event_lists;
    temporal_is = temporal ∙ sum_by-below (λ (q : PlanOp). cond (is_written (get_or q.origins 0 (Base 0))) 1 0) p.ops.items no_plan_op;
    parametric_is = parametric ∙ sum_by-below (λ q. count_by is_written (drop 1 (sources_of q))) p.ops.items no_plan_op;
    logical_is = logical;
  }
