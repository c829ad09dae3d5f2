use Rattle.std.proofs.Common.{◌<◌, ◌≤◌, length, sym, ap, subst, ◌∙◌, arith}
use Rattle.std.specs.Prelude.{All}
use Rattle.morph_base.specs.declared.limits.TheConstants.{EVENT_OPS}
use Rattle.morph_base.specs.declared.plan.Plan.{Plan}
use Rattle.precedence_graph.proofs.ReadyLemmas.{levels_positive, ops_few}
use Rattle.precedence_graph.proofs.EventLemmas.{event_levels_positive, event_counts, events_few}
use Rattle.precedence_graph.proofs.BuiltLemmas.{op_column, event_of_column, event_column, transactions_same}
use Rattle.precedence_graph.proofs.BlankLemmas.{blank_is, plan_is}
use Rattle.precedence_graph.proofs.GraphLemmas.{event_lists_of, logical_of, graph_is}
use Rattle.precedence_graph.proofs.builder.build.Goals as goal

pub op_level_lists-requires-clause-positive : goal.op_level_lists-requires-clause-positive
op_level_lists-requires-clause-positive c =
    let x = c.args.txns in
    let ops = c.in_ok-ops.field-0.ops.items in
    levels_positive x c.requires ops c.in_ok-ops.ensures.ops

pub op_level_lists-requires-clause-few : goal.op_level_lists-requires-clause-few
op_level_lists-requires-clause-few c =
    let x = c.args.txns in
    let ops = c.in_ok-ops.field-0.ops.items in
    omega (arith, ops_few x c.requires ops c.in_ok-ops.ensures.ops)

pub event_level_lists-requires-clause-positive : goal.event_level_lists-requires-clause-positive
event_level_lists-requires-clause-positive c =
    let x = c.args.txns in
    let ops = c.in_ok-ops.field-0.ops.items in
    let events = c.in_ok-ops.field-0.events.items in
    subst (All (λ e. 0 < e.level)) (sym c.as_slice-2.ensures) (event_levels_positive x c.requires ops events c.in_ok-ops.ensures.events)

pub event_level_lists-requires-clause-few : goal.event_level_lists-requires-clause-few
event_level_lists-requires-clause-few c =
    let x = c.args.txns in
    let ops = c.in_ok-ops.field-0.ops.items in
    let events = c.in_ok-ops.field-0.events.items in
    omega (arith, ap length c.as_slice-2.ensures, events_few x c.requires ops events c.in_ok-ops.ensures.events)

pub logical-requires-clause-counts : goal.logical-requires-clause-counts
logical-requires-clause-counts c =
    let x = c.args.txns in
    let ops = c.in_ok-ops.field-0.ops.items in
    let events = c.in_ok-ops.field-0.events.items in
    subst (All (λ e. (0 < e.count) × (e.count ≤ EVENT_OPS))) (sym c.as_slice.ensures) (event_counts x c.requires ops events c.in_ok-ops.ensures.events)

pub logical-requires-clause-few : goal.logical-requires-clause-few
logical-requires-clause-few c =
    let x = c.args.txns in
    let ops = c.in_ok-ops.field-0.ops.items in
    let events = c.in_ok-ops.field-0.events.items in
    omega (arith, ap length c.as_slice.ensures, events_few x c.requires ops events c.in_ok-ops.ensures.events)

pub returns-clause-plan : goal.returns-clause-plan
returns-clause-plan c =
    let x = c.args.txns in
    let p : Plan = record {
      events = c.in_ok-ops.field-0.events;
      ops = c.in_ok-ops.field-0.ops;
      op_levels = c.in_ok-op_levels.op_levels;
      event_levels = c.in_ok-event_levels.event_levels;
      edges = record { temporal = c.in_ok-ops.field-0.written.targets; parametric = c.in_ok-ops.field-0.written.parameters; logical = c.logical.result };
    } in
    let events_done = c.in_ok-ops.ensures.events in
    plan_is x c.requires p c.in_ok-ops.ensures.ops events_done

pub returns-clause-graph : goal.returns-clause-graph
returns-clause-graph c =
    let x = c.args.txns in
    let p : Plan = record {
      events = c.in_ok-ops.field-0.events;
      ops = c.in_ok-ops.field-0.ops;
      op_levels = c.in_ok-op_levels.op_levels;
      event_levels = c.in_ok-event_levels.event_levels;
      edges = record { temporal = c.in_ok-ops.field-0.written.targets; parametric = c.in_ok-ops.field-0.written.parameters; logical = c.logical.result };
    } in
    let events_done = c.in_ok-ops.ensures.events in
    let same_events = c.as_slice.ensures in
    graph_is x c.requires p c.in_ok-ops.ensures.ops events_done c.in_ok-op_levels.ensures (c.in_ok-event_levels.ensures ∙ ap event_lists_of c.as_slice-2.ensures)
    c.in_ok-ops.ensures.written.targets c.in_ok-ops.ensures.written.parameters (c.logical.ensures ∙ ap logical_of same_events)

pub returns-clause-ops : goal.returns-clause-ops
returns-clause-ops c =
    let x = c.args.txns in
    let p : Plan = record {
      events = c.in_ok-ops.field-0.events;
      ops = c.in_ok-ops.field-0.ops;
      op_levels = c.in_ok-op_levels.op_levels;
      event_levels = c.in_ok-event_levels.event_levels;
      edges = record { temporal = c.in_ok-ops.field-0.written.targets; parametric = c.in_ok-ops.field-0.written.parameters; logical = c.logical.result };
    } in
    let events_done = c.in_ok-ops.ensures.events in
    op_column x c.requires p c.in_ok-ops.ensures.ops events_done

pub returns-clause-events_of : goal.returns-clause-events_of
returns-clause-events_of c =
    let x = c.args.txns in
    let p : Plan = record {
      events = c.in_ok-ops.field-0.events;
      ops = c.in_ok-ops.field-0.ops;
      op_levels = c.in_ok-op_levels.op_levels;
      event_levels = c.in_ok-event_levels.event_levels;
      edges = record { temporal = c.in_ok-ops.field-0.written.targets; parametric = c.in_ok-ops.field-0.written.parameters; logical = c.logical.result };
    } in
    let events_done = c.in_ok-ops.ensures.events in
    event_of_column x c.requires p c.in_ok-ops.ensures.ops events_done

pub returns-clause-events : goal.returns-clause-events
returns-clause-events c =
    let x = c.args.txns in
    let p : Plan = record {
      events = c.in_ok-ops.field-0.events;
      ops = c.in_ok-ops.field-0.ops;
      op_levels = c.in_ok-op_levels.op_levels;
      event_levels = c.in_ok-event_levels.event_levels;
      edges = record { temporal = c.in_ok-ops.field-0.written.targets; parametric = c.in_ok-ops.field-0.written.parameters; logical = c.logical.result };
    } in
    let events_done = c.in_ok-ops.ensures.events in
    event_column x c.requires p c.in_ok-ops.ensures.ops events_done

pub returns-clause-transactions : goal.returns-clause-transactions
returns-clause-transactions c =
    let x = c.args.txns in
    let p : Plan = record {
      events = c.in_ok-ops.field-0.events;
      ops = c.in_ok-ops.field-0.ops;
      op_levels = c.in_ok-op_levels.op_levels;
      event_levels = c.in_ok-event_levels.event_levels;
      edges = record { temporal = c.in_ok-ops.field-0.written.targets; parametric = c.in_ok-ops.field-0.written.parameters; logical = c.logical.result };
    } in
    let events_done = c.in_ok-ops.ensures.events in
    transactions_same x c.requires p c.in_ok-ops.ensures.ops events_done

pub returns-clause-blank : goal.returns-clause-blank
returns-clause-blank c =
    let x = c.args.txns in
    let p : Plan = record {
      events = c.in_ok-ops.field-0.events;
      ops = c.in_ok-ops.field-0.ops;
      op_levels = c.in_ok-op_levels.op_levels;
      event_levels = c.in_ok-event_levels.event_levels;
      edges = record { temporal = c.in_ok-ops.field-0.written.targets; parametric = c.in_ok-ops.field-0.written.parameters; logical = c.logical.result };
    } in
    let events_done = c.in_ok-ops.ensures.events in
    blank_is x c.requires p c.in_ok-ops.ensures.ops events_done
