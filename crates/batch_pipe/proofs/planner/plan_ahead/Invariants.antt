use Rattle.std.proofs.Common.{◌+◌, ◌-◌, ◌≤◌, None, length}
use Rattle.event_reader.specs.Limits.{input_bytes}
use Rattle.rtrb.specs.Ring.{sent, known_free, SameProducer}
use Rattle.event_reader.specs.Reader.{SameReader}
use Rattle.batch_pipe.specs.PlannedBatches.{HasPlanned, CanPlan}
use Rattle.batch_pipe.proofs.planner.plan_ahead.Given as goal

abbrev pub invariant-planning : goal.invariant-planning
invariant-planning g l = record {
  plans : HasPlanned g.A.EventApp.event_of g.A.EventApp.table_count l.initial.planner (g.S.Source.left l.initial.source) None l.planner (g.S.Source.left l.source);
  ring : SameProducer l.initial.planner.ring l.planner.ring;
  enough : length (sent l.initial.planner.ring) + known_free l.initial.planner.ring ≤ length (sent l.planner.ring) + known_free l.planner.ring;
  able : CanPlan g.A.EventApp.table_count l.planner;
  same : SameReader l.initial.planner.reader l.planner.reader;
  never_falls : g.S.Source.faults l.initial.source ≤ g.S.Source.faults l.source;
}

abbrev pub decreases-planning : goal.decreases-planning
decreases-planning g l = input_bytes + 2 - l.planner.reader.lines.number
