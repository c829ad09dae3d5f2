use Rattle.precedence_graph.specs.Planned.{HasWriters, HasLevels, HasEventLevels}
use Rattle.precedence_graph.proofs.planned.enter_event.Given as goal

abbrev pub invariant-loop-o : goal.invariant-loop-o
invariant-loop-o l = record {
  writers : HasWriters l.txns l.o l.writers;
  levels : HasLevels l.ops.items l.o l.writers;
  event_levels : HasEventLevels l.ops.items l.events l.o l.writers;
}
