use Rattle.std.proofs.Common.{◌≡◌, ◌*◌, ◌/◌, ◌-◌, ◌≤◌, take, sum_by}
use Rattle.morph_base.specs.declared.limits.TheConstants.{EVENT_OPS}
use Rattle.precedence_graph.proofs.edges.logical.Given as goal

abbrev pub invariant-loop-event : goal.invariant-loop-event
invariant-loop-event l = record {
  so_far : l.all ≡ sum_by (λ e. e.count * (e.count - 1) / 2) (take l.event-index l.events);
  small : l.all ≤ EVENT_OPS * EVENT_OPS * l.event-index;
}
