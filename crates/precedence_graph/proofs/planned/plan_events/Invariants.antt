use Rattle.std.proofs.Common.{◌≡◌, ◌+◌, ◌<◌, ◌≤◌, length, drop}
use Rattle.txn_splitter.specs.Txns.{txn_ops, txn_count, txn_op_count, txn_at}
use Rattle.precedence_graph.specs.Planned.{HasWriters, HasLevels, HasEventLevels, IsWrittenOf, ArePlanned, AreEventsPlanned}
use Rattle.precedence_graph.proofs.planned.plan_events.Given as goal

abbrev pub invariant-loop-i : goal.invariant-loop-i
invariant-loop-i l = record {
  start : l.i < txn_count l.txns → length l.ops.items ≡ (txn_at l.txns l.i).first;
  end : txn_count l.txns ≤ l.i → length l.ops.items ≡ txn_op_count l.txns;
  coming : l.ops.coming ≡ drop (length l.ops.items) (txn_ops l.txns);
  event_room : l.events.room + l.i ≡ txn_count l.txns;
  planned : ArePlanned l.txns (length l.ops.items) l.ops.items;
  events : AreEventsPlanned l.txns l.ops.items l.i l.events.items;
  written : IsWrittenOf l.ops.items l.written;
  writers : HasWriters l.txns (length l.ops.items) l.writers;
  levels : HasLevels l.ops.items (length l.ops.items) l.writers;
  event_levels : HasEventLevels l.ops.items l.events.items (length l.ops.items) l.writers;
}
