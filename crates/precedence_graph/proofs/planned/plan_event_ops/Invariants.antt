use Rattle.std.proofs.Common.{◌≡◌, ◌+◌, length, take, drop, map}
use Rattle.morph_base.specs.Graphs.{greatest, level_of}
use Rattle.txn_splitter.specs.Txns.{txn_ops, txn_at}
use Rattle.precedence_graph.specs.Writers.{entered_event_level}
use Rattle.precedence_graph.specs.Planned.{event_sources_of, IsWrittenOf, ArePlanned}
use Rattle.precedence_graph.proofs.planned.plan_event_ops.Given as goal

abbrev pub invariant-loop : goal.invariant-loop
invariant-loop l = record {
  coming : l.ops.coming ≡ drop (length l.ops.items) (txn_ops l.txns);
  planned : ArePlanned l.txns ((txn_at l.txns l.i).first + l.counter) l.ops.items;
  kept : take (txn_at l.txns l.i).first l.ops.items ≡ l.initial.ops.items;
  most : l.most ≡ greatest (map (level_of (entered_event_level l.writers)) (event_sources_of (drop (txn_at l.txns l.i).first l.ops.items)));
  written : IsWrittenOf l.ops.items l.written;
}
