use Rattle.std.proofs.Common.{◌≡◌, ◌+◌}
use Rattle.morph_base.specs.Graphs.{below}
use Rattle.chain_units.proofs.alone.Alone.new.Given as goal

abbrev pub invariant-loop-op : goal.invariant-loop-op
invariant-loop-op l = record {
  items : l.numbers.items ≡ below l.op;
  room : l.op + l.numbers.room ≡ l.ops;
}
