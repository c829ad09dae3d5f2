use Rattle.std.proofs.Common.{◌≡◌, ◌+◌, length}
use Rattle.chain_units.proofs.places.blank.Given as goal

abbrev pub invariant-loop-op : goal.invariant-loop-op
invariant-loop-op l = record {
  len : length l.places.items ≡ l._op;
  room : l._op + l.places.room ≡ l.ops;
}
