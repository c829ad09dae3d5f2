use Rattle.std.proofs.Common.{◌≡◌, ◌+◌, length}
use Rattle.std.specs.BTreeMap.{btree_map_len}
use Rattle.chain_units.proofs.chains.in_order.Given as goal

abbrev pub invariant-loop-chain : goal.invariant-loop-chain
invariant-loop-chain l = record {
  next : (goal.iterator-loop-chain).can_next l.chain-iterator;
  finite : (goal.iterator-loop-chain).is_finite l.chain-iterator;
  items : l.units.items ≡ l.yielded;
  room : length l.yielded + l.units.room ≡ btree_map_len l.fn.chains;
}
