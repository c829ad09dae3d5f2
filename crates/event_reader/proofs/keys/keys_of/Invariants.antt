use Rattle.std.proofs.Common.{◌≡◌, length, map, take}
use Rattle.event_reader.specs.Keys.{key_of}
use Rattle.event_reader.proofs.keys.keys_of.Given as goal

abbrev pub invariant-loop-i : goal.invariant-loop-i
invariant-loop-i g l = record {
  room : length l.keys ≡ g.row.N;
  keys : take l.i l.keys ≡ map (key_of l.table) (take l.i l.ids);
}
