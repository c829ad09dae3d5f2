use Rattle.std.proofs.Common.{◌≡◌, ◌+◌, ◌++◌, take}
use Rattle.morph_base.proofs.op_rows.add_keys.Given as goal

abbrev pub invariant-loop-key : goal.invariant-loop-key
invariant-loop-key l = record {
  keys : l.keys.items ≡ l.initial.keys.items ++ take l.key-index l.more;
  room : l.initial.keys.room ≡ l.keys.room + l.key-index;
}
