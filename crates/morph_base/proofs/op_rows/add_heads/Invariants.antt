use Rattle.std.proofs.Common.{◌≡◌, ◌+◌, ◌++◌, map, take}
use Rattle.morph_base.specs.RowViews.{shifted}
use Rattle.morph_base.proofs.op_rows.add_heads.Given as goal

abbrev pub invariant-loop-head : goal.invariant-loop-head
invariant-loop-head l = record {
  heads : l.heads.items ≡ l.initial.heads.items ++ map (shifted l.base) (take l.head-index l.more);
  room : l.initial.heads.room ≡ l.heads.room + l.head-index;
}
