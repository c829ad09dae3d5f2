use Rattle.std.proofs.Common.{◌≡◌, ◌+◌, ◌≤◌, length, take}
use Rattle.morph_base.proofs.op_span.OpSpan.to_list.Given as goal

-- the list has the operations so far, and room for the others
abbrev pub invariant-loop-i : goal.invariant-loop-i
invariant-loop-i l = record {
  so_far : l.list.items ≡ take l.i l.self;
  room : length l.self ≤ l.list.room + l.i;
}
