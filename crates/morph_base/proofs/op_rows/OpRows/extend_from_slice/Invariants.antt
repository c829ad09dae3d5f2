use Rattle.std.proofs.Common.{◌≡◌, ◌++◌, take}
use Rattle.morph_base.proofs.op_rows.OpRows.extend_from_slice.Given as goal

abbrev pub invariant-loop-op : goal.invariant-loop-op
invariant-loop-op l = l.self ≡ l.initial.self ++ take l.op-index l.ops
