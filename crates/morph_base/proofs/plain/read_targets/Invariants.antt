use Rattle.std.proofs.Common.{◌≡◌, ◌+◌, ◌≤◌, length, map, take}
use Rattle.morph_base.specs.Flat.{contents}
use Rattle.morph_base.proofs.plain.read_targets.Given as goal

abbrev pub invariant-loop-op : goal.invariant-loop-op
invariant-loop-op l =
    (l.found.items ≡ map (λ op. contents l.values op.key) (take l.op-index l.ops)) ×
    (length l.ops ≤ l.found.room + l.op-index)
