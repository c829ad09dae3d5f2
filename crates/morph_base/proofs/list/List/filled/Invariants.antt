use Rattle.std.proofs.Common.{◌≡◌, ◌+◌, replicate}
use Rattle.morph_base.proofs.list.List.filled.Given as goal

abbrev pub invariant-loop : goal.invariant-loop
invariant-loop g l = (l.list.items ≡ replicate l.counter l.item) × (l.list.room + l.counter ≡ l.n)
