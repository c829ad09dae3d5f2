use Rattle.std.proofs.Common.{◌≡◌, ◌+◌, ◌≤◌, ◌∷◌, length, map, take, All}
use Rattle.morph_base.specs.declared.limits.TheConstants.{MAX, READS}
use Rattle.morph_base.specs.Flat.{contents}
use Rattle.morph_base.proofs.plain.answer.Given as goal

abbrev pub invariant-loop-j : goal.invariant-loop-j
invariant-loop-j l = record {
  read : take (l.j + 1) l.xs ≡ map (contents l.values) (l.op.key ∷ take l.j l.op.params);
  small : All (λ x. x ≤ MAX) l.xs;
  len : length l.xs ≡ READS;
}
