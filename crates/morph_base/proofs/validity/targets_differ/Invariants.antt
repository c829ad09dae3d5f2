use Rattle.std.proofs.Common.{map, take}
use Rattle.std.specs.List.{IsDistinct}
use Rattle.morph_base.specs.Operations.{same_key}
use Rattle.morph_base.proofs.validity.targets_differ.Given as goal

abbrev pub invariant-ops : goal.invariant-ops
invariant-ops l = IsDistinct same_key (map (λ op. op.key) (take l.i l.ops))
