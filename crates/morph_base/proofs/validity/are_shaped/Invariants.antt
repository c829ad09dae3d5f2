use Rattle.std.proofs.Common.{All, take}
use Rattle.morph_base.specs.Operations.{IsShaped}
use Rattle.morph_base.proofs.validity.are_shaped.Given as goal

abbrev pub invariant-ops : goal.invariant-ops
invariant-ops l = All IsShaped (take l.i l.ops)
