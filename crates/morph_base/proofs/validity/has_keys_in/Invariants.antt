use Rattle.std.proofs.Common.{All, take}
use Rattle.morph_base.specs.Operations.{InLayout, reads}
use Rattle.morph_base.proofs.validity.has_keys_in.Given as goal

abbrev pub invariant-ops : goal.invariant-ops
invariant-ops l = All (λ op. All (InLayout l.layout) (reads op)) (take l.i l.event.ops)
