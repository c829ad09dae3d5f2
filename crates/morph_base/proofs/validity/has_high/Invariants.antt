use Rattle.std.proofs.Common.{◌≡◌, All, take}
use Rattle.morph_base.proofs.validity.has_high.Given as goal

abbrev pub invariant-ops : goal.invariant-ops
invariant-ops l = All (λ op. op.high ≡ l.high) (take l.i l.event.ops)
