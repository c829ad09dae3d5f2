use Rattle.std.proofs.Common.{◌≡◌, false, map, take}
use Rattle.std.specs.List.{list_any}
use Rattle.morph_base.specs.Operations.{same_key}
use Rattle.morph_base.proofs.validity.has_target.Given as goal

-- none of the operations so far changes the key
abbrev pub invariant-ops : goal.invariant-ops
invariant-ops l = list_any (same_key l.key) (map (λ op. op.key) (take l.i l.ops)) ≡ false
