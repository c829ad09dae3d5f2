use Rattle.std.proofs.Common.{◌≡◌, refl, arith}
use Rattle.morph_base.specs.declared.operation.Op.{Op}
use Rattle.morph_base.proofs.BatchLaws.{all_of_them}
use Rattle.morph_base.proofs.validity.has_high.Goals as goal

pub returns : goal.returns
returns c = (
  λ yes.
      all_of_them (λ (op : Op). op.high ≡ c.args.high) c.args.event.now.ops c.ops.i
      (omega (arith, c.ops-test.false, c.len-i-end.ensures)) c.ops.invariant,
  λ all. refl,
)
