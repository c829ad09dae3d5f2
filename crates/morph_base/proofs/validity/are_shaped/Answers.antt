use Rattle.std.proofs.Common.{refl, subst, arith}
use Rattle.morph_base.specs.Operations.{IsShaped, no_op}
use Rattle.morph_base.proofs.BatchLaws.{all_more, all_of_them}
use Rattle.morph_base.proofs.validity.are_shaped.Goals as goal

pub ops-preserved : goal.ops-preserved
ops-preserved c =
    all_more IsShaped c.args.ops.now c.ops.i no_op (omega (arith, c.ops-test.true, c.len-i-end.ensures)) c.ops.invariant
    (subst IsShaped c.get.ensures (c.is_shaped.ensures.0 c.if-not-is_shaped.false))

pub returns : goal.returns
returns c = (
  λ yes. all_of_them IsShaped c.args.ops.now c.ops.i (omega (arith, c.ops-test.false, c.len-i-end.ensures)) c.ops.invariant,
  λ all. refl,
)
