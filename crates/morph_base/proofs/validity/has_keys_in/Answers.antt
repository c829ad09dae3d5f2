use Rattle.std.proofs.Common.{refl, subst, arith, All}
use Rattle.morph_base.specs.declared.operation.Op.{Op}
use Rattle.morph_base.specs.Operations.{InLayout, reads, no_op}
use Rattle.morph_base.proofs.BatchLaws.{all_more, all_of_them}
use Rattle.morph_base.proofs.validity.has_keys_in.Goals as goal

pub ops-preserved : goal.ops-preserved
ops-preserved c =
    let inside = λ (op : Op). All (InLayout c.args.layout) (reads op) in
    all_more inside c.args.event.now.ops c.ops.i no_op (omega (arith, c.ops-test.true, c.len-i-end.ensures)) c.ops.invariant
    (subst inside c.get.ensures (c.reads_in.ensures.0 c.if-not-reads_in.false))

pub returns : goal.returns
returns c = (
  λ yes.
      all_of_them (λ (op : Op). All (InLayout c.args.layout) (reads op)) c.args.event.now.ops c.ops.i
      (omega (arith, c.ops-test.false, c.len-i-end.ensures)) c.ops.invariant,
  λ all. refl,
)
