use Rattle.std.proofs.Common.{sym, ap, ◌∙◌, arith}
use Rattle.morph_base.specs.declared.operation.Op.{Op}
use Rattle.morph_base.proofs.OpViewLaws.{in_rows, row_is, kept_is}
use Rattle.morph_base.proofs.plan_ops.PlanOps.key.Goals as goal

pub key-requires-clause-inside : goal.key-requires-clause-inside
key-requires-clause-inside c = in_rows c.self.inside c.args.self.now c.self.view_is c.self.invariant c.args.o c.requires

pub key-requires-clause-place : goal.key-requires-clause-place
key-requires-clause-place c =
    omega (arith, kept_is c.self.inside c.args.self.now c.self.view_is c.self.invariant c.args.o c.requires)

pub returns : goal.returns
returns c =
    c.key.ensures
    ∙ ap (λ (op : Op). op.key) (sym (row_is c.self.inside c.args.self.now c.self.view_is c.self.invariant c.args.o c.requires))
