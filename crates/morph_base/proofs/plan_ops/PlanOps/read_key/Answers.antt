use Rattle.std.proofs.Common.{◌∙◌, arith}
use Rattle.morph_base.proofs.OpViewLaws.{in_rows, kept_is, read_key_is}
use Rattle.morph_base.proofs.plan_ops.PlanOps.read_key.Goals as goal

pub key-requires-clause-inside : goal.key-requires-clause-inside
key-requires-clause-inside c = in_rows c.self.inside c.args.self.now c.self.view_is c.self.invariant c.args.o c.requires.inside

pub key-requires-clause-place : goal.key-requires-clause-place
key-requires-clause-place c =
    omega (arith, c.requires.place, kept_is c.self.inside c.args.self.now c.self.view_is c.self.invariant c.args.o c.requires.inside)

pub returns : goal.returns
returns c =
    c.key.ensures
    ∙ read_key_is c.self.inside c.args.self.now c.self.view_is c.self.invariant c.args.o c.requires.inside c.args.j c.requires.place
