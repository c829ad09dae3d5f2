use Rattle.std.proofs.Common.{sym, ◌∙◌, arith}
use Rattle.morph_base.proofs.OpViewLaws.{in_rows, before_is}
use Rattle.morph_base.proofs.plan_ops.PlanOps.places_before.Goals as goal

pub place-requires : goal.place-requires
place-requires c = in_rows c.self.inside c.args.self.now c.self.view_is c.self.invariant c.args.o c.requires

pub returns-clause-count : goal.returns-clause-count
returns-clause-count c =
    c.place.ensures.count ∙ sym (before_is c.self.inside c.args.self.now c.self.view_is c.self.invariant c.args.o (omega (arith, c.requires)))
