use Rattle.std.proofs.Common.{sym, ◌∙◌}
use Rattle.morph_base.proofs.OpViewLaws.{in_rows, kept_is}
use Rattle.morph_base.proofs.plan_ops.PlanOps.places.Goals as goal

pub width-requires : goal.width-requires
width-requires c = in_rows c.self.inside c.args.self.now c.self.view_is c.self.invariant c.args.o c.requires

pub returns-clause-count : goal.returns-clause-count
returns-clause-count c =
    c.width.ensures.count ∙ sym (kept_is c.self.inside c.args.self.now c.self.view_is c.self.invariant c.args.o c.requires)
