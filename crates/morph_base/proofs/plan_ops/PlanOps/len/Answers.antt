use Rattle.std.proofs.Common.{sym, ◌∙◌}
use Rattle.morph_base.proofs.OpViewLaws.{count_is}
use Rattle.morph_base.proofs.plan_ops.PlanOps.len.Goals as goal

pub returns : goal.returns
returns c = c.len.ensures ∙ sym (count_is c.self.inside c.args.self.now c.self.view_is c.self.invariant)
