use Rattle.std.proofs.Common.{sym, ap, ◌∙◌}
use Rattle.morph_base.specs.declared.plan_ops.OpMark.{OpMark}
use Rattle.morph_base.specs.OpParts.{no_mark}
use Rattle.morph_base.proofs.OpViewLaws.{inner, level_is}
use Rattle.morph_base.proofs.plan_ops.PlanOps.level.Goals as goal

pub get-requires : goal.get-requires
get-requires c = inner c.self.inside c.args.self.now c.self.view_is c.self.invariant c.args.o c.requires

pub returns : goal.returns
returns c =
    ap (λ (m : OpMark). m.level) (c.get.ensures.at no_mark)
    ∙ sym (level_is c.self.inside c.args.self.now c.self.view_is c.self.invariant c.args.o c.requires)
