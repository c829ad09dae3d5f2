use Rattle.std.proofs.Common.{sym, ap, ◌∙◌}
use Rattle.std.specs.Prelude.{slice_index_or}
use Rattle.morph_base.specs.declared.plan_ops.OpMark.{OpMark}
use Rattle.morph_base.specs.Plans.{no_plan_op}
use Rattle.morph_base.specs.OpParts.{no_mark}
use Rattle.morph_base.proofs.OpViewLaws.{inner, in_rows, row_is, event_is, level_is, put_together}
use Rattle.morph_base.proofs.plan_ops.PlanOps.get.Goals as goal

pub get-mark-requires : goal.get-mark-requires
get-mark-requires c = inner c.self.inside c.args.self.now c.self.view_is c.self.invariant c.args.o c.requires

pub get-requires : goal.get-requires
get-requires c = in_rows c.self.inside c.args.self.now c.self.view_is c.self.invariant c.args.o c.requires

pub returns : goal.returns
returns c =
    let s = c.self.inside in
    let v = c.args.self.now in
    put_together (slice_index_or v.items c.args.o no_plan_op)
    (c.get.ensures ∙ sym (row_is s v c.self.view_is c.self.invariant c.args.o c.requires))
    (ap (λ (m : OpMark). m.event) (c.get-mark.ensures.at no_mark) ∙ sym (event_is s v c.self.view_is c.self.invariant c.args.o c.requires))
    c.origins.ensures
    (ap (λ (m : OpMark). m.level) (c.get-mark.ensures.at no_mark) ∙ sym (level_is s v c.self.view_is c.self.invariant c.args.o c.requires))
