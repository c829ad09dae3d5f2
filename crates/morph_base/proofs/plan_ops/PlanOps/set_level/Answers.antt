use Rattle.std.proofs.Common.{◌≡◌, sym, ap, ◌∙◌}
use Rattle.std.specs.Prelude.{slice_index_or}
use Rattle.morph_base.specs.declared.plan_ops.OpMark.{OpMark}
use Rattle.morph_base.specs.Plans.{no_plan_op}
use Rattle.morph_base.specs.OpParts.{no_mark}
use Rattle.morph_base.proofs.OpViewLaws.{inner, event_is, leveled_view, leveled_are}
use Rattle.morph_base.proofs.plan_ops.PlanOps.set_level.Goals as goal

pub get-requires : goal.get-requires
get-requires c = inner c.self.inside c.args.self.now c.self.view_is c.self.invariant c.args.o c.requires

pub set-requires : goal.set-requires
set-requires c = inner c.self.inside c.args.self.now c.self.view_is c.self.invariant c.args.o c.requires

pub returns : goal.returns
returns c =
    let s = c.self.inside in
    let v = c.args.self.now in
    let same : c.get.result.now.event ≡ (slice_index_or v.items c.args.o no_plan_op).event
    = ap (λ (m : OpMark). m.event) (c.get.ensures.at no_mark)
    ∙ sym (event_is s v c.self.view_is c.self.invariant c.args.o c.requires) in
    leveled_view s v c.self.view_is c.self.invariant c.args.o c.requires c.get.result.now.event c.args.level same
    c.set.new.self c.set.ensures.items c.set.ensures.room

pub invariant_of-self : goal.invariant_of-self
invariant_of-self c =
    let s = c.self.inside in
    let v = c.args.self.now in
    let same : c.get.result.now.event ≡ (slice_index_or v.items c.args.o no_plan_op).event
    = ap (λ (m : OpMark). m.event) (c.get.ensures.at no_mark)
    ∙ sym (event_is s v c.self.view_is c.self.invariant c.args.o c.requires) in
    leveled_are s v c.self.view_is c.self.invariant c.args.o c.requires c.get.result.now.event c.args.level same
    c.set.new.self c.set.ensures.items c.set.ensures.room
