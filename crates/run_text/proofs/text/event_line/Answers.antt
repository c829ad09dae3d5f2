use Rattle.std.proofs.Common.{arith, length, ap}
use Rattle.morph_base.specs.declared.plan.PlanEvent.{PlanEvent}
use Rattle.morph_base.specs.Plans.{no_event}
use Rattle.morph_base.proofs.PlanLaws.{end_in_range}
use Rattle.run_text.proofs.text.event_line.Goals as goal

pub slice_bounds-values-end : goal.slice_bounds-values-end
slice_bounds-values-end c =
    let room = end_in_range c.args.plan.now c.requires.plan c.args.i c.requires.event in
    let event = c.get-event.ensures.at no_event in
    let first = ap (λ (e : PlanEvent). e.first) event in
    let count = ap (λ (e : PlanEvent). e.count) event in
    let bytes = ap length c.as_slice.ensures in
    let all = c.requires.settled.values in
    omega (arith, room, first, count, bytes, all)
