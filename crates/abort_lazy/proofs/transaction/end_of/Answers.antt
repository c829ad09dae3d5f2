use Rattle.std.proofs.Common.{arith, ap}
use Rattle.morph_base.specs.Plans.{no_event}
use Rattle.morph_base.proofs.PlanLaws.{end_in_range}
use Rattle.morph_base.proofs.NumberLaws.{op_count-small}
use Rattle.abort_lazy.proofs.transaction.end_of.Goals as goal

pub overflow_add-result : goal.overflow_add-result
overflow_add-result c =
    let p = c.args.plan.now in
    let last = end_in_range p c.requires.valid c.args.event c.requires.in_range in
    let few = op_count-small p c.requires.valid in
    let count = ap (λ e. e.count) (c.get.ensures.at no_event) in
    omega (arith, last, few, count, c.first_of.ensures)
