use Rattle.std.proofs.Common.{ℕ, ap, ◌∙◌, get_or}
use Rattle.morph_base.specs.Plans.{no_event}
use Rattle.abort_eager.proofs.Starting.{op_small, end_small}
use Rattle.abort_eager.proofs.cascade.sources.Goals as goal

pub overflow_add-result : goal.overflow_add-result
overflow_add-result c = record { fits = op_small _ _ c.requires.plan c.requires.in_range }

pub overflow_add-result-2 : goal.overflow_add-result-2
overflow_add-result-2 c =
    let same = c.get-event.ensures.at no_event ∙ ap (λ (i : ℕ). get_or c.args.plan.now.events.items i no_event) c.event.ensures in
    record { fits = end_small _ c.args.op _ c.requires.plan c.requires.in_range same }
