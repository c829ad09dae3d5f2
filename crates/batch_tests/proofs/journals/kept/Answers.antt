use Rattle.std.proofs.Common.{ap, sym, subst, ◌∙◌}
use Rattle.morph_base.specs.Plans.{IsPlan, op_count}
use Rattle.batch_tests.proofs.journals.kept.Goals as goal

pub check-requires-clause-plan : goal.check-requires-clause-plan
check-requires-clause-plan g c = subst IsPlan (sym c.in_ok-end.ensures.ended.plan) c.in_ok-plan.ensures.valid.plan

pub check-requires-clause-values : goal.check-requires-clause-values
check-requires-clause-values g c = c.in_ok-end.ensures.ended.settled.values ∙ ap op_count (sym c.in_ok-end.ensures.ended.plan)
