use Rattle.std.proofs.Common.{true, sym, subst}
use Rattle.morph_base.specs.Plans.{IsPlan}
use Rattle.op_words.specs.Hands.{view_of}
use Rattle.op_words.specs.Views.{IsDecisionSeen}
use Rattle.abort_lazy.proofs.Ending.{one_good_done, one_good_other, in_range, of_event}
use Rattle.abort_lazy.proofs.transaction.settle.settle_good.Goals as goal

pub settle_good-requires-clause-may : goal.settle_good-requires-clause-may
settle_good-requires-clause-may c =
    (c.requires.may.0, c.requires.may.1, in_range _ _ _ (subst IsPlan (sym c.requires.may.1) c.requires.may.0.valid) c.requires.may.2 c.requires.inside, c.requires.may.3)

pub settle_good-requires-clause-decided : goal.settle_good-requires-clause-decided
settle_good-requires-clause-decided c =
    subst (λ i. IsDecisionSeen (view_of c.args.hand.now) i true) (sym (of_event _ _ _ (subst IsPlan (sym c.requires.may.1) c.requires.may.0.valid) c.requires.may.2 c.requires.inside)) c.requires.decided

pub returns-in-Done-clause-settled : goal.returns-in-Done-clause-settled
returns-in-Done-clause-settled c = λ g commits judged_at. one_good_done _ _ _ c.requires.inside g commits _ judged_at c.in-Done.ensures.answer

pub returns-in-Not-clause-settled : goal.returns-in-Not-clause-settled
returns-in-Not-clause-settled c = λ g commits judged_at. one_good_other _ _ _ c.requires.inside g commits _ judged_at c.in-Not.ensures.answer c.stop.ensures
