use Rattle.std.proofs.Common.{sym, subst}
use Rattle.std.specs.Prelude.{Bool}
use Rattle.morph_base.specs.Plans.{IsPlan}
use Rattle.op_words.specs.Hands.{view_of}
use Rattle.op_words.specs.Views.{IsDecisionSeen}
use Rattle.abort_lazy.proofs.Ending.{one_done, one_source, one_own, in_range, of_event}
use Rattle.abort_lazy.proofs.transaction.settle.settle_one.Goals as goal

pub settle-requires-clause-may : goal.settle-requires-clause-may
settle-requires-clause-may c =
    (c.requires.may.0, c.requires.may.1, in_range _ _ _ (subst IsPlan (sym c.requires.may.1) c.requires.may.0.valid) c.requires.may.2 c.requires.inside, c.requires.may.3)

pub settle-requires-clause-decided : goal.settle-requires-clause-decided
settle-requires-clause-decided c =
    subst (λ i. (b : Bool) × IsDecisionSeen (view_of c.args.hand.now) i b) (sym (of_event _ _ _ (subst IsPlan (sym c.requires.may.1) c.requires.may.0.valid) c.requires.may.2 c.requires.inside)) c.requires.decided

pub returns-in-Done-clause-settled : goal.returns-in-Done-clause-settled
returns-in-Done-clause-settled c =
    let valid = (subst IsPlan (sym c.requires.may.1) c.requires.may.0.valid) in λ g by_board. one_done _ _ _ _ valid (in_range _ _ _ valid c.requires.may.2 c.requires.inside) c.requires.inside g by_board c.in-Done.ensures.answer

pub returns-then-at-op-clause-settled : goal.returns-then-at-op-clause-settled
returns-then-at-op-clause-settled c =
    let valid = (subst IsPlan (sym c.requires.may.1) c.requires.may.0.valid) in
    λ g by_board. one_own _ _ _ _ valid (in_range _ _ _ valid c.requires.may.2 c.requires.inside) c.requires.inside g by_board c.if-at-op.true c.in-Not.ensures.answer c.stop.ensures

pub returns-else-at-op-clause-settled : goal.returns-else-at-op-clause-settled
returns-else-at-op-clause-settled c =
    let valid = (subst IsPlan (sym c.requires.may.1) c.requires.may.0.valid) in
    λ g by_board. one_source _ _ _ _ valid (in_range _ _ _ valid c.requires.may.2 c.requires.inside) c.requires.inside g by_board c.if-at-op.false c.in-Not.ensures.answer
