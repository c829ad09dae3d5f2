use Rattle.std.proofs.Common.{◌∙◌, ◌-◌, arith, ap, sym, subst, Bool}
use Rattle.std.specs.Prelude.{slice_index_or}
use Rattle.morph_base.specs.Plans.{IsPlan}
use Rattle.op_words.specs.Hands.{view_of}
use Rattle.op_words.specs.Judging.{IsGoodAt}
use Rattle.op_words.specs.Views.{IsDecisionSeen}
use Rattle.abort_lazy.specs.Progress.{no_word}
use Rattle.abort_lazy.proofs.Ending.{few_ops}
use Rattle.abort_lazy.proofs.transaction.settle.settle_by.Goals as goal

pub overflow_sub-number : goal.overflow_sub-number
overflow_sub-number c = let from = c.requires.inside.from in omega (arith, from, c.first_of.ensures)

pub word-requires : goal.word-requires
word-requires c =
    let below = c.requires.inside.below in let few = few_ops c.args.plan.now c.args.event (subst IsPlan (sym c.requires.may.1) c.requires.may.0.valid) c.requires.may.2 in
    omega (arith, below, few, c.first_of.ensures)

pub settle_good-requires-clause-good : goal.settle_good-requires-clause-good
settle_good-requires-clause-good c =
    let good = c.in-Some.ensures.good in
    subst (IsGoodAt c.args.plan.now (view_of c.args.hand.now) c.args.op) (sym (good.1 ∙ ap (λ n. slice_index_or c.args.grounds.now.words (c.args.op - n) no_word) c.first_of.ensures))
    (c.requires.decided.good good.0 c.args.op c.requires.inside)

pub settle_good-requires-clause-decided : goal.settle_good-requires-clause-decided
settle_good-requires-clause-decided c =
    subst (λ (b : Bool). IsDecisionSeen (view_of c.args.hand.now) c.args.event b) (c.requires.decided.commits c.in-Some.ensures.good.0) c.requires.decided.known

pub returns-in-Some-clause-settled : goal.returns-in-Some-clause-settled
returns-in-Some-clause-settled c =
    let good = c.in-Some.ensures.good in
    c.settle_good.ensures.settled c.args.grounds.now good.0 (good.1 ∙ ap (λ n. slice_index_or c.args.grounds.now.words (c.args.op - n) no_word) c.first_of.ensures)

pub settle_one-requires-clause-decided : goal.settle_one-requires-clause-decided
settle_one-requires-clause-decided c = (c.requires.decided.committed, c.requires.decided.known)

pub returns-in-None-clause-settled : goal.returns-in-None-clause-settled
returns-in-None-clause-settled c = c.settle_one.ensures.settled c.args.grounds.now (c.word.ensures.none c.in-None.is)
