use Rattle.std.proofs.Common.{◌≡◌, ◌∙◌, None, is_some, IsSome, ap, sym, not, subst, arith, inl, inr}
use Rattle.std.proofs.lemmas.Bool.{cases_eq}
use Rattle.morph_base.specs.Clean.{outcome}
use Rattle.morph_base.specs.Plans.{no_event, event_at, final}
use Rattle.morph_base.proofs.KnownLaws.{commits_from, aborts_from}
use Rattle.abort_lazy.specs.Finishing.{HasValues}
use Rattle.abort_lazy.proofs.Numbers.{read_event, reached, reached_end, own}
use Rattle.abort_lazy.proofs.Completing.{none_of}
use Rattle.abort_lazy.proofs.plain_finish.commits.Goals as goal

pub overflow_add-o-end : goal.overflow_add-o-end
overflow_add-o-end c =
    let small = (read_event c.args.plan.now c.args.i c.requires.plan c.requires.event c.get-event.result.now (c.get-event.ensures.at no_event)).2 in
    omega arith

pub loop-o-init : goal.loop-o-init
loop-o-init c t from below =
    let first = (read_event c.args.plan.now c.args.i c.requires.plan c.requires.event c.get-event.result.now (c.get-event.ensures.at no_event)).0 in
    absurd (omega (arith, first))

pub answer-requires : goal.answer-requires
answer-requires c =
    let p = c.args.plan.now in
    let its = reached p c.args.i c.requires.plan c.requires.event c.get-event.result.now c.loop-o.o (c.get-event.ensures.at no_event) c.loop-o.auto.o c.loop-o-test.true in
    record {
      plan = c.requires.plan;
      op = its.2;
      values = subst (λ i. HasValues p (event_at p i).first c.args.values.now.items) (sym its.3) c.requires.values;
    }

pub loop-o-preserved : goal.loop-o-preserved
loop-o-preserved c t from less =
    let p = c.args.plan.now in
    let o = c.loop-o.o in
    let answers : IsSome (outcome p (final p) o) = ap is_some (sym c.answer.ensures) ∙ c.is_none.ensures ∙ ap not c.if-is_none.false in
    elim (cases_eq t o) [
      | inl same ↦ subst (λ k. IsSome (outcome p (final p) k)) (sym same) answers
      | inr apart ↦ c.loop-o.invariant t from (omega arith)
    ]

pub returns-then-is_none : goal.returns-then-is_none
returns-then-is_none c =
    let p = c.args.plan.now in
    let o = c.loop-o.o in
    let its = reached p c.args.i c.requires.plan c.requires.event c.get-event.result.now o (c.get-event.ensures.at no_event) c.loop-o.auto.o c.loop-o-test.true in
    let inside = own p c.args.i c.requires.plan c.requires.event o its.0 its.1 in
    let fails : outcome p (final p) o ≡ None = none_of (outcome p (final p) o) (ap is_some (sym c.answer.ensures) ∙ c.is_none.ensures ∙ ap not c.if-is_none.true) in
    sym (aborts_from p c.requires.plan c.args.i o c.requires.event inside fails)

pub returns : goal.returns
returns c =
    let p = c.args.plan.now in
    let end = reached_end p c.args.i c.requires.plan c.requires.event c.get-event.result.now c.loop-o.o (c.get-event.ensures.at no_event) c.loop-o.auto.o-end c.loop-o-test.false in
    sym (commits_from p c.requires.plan c.args.i c.requires.event (λ t within. c.loop-o.invariant t within.from (let below = within.below in omega (arith, end))))
