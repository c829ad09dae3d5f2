use Rattle.std.proofs.Common.{◌≡◌, ◌+◌, ℕ, arith, ap, sym, ◌∙◌, subst}
use Rattle.morph_base.specs.declared.plan.PlanEvent.{PlanEvent}
use Rattle.morph_base.specs.Plans.{IsPlan, event_at, no_event}
use Rattle.morph_base.proofs.NumberLaws.{op_count-small}
use Rattle.morph_base.proofs.PlanLaws.{end_in_range}
use Rattle.op_words.specs.declared.answers.Decided.TheVariants.{Committed, Aborted}
use Rattle.op_words.specs.Hands.{call_on}
use Rattle.op_words.specs.Comparing.{HasFoundGrounds}
use Rattle.op_words.proofs.Weighing.{grounds_none, grounds_more, grounds_bad, and_fine, within_event}
use Rattle.op_words.proofs.board.Board.grounds.Goals as goal

pub overflow_add-end : goal.overflow_add-end
overflow_add-end c =
    let valid = subst IsPlan (sym c.requires.plan) c.requires.hand.valid in
    let entry : c.get-entry.result.now ≡ event_at c.args.plan.now c.args.event = c.get-entry.ensures.at no_event in
    let room = end_in_range c.args.plan.now valid c.args.event c.requires.in_range in
    let few = op_count-small c.args.plan.now valid in
    let same = ap (λ (e : PlanEvent). e.first + e.count) entry in
    omega (arith, room, few, same)

pub loop-op-init : goal.loop-op-init
loop-op-init c =
    let entry : c.get-entry.result.now ≡ event_at c.args.plan.now c.args.event = c.get-entry.ensures.at no_event in
    (grounds_none c.args.self.now c.args.plan.now c.args.event (subst IsPlan (sym c.requires.plan) c.requires.hand.valid) c.requires.in_range _ (ap (λ (e : PlanEvent). e.first) entry) c.args.hand.now c.requires.hand c.requires.free, λ same. apart same)
  where
    apart : Committed ≡ Aborted → ⊥
    apart same = cc

pub weigh-next-requires : goal.weigh-next-requires
weigh-next-requires c =
    let valid = subst IsPlan (sym c.requires.plan) c.requires.hand.valid in
    let entry : c.get-entry.result.now ≡ event_at c.args.plan.now c.args.event = c.get-entry.ensures.at no_event in
    let room = end_in_range c.args.plan.now valid c.args.event c.requires.in_range in
    let same = ap (λ (e : PlanEvent). e.first + e.count) entry in
    let lt = c.loop-op-test.true in
    record { may = (c.loop-op.invariant.0.hand, c.requires.plan, omega (arith, room, same, lt), c.loop-op.invariant.0.goes.free) }

pub returns-in-Aborted : goal.returns-in-Aborted
returns-in-Aborted c =
    let b = c.args.self.now in let p = c.args.plan.now in
    let valid = subst IsPlan (sym c.requires.plan) c.requires.hand.valid in
    let entry : c.get-entry.result.now ≡ event_at p c.args.event = c.get-entry.ensures.at no_event in
    grounds_bad b p c.args.event valid c.requires.in_range c.loop-op.op (within_event p c.args.event _ c.loop-op.op entry c.loop-op.auto.op c.loop-op-test.true) c.loop-op.grounds c.weigh-next.result c.loop-op.invariant.0 c.weigh-next.ensures c.in-Aborted.is _

pub loop-op-preserved : goal.loop-op-preserved
loop-op-preserved c =
    let b = c.args.self.now in let p = c.args.plan.now in
    let valid = subst IsPlan (sym c.requires.plan) c.requires.hand.valid in
    let entry : c.get-entry.result.now ≡ event_at p c.args.event = c.get-entry.ensures.at no_event in
    let good : c.weigh-next.result ≡ Aborted → ⊥ = (λ same. c.in_default.not-Aborted same) in (
      grounds_more b p c.args.event valid c.requires.in_range c.loop-op.op (within_event p c.args.event _ c.loop-op.op entry c.loop-op.auto.op c.loop-op-test.true) c.loop-op.grounds c.weigh-next.result c.loop-op.invariant.0 c.weigh-next.ensures
          c.loop-op.invariant.1 good c.and-grounds.result c.and-grounds.ensures.first c.and-grounds.ensures.doubt,
      and_fine c.loop-op.grounds c.weigh-next.result c.and-grounds.result c.loop-op.invariant.1 good c.and-grounds.ensures.first c.and-grounds.ensures.doubt,
    )

pub returns : goal.returns
returns c =
    let b = c.args.self.now in let p = c.args.plan.now in
    let entry : c.get-entry.result.now ≡ event_at p c.args.event = c.get-entry.ensures.at no_event in
    let low = c.loop-op.auto.op-end in let high = c.loop-op-test.false in let below = c.loop-op.auto in
    let end : c.loop-op.op ≡ c.get-entry.result.now.first + c.get-entry.result.now.count = omega (arith, low, high, below) in
    subst (λ (n : ℕ). HasFoundGrounds (call_on b c.args.hand.now c.loop-op.hand) p c.args.event n c.loop-op.grounds) (end ∙ ap (λ (e : PlanEvent). e.first + e.count) entry) c.loop-op.invariant.0
