use Rattle.std.proofs.Common.{arith, sym, subst, refl}
use Rattle.morph_base.specs.Plans.{IsPlan, InEvent}
use Rattle.abort_lazy.proofs.Answering.{answered_none, answered_then, answered_most}
use Rattle.abort_lazy.proofs.Ending.{few_ops, in_range, ready_none, ready_up, ready_stops, ready_end}
use Rattle.abort_lazy.proofs.transaction.prepare.prepare_all.Goals as goal

pub loop-op-init : goal.loop-op-init
loop-op-init c = (c.requires.may.0, ready_none _ _ _ _ _ c.requires.grounds c.requires.may.3 c.requires.may.0.told.agree, answered_none _ _ _ refl refl)

pub prepare-requires-clause-may : goal.prepare-requires-clause-may
prepare-requires-clause-may c =
    let inside : InEvent c.args.plan.now c.args.event c.loop-op.op = record { from = omega (arith, c.first_of-first.ensures, c.loop-op.auto.op); below = omega (arith, c.end_of-end.ensures) } in
    (c.loop-op.invariant.0, c.requires.may.1, in_range _ _ _ (subst IsPlan (sym c.requires.may.1) c.requires.may.0.valid) c.requires.may.2 inside, c.loop-op.invariant.1.goes.free)

pub prepare-requires-clause-inside : goal.prepare-requires-clause-inside
prepare-requires-clause-inside c =
    let inside : InEvent c.args.plan.now c.args.event c.loop-op.op = record { from = omega (arith, c.first_of-first.ensures, c.loop-op.auto.op); below = omega (arith, c.end_of-end.ensures) } in inside

pub returns-in-Some-clause-ready : goal.returns-in-Some-clause-ready
returns-in-Some-clause-ready c =
    let inside : InEvent c.args.plan.now c.args.event c.loop-op.op = record { from = omega (arith, c.first_of-first.ensures, c.loop-op.auto.op); below = omega (arith, c.end_of-end.ensures) } in
    ready_stops _ _ _ _ _ inside c.loop-op.invariant.1 c.in-Some.ensures.ready.ready c.in-Some.ensures.ready.heard

pub returns-in-Some-clause-answered : goal.returns-in-Some-clause-answered
returns-in-Some-clause-answered c =
    answered_most _ _ _ (omega (arith, c.first_of-first.ensures, c.loop-op.auto.op, c.end_of-end.ensures)) (answered_then _ _ _ c.loop-op.invariant.2 c.prepare.ensures.answered)

pub loop-op-preserved : goal.loop-op-preserved
loop-op-preserved c =
    let inside : InEvent c.args.plan.now c.args.event c.loop-op.op = record { from = omega (arith, c.first_of-first.ensures, c.loop-op.auto.op); below = omega (arith, c.end_of-end.ensures) } in (
      c.prepare.ensures.hand,
      ready_up _ _ _ _ c.first_of-first.ensures c.loop-op.auto.op inside c.loop-op.invariant.1 c.in-None.ensures.ready.ready c.in-None.ensures.ready.heard,
      answered_most _ _ _ (omega (arith, c.loop-op.auto.op)) (answered_then _ _ _ c.loop-op.invariant.2 c.prepare.ensures.answered),
    )

pub returns-clause-ready : goal.returns-clause-ready
returns-clause-ready c =
    let high = c.loop-op-test.false in let most = c.loop-op.auto.op-end (omega (arith, c.first_of-first.ensures, c.end_of-end.ensures)) in
    ready_end _ _ _ _ c.first_of-first.ensures (omega (arith, high, most, c.end_of-end.ensures)) c.loop-op.invariant.1

pub returns-clause-answered : goal.returns-clause-answered
returns-clause-answered c =
    let most = c.loop-op.auto.op-end (omega (arith, c.first_of-first.ensures, c.end_of-end.ensures)) in
    answered_most _ _ _ (omega (arith, most, c.first_of-first.ensures, c.end_of-end.ensures)) c.loop-op.invariant.2

pub prepare-requires-clause-number : goal.prepare-requires-clause-number
prepare-requires-clause-number c =
    let few = few_ops c.args.plan.now c.args.event (subst IsPlan (sym c.requires.may.1) c.requires.may.0.valid) c.requires.may.2 in
    omega (arith, few, c.loop-op-test.true, c.loop-op.auto.op, c.first_of-first.ensures, c.end_of-end.ensures)
