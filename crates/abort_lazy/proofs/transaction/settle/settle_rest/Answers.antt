use Rattle.std.proofs.Common.{arith}
use Rattle.morph_base.specs.Plans.{InEvent}
use Rattle.abort_lazy.proofs.Ending.{settled_none, settled_up, settled_stops, settled_end, decided_more}
use Rattle.abort_lazy.proofs.transaction.settle.settle_rest.Goals as goal

pub loop-op-init : goal.loop-op-init
loop-op-init c = (c.requires.may.0, settled_none _ _ _ _ _ c.requires.may.3 c.requires.may.0.told.agree)

pub settle_by-requires-clause-may : goal.settle_by-requires-clause-may
settle_by-requires-clause-may c = (c.loop-op.invariant.0, c.requires.may.1, c.requires.may.2, c.loop-op.invariant.1.goes.free)

pub settle_by-requires-clause-inside : goal.settle_by-requires-clause-inside
settle_by-requires-clause-inside c =
    let inside : InEvent c.args.plan.now c.args.event c.loop-op.op = record { from = omega (arith, c.first_of-first.ensures, c.loop-op.auto.op); below = omega (arith, c.end_of-end.ensures) } in inside

pub settle_by-requires-clause-decided : goal.settle_by-requires-clause-decided
settle_by-requires-clause-decided c = decided_more _ _ _ c.loop-op.invariant.1.goes c.requires.decided

pub returns-in-Some-clause-settled : goal.returns-in-Some-clause-settled
returns-in-Some-clause-settled c =
    let inside : InEvent c.args.plan.now c.args.event c.loop-op.op = record { from = omega (arith, c.first_of-first.ensures, c.loop-op.auto.op); below = omega (arith, c.end_of-end.ensures) } in
    settled_stops _ _ _ _ _ inside c.loop-op.invariant.1 c.in-Some.ensures.settled

pub loop-op-preserved : goal.loop-op-preserved
loop-op-preserved c =
    let inside : InEvent c.args.plan.now c.args.event c.loop-op.op = record { from = omega (arith, c.first_of-first.ensures, c.loop-op.auto.op); below = omega (arith, c.end_of-end.ensures) } in
    (c.in-None.ensures.hand, settled_up _ _ _ _ _ inside c.loop-op.invariant.1 c.in-None.ensures.settled)

pub returns-clause-settled : goal.returns-clause-settled
returns-clause-settled c =
    let high = c.loop-op-test.false in let most = c.loop-op.auto.op-end (omega (arith, c.first_of-first.ensures, c.end_of-end.ensures)) in
    settled_end _ _ _ _ _ c.first_of-first.ensures (omega (arith, high, most, c.end_of-end.ensures)) c.loop-op.invariant.1
