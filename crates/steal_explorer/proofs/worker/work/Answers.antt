use Rattle.std.proofs.Common.{◌+◌, ◌*◌, ◌≤◌, arith}
use Rattle.morph_base.specs.declared.limits.TheConstants.{EVENT_OPS, EVENTS}
use Rattle.morph_base.specs.Plans.{op_count}
use Rattle.morph_base.proofs.NumberLaws.{op_count-small}
use Rattle.steal_explorer.proofs.Lonely.{taking_more, ends_drained, never_spent}
use Rattle.steal_explorer.proofs.Turning.{turned, drained}
use Rattle.steal_explorer.proofs.worker.work.Goals as goal

pub most_turns-turn-end-requires : goal.most_turns-turn-end-requires
most_turns-turn-end-requires g c =
    let small : op_count c.args.ground.now.plan.now ≤ EVENT_OPS * EVENTS = op_count-small c.args.ground.now.plan.now c.requires.ground.valid.plan in
    omega (arith, c.len-ops.ensures)

pub returns-then-row-ge-EMPTY_TURNS-clause-ran : goal.returns-then-row-ge-EMPTY_TURNS-clause-ran
returns-then-row-ge-EMPTY_TURNS-clause-ran g c =
    drained _ _ _ c.loop-turn.turn c.loop-turn.row _ _ c.take_turn-found.result c.loop-turn.invariant.2 c.take_turn-found.ensures.took c.loop-turn.invariant.3 _ c.row_after-row.ensures
    (omega (arith, c.loop-turn-test.true, c.loop-turn.auto.turn-end, c.most_turns-turn-end.ensures, c.len-ops.ensures)) c.if-row-ge-EMPTY_TURNS.true

pub loop-turn-preserved : goal.loop-turn-preserved
loop-turn-preserved g c = (
  c.take_turn-found.ensures.can,
  c.take_turn-found.ensures.tickets,
  turned _ _ _ c.loop-turn.turn c.loop-turn.row _ _ c.take_turn-found.result c.loop-turn.invariant.2 c.take_turn-found.ensures.took c.loop-turn.invariant.3 _ c.row_after-row.ensures,
  omega (arith, c.if-row-ge-EMPTY_TURNS.false),
  λ lazy some single begins.
      let before = c.loop-turn.invariant.4 lazy some single begins in
      taking_more _ _ _ c.loop-turn.turn c.loop-turn.row _ before c.take_turn-found.result (c.take_turn-found.ensures.alone lazy some single before.turning) c.row_after-row.ensures,
)

pub returns-then-row-ge-EMPTY_TURNS-clause-alone : goal.returns-then-row-ge-EMPTY_TURNS-clause-alone
returns-then-row-ge-EMPTY_TURNS-clause-alone g c = λ lazy some single begins.
    let before = c.loop-turn.invariant.4 lazy some single begins in
    ends_drained _ (c.loop-turn.turn + 1) c.row_after-row.result _
    (taking_more _ _ _ c.loop-turn.turn c.loop-turn.row c.row_after-row.result before c.take_turn-found.result (c.take_turn-found.ensures.alone lazy some single before.turning) c.row_after-row.ensures) c.if-row-ge-EMPTY_TURNS.true

pub returns-clause-alone : goal.returns-clause-alone
returns-clause-alone g c = λ lazy some single begins.
    never_spent _ c.loop-turn.turn c.loop-turn.row _ c.loop-turn.invariant.0.1 (c.loop-turn.invariant.4 lazy some single begins) c.loop-turn.invariant.3
    (omega (arith, c.loop-turn-test.false, c.loop-turn.auto.turn-end, c.most_turns-turn-end.ensures, c.len-ops.ensures))
