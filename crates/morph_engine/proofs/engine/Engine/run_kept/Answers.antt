use Rattle.std.proofs.Common.{◌≡◌, ◌≤◌, ◌+◌, ◌*◌, ℕ, ap, arith, subst, ◌∙◌}
use Rattle.morph_base.specs.declared.limits.TheConstants.{EVENT_OPS, EVENTS}
use Rattle.morph_base.specs.Plans.{op_count}
use Rattle.morph_base.proofs.NumberLaws.{op_count-small}
use Rattle.morph_engine.specs.Runs.{IsJournalledRun, journal_room}
use Rattle.morph_engine.proofs.Ended.{end_by}
use Rattle.morph_engine.proofs.engine.Engine.run_kept.Goals as goal

pub returns-clause-ended : goal.returns-clause-ended
returns-clause-ended g c = end_by c.in_ok-prepared.ensures.workers c.run_prepared.ensures.ran

pub room_for-room-requires : goal.room_for-room-requires
room_for-room-requires g c =
    let few : op_count c.args.plan ≤ EVENT_OPS * EVENTS = op_count-small c.args.plan c.requires.plan.plan in
    omega (arith, few, c.len.ensures)

pub returns-clause-kept : goal.returns-clause-kept
returns-clause-kept g c =
    let room : c.room_for-room.result ≡ journal_room c.args.plan = c.room_for-room.ensures ∙ ap (λ (n : ℕ). 32 * n + 64) c.len.ensures in
    subst (λ (n : ℕ). IsJournalledRun c.args.plan c.args.strategy.now.abort n c.run_prepared.result.closed) room
    (c.run_prepared.ensures.kept c.room_for-room.result c.in_ok-prepared.ensures.journal c.in_ok-prepared.ensures.workers)
