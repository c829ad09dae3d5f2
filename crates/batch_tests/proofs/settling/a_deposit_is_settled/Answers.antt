use Rattle.std.proofs.Common.{◌≡◌, ◌<◌, ap, arith, rules}
use Rattle.morph_base.specs.Plans.{event_count}
use Rattle.op_words.specs.Hands.{plan_of}
use Rattle.batch_tests.proofs.settling.a_deposit_is_settled.Goals as goal

pub decision-requires : goal.decision-requires
decision-requires g c =
    let same = ap event_count c.in_ok-board.ensures.plan in
    let some : 0 < event_count (plan_of c.in_ok-board.board) = search rules in
    record { event = (_, _, _, _, c.close-closed.ensures, some) }
