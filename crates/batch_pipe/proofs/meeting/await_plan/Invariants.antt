use Rattle.std.proofs.Common.{◌≡◌}
use Rattle.rtrb.specs.Ring.{received, SameConsumer}
use Rattle.batch_pipe.proofs.meeting.await_plan.Given as goal

abbrev pub invariant-loop-look : goal.invariant-loop-look
invariant-loop-look l = record {
  ring : SameConsumer l.fn.ring l.ring;
  received : received l.ring ≡ received l.fn.ring;
}
