use Rattle.rtrb.specs.Ring.{ProducerLooked}
use Rattle.batch_pipe.proofs.meeting.await_place.Given as goal

abbrev pub invariant-loop-look : goal.invariant-loop-look
invariant-loop-look l = ProducerLooked l.fn.ring l.ring
