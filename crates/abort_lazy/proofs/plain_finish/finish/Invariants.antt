use Rattle.abort_lazy.specs.Finishing.{AreFinishedSoFar}
use Rattle.abort_lazy.specs.Rooms.{AreDecidedSoFar}
use Rattle.abort_lazy.proofs.Numbers.{ops_before}
use Rattle.abort_lazy.proofs.plain_finish.finish.Given as goal

abbrev pub invariant-loop-i : goal.invariant-loop-i
invariant-loop-i l = record {
  finished : AreFinishedSoFar l.plan l.closed (ops_before l.plan l.i) l.settled;
  decided : AreDecidedSoFar l.plan l.i l.settled;
}
