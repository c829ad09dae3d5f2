use Rattle.std.proofs.Common.{◌≡◌}
use Rattle.abort_lazy.specs.Finishing.{AreFinishedSoFar}
use Rattle.abort_lazy.proofs.plain_finish.finish_ops.Given as goal

abbrev pub invariant-loop-o : goal.invariant-loop-o
invariant-loop-o l = record {
  finished : AreFinishedSoFar l.plan l.closed l.o l.settled;
  verdicts : l.settled.committed ≡ l.initial.settled.committed;
}
