use Rattle.std.proofs.Common.{◌≤◌}
use Rattle.stream_tests.proofs.Moved.{HasCopied}
use Rattle.stream_tests.proofs.copies.copy.Given as goal

abbrev pub invariant-reads : goal.invariant-reads
invariant-reads g l = record {
  copied : HasCopied (g.S.Source.left l.initial.source) (g.S.Source.left l.source) (g.K.Sink.written l.initial.sink) (g.K.Sink.written l.sink);
  source_faults : g.S.Source.faults l.initial.source ≤ g.S.Source.faults l.source;
  sink_faults : g.K.Sink.faults l.initial.sink ≤ g.K.Sink.faults l.sink;
}
