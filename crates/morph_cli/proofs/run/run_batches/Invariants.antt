use Rattle.std.proofs.Common.{◌≡◌, ◌+◌, ◌-◌}
use Rattle.event_reader.specs.declared.limits.TheConstants.{INPUT_BYTES}
use Rattle.std.specs.Prelude.{IfSome, IsSome, IsTrue}
use Rattle.event_reader.specs.Versions.{greatest_of}
use Rattle.morph_base.specs.Flat.{contents}
use Rattle.morph_base.specs.States.{IsUpTo}
use Rattle.morph_cli.specs.Batches.{IsShown}
use Rattle.morph_cli.specs.Outputs.{outputs_of}
use Rattle.morph_cli.specs.Streams.{fault_counts}
use Rattle.morph_cli.proofs.RunPoints.{Between, course_of}
use Rattle.morph_cli.proofs.ReaderCalls.{Called}
use Rattle.morph_cli.proofs.run.run_batches.Given as goal

abbrev pub invariant-batches : goal.invariant-batches
invariant-batches g l = record {
  run : Between (course_of g.A.EventApp.event_of (g.A.EventApp.table_count l.job.app) (g.A.EventApp.name_of l.job.app) l.job.app l.job.settings INPUT_BYTES (g.S.Source.left l.initial.source)
      (outputs_of (g.K.Sink.written l.initial.sink) (g.N.Sink.written l.initial.notes)))
      (g.S.Source.left l.source) (outputs_of (g.K.Sink.written l.sink) (g.N.Sink.written l.notes)) l.progress.reader l.progress.engine l.tally l.progress.out l.progress.last;
  small : IsUpTo (greatest_of l.progress.reader.past.version) (contents l.progress.engine);
  shown : IfSome l.progress.watching (IsShown l.progress.engine.layout l.tally.batches (contents l.progress.engine));
  watch : IsSome l.progress.watching → IsTrue l.job.settings.watch;
  called : Called g.S.Source.left g.S.Source.reads g.A.EventApp.event_of l.job.app l.job.settings.size l.initial.source l.progress.reader l.source;
  steady : fault_counts (g.S.Source.faults l.source) (g.K.Sink.faults l.sink) (g.N.Sink.faults l.notes)
      ≡ fault_counts (g.S.Source.faults l.initial.source) (g.K.Sink.faults l.initial.sink) (g.N.Sink.faults l.initial.notes);
}

abbrev pub decreases-batches : goal.decreases-batches
decreases-batches g l = INPUT_BYTES + 1 - l.progress.reader.lines.number
