use Rattle.std.proofs.Common.{◌≡◌, ◌+◌, ◌≤◌, [], Some}
use Rattle.std.specs.Prelude.{◌≢◌}
use Rattle.event_reader.specs.declared.limits.TheConstants.{INPUT_BYTES}
use Rattle.event_reader.specs.declared.fault.ReaderFault.TheVariants.{ReadFault}
use Rattle.morph_io.specs.Told.{HasRisen}
use Rattle.batch_pipe.specs.declared.tail.Tail.TheVariants.{Fault, Untold}
use Rattle.batch_pipe.specs.Courses.{steps_left}
use Rattle.batch_pipe.specs.PlanRuns.{manner}
use Rattle.batch_pipe.specs.PipeRounds.{IsUncut, number_before}
use Rattle.morph_cli.specs.Outputs.{outputs_of}
use Rattle.morph_cli.specs.Tellers.{teller_view, CanTell}
use Rattle.morph_cli.proofs.RunPoints.{course_of}
use Rattle.morph_cli.proofs.PipedRuns.{Piped}
use Rattle.morph_cli.proofs.ahead.run_ahead.Given as goal

abbrev pub invariant-rounds : goal.invariant-rounds
invariant-rounds g l = record {
  run : Piped (course_of g.A.EventApp.event_of (g.A.EventApp.table_count l.job.app) (g.A.EventApp.name_of l.job.app) l.job.app l.job.settings INPUT_BYTES (g.S.Source.left l.initial.source)
      (outputs_of (g.K.Sink.written l.initial.sink) (g.N.Sink.written l.initial.notes)))
      (manner l.pick l.job.settings.workers) l.ahead.pipe [] (g.S.Source.left l.source) (outputs_of (g.K.Sink.written l.sink) (g.N.Sink.written l.notes)) l.tally l.ahead.out;
  next : IsUncut l.ahead.pipe.tail → CanTell (number_before l.ahead.pipe + 1)
      (teller_view l.job.settings l.ahead.out l.tally (outputs_of (g.K.Sink.written l.sink) (g.N.Sink.written l.notes)) (g.K.Sink.faults l.sink) (g.N.Sink.faults l.notes));
  told : l.ahead.pipe.tail ≢ Some Untold;
  read : l.ahead.pipe.tail ≡ Some (Fault ReadFault) → HasRisen (g.S.Source.faults l.initial.source) (g.S.Source.faults l.source);
  source_faults : g.S.Source.faults l.initial.source ≤ g.S.Source.faults l.source;
  sink_steady : g.K.Sink.faults l.sink ≡ g.K.Sink.faults l.initial.sink;
  notes_steady : g.N.Sink.faults l.notes ≡ g.N.Sink.faults l.initial.notes;
}

abbrev pub decreases-rounds : goal.decreases-rounds
decreases-rounds g l = steps_left l.ahead.pipe
