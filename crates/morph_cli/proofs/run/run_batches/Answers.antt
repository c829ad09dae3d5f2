use Rattle.std.proofs.Common.{inl, inr, refl, ap, sym, ◌∙◌, le_trans, lit≤}
use Rattle.run_text.specs.declared.tally.Tally.{Tally}
use Rattle.morph_cli.proofs.FaultLaws.{counts_still, faults_since, faults_none, faults_reader, faults_batch, faults_write}
use Rattle.morph_cli.proofs.TakenBatches.{few_batches, never_read, between_same, ends_taken, told_taken, between_taken, shown_taken, watch_taken}
use Rattle.morph_cli.proofs.Watches.{if_posted}
use Rattle.event_reader.specs.declared.limits.TheConstants.{INPUT_BYTES}
use Rattle.event_reader.specs.Accepted.{Ended, RefusedAt}
use Rattle.morph_cli.specs.declared.fault.Fault.TheVariants.{Write}
use Rattle.morph_cli.specs.Faults.{fault_of}
use Rattle.morph_cli.specs.Outputs.{closing_note, outputs_of}
use Rattle.morph_cli.specs.Runs.{layout_of}
use Rattle.run_text.specs.Text.{refused_text}
use Rattle.morph_cli.proofs.RunPoints.{closing_of, closing_last, course_of, error_is, between_start, has_room, ends_fault, told_fault}
use Rattle.morph_cli.proofs.RunEnds.{ends_complete, ends_refused, ends_cut, told_at_end, told_cut_at_end}
use Rattle.morph_cli.proofs.NoteLaws.{noted_so}
use Rattle.morph_cli.proofs.OutputLaws.{cut_text}
use Rattle.event_reader.specs.Versions.{greatest_of}
use Rattle.morph_base.specs.Flat.{contents}
use Rattle.morph_base.proofs.BoundLaws.{fold_batch-within}
use Rattle.morph_cli.proofs.Bounds.{opens_small, batch_small}
use Rattle.morph_cli.proofs.ReaderCalls.{called_nothing, called_more, read_by}
use Rattle.morph_cli.proofs.run.run_batches.Goals as goal

-- ---- between two batches

pub batches-init : goal.batches-init
batches-init g c =
    record {
      shown = if_posted c.args.progress.now.watching (λ p shown. record {
        layout_is = shown.layout_is;
        count = shown.count ∙ sym (ap (λ (t : Tally). t.batches) c.requires.tally);
        state = shown.state ∙ sym c.requires.opening;
      }) c.requires.shown;
      watch = c.requires.watch.0;
      small = opens_small (greatest_of c.args.progress.now.reader.past.version) _ c.requires.opening;
      run = between_start (course_of g.A.EventApp.event_of (g.A.EventApp.table_count c.args.job.now.app) (g.A.EventApp.name_of c.args.job.now.app) c.args.job.now.app c.args.job.now.settings INPUT_BYTES (g.S.Source.left c.args.source.now)
          (outputs_of (g.K.Sink.written c.args.sink.now) (g.N.Sink.written c.args.notes.now)))
          c.args.progress.now.reader c.args.progress.now.engine c.args.tally.now c.args.progress.now.out c.args.progress.now.last (layout_of (g.A.EventApp.table_count c.args.job.now.app) c.args.job.now.settings.size) c.requires.reader c.requires.layout
          refl c.requires.opening c.requires.empty c.requires.last c.requires.tally;
      called = called_nothing g.S.Source.left g.S.Source.reads g.A.EventApp.event_of c.args.job.now.app c.args.job.now.settings.size c.args.source.now c.args.progress.now.reader c.requires.reader;
      steady = refl;
    }

pub returns-in_err-batch-clause-run : goal.returns-in_err-batch-clause-run
returns-in_err-batch-clause-run g c =
    record {
      ends = ends_fault (g.S.Source.left c.next_batch.new.source) c.next_batch.new.self c.in_err-batch.field-0.0
          (error_is c.from_residual.result (fault_of c.in_err-batch.field-0.0) c.from_residual.ensures.1)
          c.batches.invariant.run c.in_err-batch.ensures.answer.answers c.in_err-batch.ensures.answer.shows c.in_err-batch.ensures.read.asked;
      told = told_fault c.in_err-batch.field-0.0
          (error_is c.from_residual.result (fault_of c.in_err-batch.field-0.0) c.from_residual.ensures.1) c.batches.invariant.run;
      faults = faults_since c.args.job.now.settings c.batches.invariant.steady (faults_reader c.args.job.now.settings c.in_err-batch.field-0.0 (error_is c.from_residual.result (fault_of c.in_err-batch.field-0.0) c.from_residual.ensures.1)
          c.in_err-batch.ensures.read.never_falls c.in_err-batch.ensures.read.steady c.in_err-batch.ensures.read.cause);
    }

pub take_batch-requires-clause-small : goal.take_batch-requires-clause-small
take_batch-requires-clause-small g c κs outlives =
    let valid = rw c.in-Batch.is at c.in_ok-batch.ensures.batch.valid in
    batch_small (greatest_of c.next_batch.new.self.past.version) c.in-Batch.batch (contents c.batches.progress.engine) valid.0 valid.1 valid.3 (λ key. le_trans (c.batches.invariant.small key) c.in_ok-batch.ensures.same.3.rises)

pub take_batch-requires-clause-room : goal.take_batch-requires-clause-room
take_batch-requires-clause-room g c κs outlives a valid sound = has_room a c.batches.invariant.run (lit≤ tt) valid sound

pub take_batch-requires-clause-few : goal.take_batch-requires-clause-few
take_batch-requires-clause-few g c κs outlives = few_batches c.batches.invariant.run (lit≤ tt)

pub returns-in_err-take_batch-in-Batch-clause-run : goal.returns-in_err-take_batch-in-Batch-clause-run
returns-in_err-take_batch-in-Batch-clause-run g c =
    let valid = rw c.in-Batch.is at c.in_ok-batch.ensures.batch.valid in
    let answers = rw c.in-Batch.is at c.in_ok-batch.ensures.answer.answers in
    record {
      ends = ends_taken (g.S.Source.left c.next_batch.new.source) c.next_batch.new.self _ _ c.batches.invariant.run refl refl c.batches.invariant.shown c.batches.invariant.watch answers valid.0
          _ c.in_err-take_batch-in-Batch.field-0.0 (error_is c.from_residual-in_err-take_batch-in-Batch.result c.in_err-take_batch-in-Batch.field-0.0 c.from_residual-in_err-take_batch-in-Batch.ensures.1)
          c.in_err-take_batch-in-Batch.ensures.takes;
      told = told_taken (g.S.Source.left c.next_batch.new.source) c.next_batch.new.self _ _ c.batches.invariant.run refl refl c.batches.invariant.shown c.batches.invariant.watch answers valid.0
          _ c.in_err-take_batch-in-Batch.field-0.0 (error_is c.from_residual-in_err-take_batch-in-Batch.result c.in_err-take_batch-in-Batch.field-0.0 c.from_residual-in_err-take_batch-in-Batch.ensures.1)
          c.in_err-take_batch-in-Batch.ensures.takes;
      faults = faults_since c.args.job.now.settings (counts_still (c.in_ok-batch.ensures.read.steady (λ is. absurd (cc))) refl refl c.batches.invariant.steady) (faults_batch c.args.job.now.settings c.in_err-take_batch-in-Batch.field-0.0 (error_is c.from_residual-in_err-take_batch-in-Batch.result c.in_err-take_batch-in-Batch.field-0.0 c.from_residual-in_err-take_batch-in-Batch.ensures.1)
          (λ is. never_read _ _ _ _ c.in_err-take_batch-in-Batch.field-0.0 (error_is c.from_residual-in_err-take_batch-in-Batch.result c.in_err-take_batch-in-Batch.field-0.0 c.from_residual-in_err-take_batch-in-Batch.ensures.1) is c.in_err-take_batch-in-Batch.ensures.takes) c.in_err-take_batch-in-Batch.ensures.sink_faults c.in_err-take_batch-in-Batch.ensures.notes_faults c.in_err-take_batch-in-Batch.ensures.steady c.in_err-take_batch-in-Batch.ensures.cause);
    }

pub batches-preserved : goal.batches-preserved
batches-preserved g c =
    let valid = rw c.in-Batch.is at c.in_ok-batch.ensures.batch.valid in
    let answers = rw c.in-Batch.is at c.in_ok-batch.ensures.answer.answers in
    let shows = rw c.in-Batch.is at c.in_ok-batch.ensures.answer.shows in
    let counted = rw c.in-Batch.is at c.in_ok-batch.ensures.batch.counted in
    let live = rw c.in-Batch.is at c.in_ok-batch.ensures.goes_on in
    let asks = rw c.in-Batch.is at c.in_ok-batch.ensures.answer.asks in
    record {
      run = between_same c.in_ok-take_batch-in-Batch.ensures.reader
          (between_taken (g.S.Source.left c.next_batch.new.source) c.next_batch.new.self _ _ c.batches.invariant.run refl refl c.batches.invariant.shown c.batches.invariant.watch answers valid.0 _ _ _ c.in_ok-take_batch-in-Batch.ensures.takes shows counted c.in_ok-batch.ensures.read.bound (c.in_ok-batch.ensures.same.0, c.in_ok-batch.ensures.same.1, c.in_ok-batch.ensures.same.2) c.in_ok-batch.ensures.read.unended live
          c.in_ok-take_batch-in-Batch.ensures.layout c.in_ok-take_batch-in-Batch.ensures.empty);
      shown = shown_taken (g.S.Source.left c.next_batch.new.source) c.next_batch.new.self _ _ c.batches.invariant.run refl refl c.batches.invariant.shown c.batches.invariant.watch answers valid.0 _ _ c.in_ok-take_batch-in-Batch.ensures.takes c.in_ok-take_batch-in-Batch.ensures.layout;
      watch = watch_taken (g.S.Source.left c.next_batch.new.source) c.next_batch.new.self _ _ c.batches.invariant.run refl refl c.batches.invariant.shown c.batches.invariant.watch answers valid.0 _ _ c.in_ok-take_batch-in-Batch.ensures.takes;
      small = rw (c.in_ok-take_batch-in-Batch.ensures.takes.0.state, c.in_ok-take_batch-in-Batch.ensures.reader)
          (fold_batch-within (greatest_of c.next_batch.new.self.past.version) c.in-Batch.batch (contents c.batches.progress.engine) valid.1 valid.3
          (λ key. le_trans (c.batches.invariant.small key) c.in_ok-batch.ensures.same.3.rises));
      called = called_more g.S.Source.left g.S.Source.reads g.A.EventApp.event_of c.args.job.now.app c.args.job.now.settings.size c.args.source.now c.batches.progress.reader c.next_batch.new.self _ c.batches.source c.next_batch.new.source _ refl c.in_ok-take_batch-in-Batch.ensures.reader c.in_ok-batch.ensures.same.0 c.in_ok-batch.ensures.same.1
          c.batches.invariant.called asks shows;
      steady = counts_still (c.in_ok-batch.ensures.read.steady (λ is. absurd (cc))) (c.in_ok-take_batch-in-Batch.ensures.steady (λ is. absurd (cc))).0 (c.in_ok-take_batch-in-Batch.ensures.steady (λ is. absurd (cc))).1 c.batches.invariant.steady;
    }

-- ---- the end

pub tell_closing-requires-clause-all : goal.tell_closing-requires-clause-all
tell_closing-requires-clause-all g c = c.batches.invariant.run.goes.tallied.counts.workers

pub tell_refused-requires-clause-all : goal.tell_refused-requires-clause-all
tell_refused-requires-clause-all g c = c.batches.invariant.run.goes.tallied.counts.workers

pub returns-in-End-clause-run : goal.returns-in-End-clause-run
returns-in-End-clause-run g c =
    let answers = rw c.in-End.is at c.in_ok-batch.ensures.answer.answers in
    record {
      ends = ends_complete (g.S.Source.left c.next_batch.new.source) (outputs_of (g.K.Sink.written c.tell_closing.new.sink) (g.N.Sink.written c.tell_closing.new.notes))
          (closing_of c.args.job.now.settings (g.A.EventApp.name_of c.args.job.now.app) c.state-values.result.now c.batches.tally)
          (closing_note c.args.job.now.settings c.batches.tally) c.batches.invariant.run.goes answers
          (closing_last c.args.job.now.settings (g.A.EventApp.name_of c.args.job.now.app) c.state-values.result.now c.batches.progress.engine c.batches.tally _ c.state-values.ensures c.batches.invariant.run.layout) c.in_ok-tell_closing-in-End.ensures.written;
      told = told_at_end (outputs_of (g.K.Sink.written c.tell_closing.new.sink) (g.N.Sink.written c.tell_closing.new.notes)) 0 Ended
          (closing_of c.args.job.now.settings (g.A.EventApp.name_of c.args.job.now.app) c.state-values.result.now c.batches.tally)
          (inl refl) (λ is. absurd (cc)) c.batches.invariant.run.goes answers
          (closing_last c.args.job.now.settings (g.A.EventApp.name_of c.args.job.now.app) c.state-values.result.now c.batches.progress.engine c.batches.tally _ c.state-values.ensures c.batches.invariant.run.layout) c.in_ok-tell_closing-in-End.ensures.written;
      faults = faults_none c.args.job.now.settings (counts_still (c.in_ok-batch.ensures.read.steady (λ is. absurd (cc))) c.in_ok-tell_closing-in-End.ensures.steady.0 c.in_ok-tell_closing-in-End.ensures.steady.1 c.batches.invariant.steady) (λ is. absurd (cc)) (λ is. absurd (cc));
    }

pub returns-in_err-tell_closing-in-End-clause-run : goal.returns-in_err-tell_closing-in-End-clause-run
returns-in_err-tell_closing-in-End-clause-run g c =
    let answers = rw c.in-End.is at c.in_ok-batch.ensures.answer.answers in
    record {
      ends = ends_cut (g.S.Source.left c.next_batch.new.source) (outputs_of (g.K.Sink.written c.tell_closing.new.sink) (g.N.Sink.written c.tell_closing.new.notes)) Ended
          (closing_of c.args.job.now.settings (g.A.EventApp.name_of c.args.job.now.app) c.state-values.result.now c.batches.tally)
          (error_is c.from_residual-in_err-tell_closing-in-End.result Write c.from_residual-in_err-tell_closing-in-End.ensures.1) c.batches.invariant.run.goes answers
          (closing_last c.args.job.now.settings (g.A.EventApp.name_of c.args.job.now.app) c.state-values.result.now c.batches.progress.engine c.batches.tally _ c.state-values.ensures c.batches.invariant.run.layout)
          (cut_text (outputs_of (g.K.Sink.written c.batches.sink) (g.N.Sink.written c.batches.notes))
          (closing_of c.args.job.now.settings (g.A.EventApp.name_of c.args.job.now.app) c.state-values.result.now c.batches.tally)
          (closing_note c.args.job.now.settings c.batches.tally) (outputs_of (g.K.Sink.written c.tell_closing.new.sink) (g.N.Sink.written c.tell_closing.new.notes)) c.in_err-tell_closing-in-End.ensures.written);
      told = told_cut_at_end (outputs_of (g.K.Sink.written c.tell_closing.new.sink) (g.N.Sink.written c.tell_closing.new.notes)) Ended
          (closing_of c.args.job.now.settings (g.A.EventApp.name_of c.args.job.now.app) c.state-values.result.now c.batches.tally)
          (error_is c.from_residual-in_err-tell_closing-in-End.result Write c.from_residual-in_err-tell_closing-in-End.ensures.1) (λ is. absurd (cc)) c.batches.invariant.run.goes answers
          (closing_last c.args.job.now.settings (g.A.EventApp.name_of c.args.job.now.app) c.state-values.result.now c.batches.progress.engine c.batches.tally _ c.state-values.ensures c.batches.invariant.run.layout) c.in_err-tell_closing-in-End.ensures.written;
      faults = faults_since c.args.job.now.settings (counts_still (c.in_ok-batch.ensures.read.steady (λ is. absurd (cc))) refl refl c.batches.invariant.steady) (faults_write c.args.job.now.settings (noted_so c.args.job.now.settings) (error_is c.from_residual-in_err-tell_closing-in-End.result Write c.from_residual-in_err-tell_closing-in-End.ensures.1)
          c.in_err-tell_closing-in-End.ensures.sink_faults c.in_err-tell_closing-in-End.ensures.notes_faults c.in_err-tell_closing-in-End.ensures.cause);
    }

pub returns-in-Refused-clause-run : goal.returns-in-Refused-clause-run
returns-in-Refused-clause-run g c =
    let answers = rw c.in-Refused.is at c.in_ok-batch.ensures.answer.answers in
    record {
      ends = ends_refused (g.S.Source.left c.next_batch.new.source) (outputs_of (g.K.Sink.written c.tell_refused.new.sink) (g.N.Sink.written c.tell_refused.new.notes)) c.in-Refused.line c.in-Refused.cause
          (refused_text c.in-Refused.line c.in-Refused.cause)
          (closing_note c.args.job.now.settings c.batches.tally) c.batches.invariant.run.goes answers
          refl c.in_ok-tell_refused-in-Refused.ensures.written;
      told = told_at_end (outputs_of (g.K.Sink.written c.tell_refused.new.sink) (g.N.Sink.written c.tell_refused.new.notes)) 3 (RefusedAt c.in-Refused.line c.in-Refused.cause)
          (refused_text c.in-Refused.line c.in-Refused.cause)
          (inr refl) (λ is. absurd (cc)) c.batches.invariant.run.goes answers
          refl c.in_ok-tell_refused-in-Refused.ensures.written;
      faults = faults_none c.args.job.now.settings (counts_still (c.in_ok-batch.ensures.read.steady (λ is. absurd (cc))) c.in_ok-tell_refused-in-Refused.ensures.steady.0 c.in_ok-tell_refused-in-Refused.ensures.steady.1 c.batches.invariant.steady) (λ is. absurd (cc)) (λ is. absurd (cc));
    }

pub returns-in_err-tell_refused-in-Refused-clause-run : goal.returns-in_err-tell_refused-in-Refused-clause-run
returns-in_err-tell_refused-in-Refused-clause-run g c =
    let answers = rw c.in-Refused.is at c.in_ok-batch.ensures.answer.answers in
    record {
      ends = ends_cut (g.S.Source.left c.next_batch.new.source) (outputs_of (g.K.Sink.written c.tell_refused.new.sink) (g.N.Sink.written c.tell_refused.new.notes)) (RefusedAt c.in-Refused.line c.in-Refused.cause)
          (refused_text c.in-Refused.line c.in-Refused.cause)
          (error_is c.from_residual-in_err-tell_refused-in-Refused.result Write c.from_residual-in_err-tell_refused-in-Refused.ensures.1) c.batches.invariant.run.goes answers
          refl
          (cut_text (outputs_of (g.K.Sink.written c.batches.sink) (g.N.Sink.written c.batches.notes))
          (refused_text c.in-Refused.line c.in-Refused.cause)
          (closing_note c.args.job.now.settings c.batches.tally) (outputs_of (g.K.Sink.written c.tell_refused.new.sink) (g.N.Sink.written c.tell_refused.new.notes)) c.in_err-tell_refused-in-Refused.ensures.written);
      told = told_cut_at_end (outputs_of (g.K.Sink.written c.tell_refused.new.sink) (g.N.Sink.written c.tell_refused.new.notes)) (RefusedAt c.in-Refused.line c.in-Refused.cause)
          (refused_text c.in-Refused.line c.in-Refused.cause)
          (error_is c.from_residual-in_err-tell_refused-in-Refused.result Write c.from_residual-in_err-tell_refused-in-Refused.ensures.1) (λ is. absurd (cc)) c.batches.invariant.run.goes answers
          refl c.in_err-tell_refused-in-Refused.ensures.written;
      faults = faults_since c.args.job.now.settings (counts_still (c.in_ok-batch.ensures.read.steady (λ is. absurd (cc))) refl refl c.batches.invariant.steady) (faults_write c.args.job.now.settings (noted_so c.args.job.now.settings) (error_is c.from_residual-in_err-tell_refused-in-Refused.result Write c.from_residual-in_err-tell_refused-in-Refused.ensures.1)
          c.in_err-tell_refused-in-Refused.ensures.sink_faults c.in_err-tell_refused-in-Refused.ensures.notes_faults c.in_err-tell_refused-in-Refused.ensures.cause);
    }

pub returns-in_err-take_batch-in-Batch-clause-asks : goal.returns-in_err-take_batch-in-Batch-clause-asks
returns-in_err-take_batch-in-Batch-clause-asks g c =
    read_by g.S.Source.left g.S.Source.reads g.A.EventApp.event_of c.args.job.now.app c.args.job.now.settings.size c.args.source.now c.batches.progress.reader c.next_batch.new.self c.batches.source c.next_batch.new.source _
    c.batches.invariant.called c.in_ok-batch.ensures.answer.asks c.in_ok-batch.ensures.answer.shows

pub returns-in-End-clause-asks : goal.returns-in-End-clause-asks
returns-in-End-clause-asks g c =
    read_by g.S.Source.left g.S.Source.reads g.A.EventApp.event_of c.args.job.now.app c.args.job.now.settings.size c.args.source.now c.batches.progress.reader c.next_batch.new.self c.batches.source c.next_batch.new.source _
    c.batches.invariant.called c.in_ok-batch.ensures.answer.asks c.in_ok-batch.ensures.answer.shows

pub returns-in_err-tell_closing-in-End-clause-asks : goal.returns-in_err-tell_closing-in-End-clause-asks
returns-in_err-tell_closing-in-End-clause-asks g c =
    read_by g.S.Source.left g.S.Source.reads g.A.EventApp.event_of c.args.job.now.app c.args.job.now.settings.size c.args.source.now c.batches.progress.reader c.next_batch.new.self c.batches.source c.next_batch.new.source _
    c.batches.invariant.called c.in_ok-batch.ensures.answer.asks c.in_ok-batch.ensures.answer.shows

pub returns-in-Refused-clause-asks : goal.returns-in-Refused-clause-asks
returns-in-Refused-clause-asks g c =
    read_by g.S.Source.left g.S.Source.reads g.A.EventApp.event_of c.args.job.now.app c.args.job.now.settings.size c.args.source.now c.batches.progress.reader c.next_batch.new.self c.batches.source c.next_batch.new.source _
    c.batches.invariant.called c.in_ok-batch.ensures.answer.asks c.in_ok-batch.ensures.answer.shows

pub returns-in_err-tell_refused-in-Refused-clause-asks : goal.returns-in_err-tell_refused-in-Refused-clause-asks
returns-in_err-tell_refused-in-Refused-clause-asks g c =
    read_by g.S.Source.left g.S.Source.reads g.A.EventApp.event_of c.args.job.now.app c.args.job.now.settings.size c.args.source.now c.batches.progress.reader c.next_batch.new.self c.batches.source c.next_batch.new.source _
    c.batches.invariant.called c.in_ok-batch.ensures.answer.asks c.in_ok-batch.ensures.answer.shows

pub returns-in_err-batch-clause-asks : goal.returns-in_err-batch-clause-asks
returns-in_err-batch-clause-asks g c =
    read_by g.S.Source.left g.S.Source.reads g.A.EventApp.event_of c.args.job.now.app c.args.job.now.settings.size c.args.source.now c.batches.progress.reader c.next_batch.new.self c.batches.source c.next_batch.new.source _
    c.batches.invariant.called c.in_err-batch.ensures.answer.asks c.in_err-batch.ensures.answer.shows
