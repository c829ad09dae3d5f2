use Rattle.event_reader.specs.GeneratedText.{generated_text}
use Rattle.morph_cli.specs.Streams.{fault_counts, streams_of}
use Rattle.morph_cli.proofs.ReaderCalls.{unread_by}
use Rattle.morph_cli.proofs.Inputs.{does_source, does_made}
use Rattle.morph_cli.proofs.top_call.run_over.Goals as goal

pub returns-in-None-clause-run : goal.returns-in-None-clause-run
returns-in-None-clause-run g c =
    does_source (g.A.EventApp.event_of c.args.job.now.app) (g.A.EventApp.table_count c.args.job.now.app) (g.A.EventApp.name_of c.args.job.now.app) c.args.job.now.settings
    (generated_text (g.A.MakesInput.generated c.args.job.now.app c.args.job.now.settings.size))
    (streams_of (g.S.Source.left c.args.source.now) (g.K.Sink.written c.args.sink.now) (g.N.Sink.written c.args.notes.now)
    (fault_counts (g.S.Source.faults c.args.source.now) (g.K.Sink.faults c.args.sink.now) (g.N.Sink.faults c.args.notes.now)))
    (g.S.Source.left c.run.new.source) (g.K.Sink.written c.run.new.sink) (g.N.Sink.written c.run.new.notes)
    (fault_counts (g.S.Source.faults c.run.new.source) (g.K.Sink.faults c.run.new.sink) (g.N.Sink.faults c.run.new.notes)) c.in-None.is c.run.ensures.run

pub returns-in-Some-clause-run : goal.returns-in-Some-clause-run
returns-in-Some-clause-run g c =
    does_made (g.A.EventApp.event_of c.args.job.now.app) (g.A.EventApp.table_count c.args.job.now.app) (g.A.EventApp.name_of c.args.job.now.app) c.args.job.now.settings
    (generated_text (g.A.MakesInput.generated c.args.job.now.app c.args.job.now.settings.size)) c.in-Some.generated
    (g.S.Source.left c.args.source.now) (g.K.Sink.written c.args.sink.now) (g.K.Sink.written c.run_made.new.sink) (g.N.Sink.written c.args.notes.now) (g.N.Sink.written c.run_made.new.notes)
    (g.S.Source.faults c.args.source.now) (g.K.Sink.faults c.args.sink.now) (g.K.Sink.faults c.run_made.new.sink) (g.N.Sink.faults c.args.notes.now) (g.N.Sink.faults c.run_made.new.notes)
    c.in-Some.is c.run_made.ensures.run

pub returns-in-Some-clause-asks : goal.returns-in-Some-clause-asks
returns-in-Some-clause-asks g c none = unread_by g.S.Source.left g.S.Source.reads (g.A.EventApp.event_of c.args.job.now.app c.args.job.now.settings.size) c.args.source.now
