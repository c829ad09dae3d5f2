use Rattle.std.proofs.Common.{arith}
use Rattle.morph_cli.specs.declared.fault.Fault.TheVariants.{OutOfMemory}
use Rattle.morph_cli.specs.Streams.{fault_counts, streams_of}
use Rattle.morph_cli.proofs.RunPoints.{error_is}
use Rattle.morph_cli.proofs.ReaderCalls.{unread_by}
use Rattle.morph_cli.proofs.FaultLaws.{does_at_once}
use Rattle.morph_cli.proofs.run.run.Goals as goal

-- memory is refused before the first batch, for the run or for its pipe

pub returns-in_err-ahead-clause-run : goal.returns-in_err-ahead-clause-run
returns-in_err-ahead-clause-run g c =
    does_at_once g.A.EventApp.event_of (g.A.EventApp.table_count c.args.job.now.app) (g.A.EventApp.name_of c.args.job.now.app) c.args.job.now.app c.args.job.now.settings c.args.tally.now
    (streams_of (g.S.Source.left c.args.source.now) (g.K.Sink.written c.args.sink.now) (g.N.Sink.written c.args.notes.now)
    (fault_counts (g.S.Source.faults c.args.source.now) (g.K.Sink.faults c.args.sink.now) (g.N.Sink.faults c.args.notes.now)))
    (error_is c.from_residual.result OutOfMemory c.from_residual.ensures.1) c.requires.tally

pub returns-in_err-progress-clause-run : goal.returns-in_err-progress-clause-run
returns-in_err-progress-clause-run g c =
    does_at_once g.A.EventApp.event_of (g.A.EventApp.table_count c.args.job.now.app) (g.A.EventApp.name_of c.args.job.now.app) c.args.job.now.app c.args.job.now.settings c.args.tally.now
    (streams_of (g.S.Source.left c.args.source.now) (g.K.Sink.written c.args.sink.now) (g.N.Sink.written c.args.notes.now)
    (fault_counts (g.S.Source.faults c.args.source.now) (g.K.Sink.faults c.args.sink.now) (g.N.Sink.faults c.args.notes.now)))
    (error_is c.from_residual-in_err-progress.result OutOfMemory c.from_residual-in_err-progress.ensures.1) c.requires.tally

-- ---- the reads

pub returns-in_err-ahead-clause-asks : goal.returns-in_err-ahead-clause-asks
returns-in_err-ahead-clause-asks g c none = unread_by g.S.Source.left g.S.Source.reads (g.A.EventApp.event_of c.args.job.now.app c.args.job.now.settings.size) c.args.source.now

pub returns-in_err-progress-clause-asks : goal.returns-in_err-progress-clause-asks
returns-in_err-progress-clause-asks g c none = unread_by g.S.Source.left g.S.Source.reads (g.A.EventApp.event_of c.args.job.now.app c.args.job.now.settings.size) c.args.source.now

pub returns-then-job-gt0-clause-asks : goal.returns-then-job-gt0-clause-asks
returns-then-job-gt0-clause-asks g c none = absurd (let more = c.if-job-gt0.true in omega (arith, none, more))

pub returns-clause-asks : goal.returns-clause-asks
returns-clause-asks g c none = c.run_batches-end.ensures.asks
