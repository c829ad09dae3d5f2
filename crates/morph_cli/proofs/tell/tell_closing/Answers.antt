use Rattle.std.proofs.Common.{◌++◌, ap, subst, ◌∙◌}
use Rattle.morph_io.specs.Told.{behind}
use Rattle.morph_io.specs.SinkWrites.{AppendsPart}
use Rattle.morph_base.specs.Flat.{contents}
use Rattle.run_text.specs.Reports.{report_of}
use Rattle.run_text.specs.Text.{told_values, counts_line}
use Rattle.morph_cli.specs.Outputs.{closing_note}
use Rattle.morph_cli.proofs.OutputLaws.{tells_behind, tells_cut}
use Rattle.morph_cli.proofs.tell.tell_closing.Goals as goal

pub returns-in_err-write_closing-clause-written : goal.returns-in_err-write_closing-clause-written
returns-in_err-write_closing-clause-written g c =
    tells_cut c.from_residual.result (g.K.Sink.written c.args.sink.now) (g.K.Sink.written c.write_closing.new.sink) (g.N.Sink.written c.args.notes.now)
    (told_values (report_of c.args.job.now.settings) c.args.values.now.layout (g.A.EventApp.name_of c.args.job.now.app) (contents c.args.values.now) ++ counts_line c.args.tally.now.committed c.args.tally.now.aborted)
    (closing_note c.args.job.now.settings c.args.tally.now) c.from_residual.ensures.0
    (subst (λ r. AppendsPart (g.K.Sink.written c.args.sink.now) (told_values r c.args.values.now.layout (g.A.EventApp.name_of c.args.job.now.app) (contents c.args.values.now) ++ counts_line c.args.tally.now.committed c.args.tally.now.aborted) (g.K.Sink.written c.write_closing.new.sink)) c.report.ensures c.in_err-write_closing.ensures.prefix)

pub returns-clause-written : goal.returns-clause-written
returns-clause-written g c =
    tells_behind c.note_tally.result (g.K.Sink.written c.args.sink.now) (g.K.Sink.written c.write_closing.new.sink) (g.N.Sink.written c.args.notes.now) (g.N.Sink.written c.note_tally.new.notes)
    (told_values (report_of c.args.job.now.settings) c.args.values.now.layout (g.A.EventApp.name_of c.args.job.now.app) (contents c.args.values.now) ++ counts_line c.args.tally.now.committed c.args.tally.now.aborted)
    (closing_note c.args.job.now.settings c.args.tally.now) (c.in_ok-write_closing.ensures.written ∙ ap (λ r. behind (g.K.Sink.written c.args.sink.now) (told_values r c.args.values.now.layout (g.A.EventApp.name_of c.args.job.now.app) (contents c.args.values.now) ++ counts_line c.args.tally.now.committed c.args.tally.now.aborted)) c.report.ensures) c.note_tally.ensures.written c.note_tally.ensures.prefix
