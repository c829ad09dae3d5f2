use Rattle.std.proofs.Common.{ap, subst, ◌∙◌}
use Rattle.morph_io.specs.Told.{behind}
use Rattle.morph_io.specs.SinkWrites.{AppendsPart}
use Rattle.morph_engine.specs.Fates.{settled_fates}
use Rattle.run_text.specs.Text.{told_lines}
use Rattle.morph_cli.specs.Batches.{lines_of_batch, note_of_batch}
use Rattle.morph_cli.proofs.OutputLaws.{tells_behind, tells_cut}
use Rattle.morph_cli.proofs.tell.tell_batch.Goals as goal

pub returns-in_err-write_events-clause-written : goal.returns-in_err-write_events-clause-written
returns-in_err-write_events-clause-written g c =
    let end = c.args.ran.now.end in
    tells_cut c.from_residual.result (g.K.Sink.written c.args.sink.now) (g.K.Sink.written c.write_events.new.sink) (g.N.Sink.written c.args.notes.now)
    (lines_of_batch c.args.settings.now end) (note_of_batch c.args.settings.now c.args.number c.args.ran.now.audit end) c.from_residual.ensures.0
    (subst (λ r. AppendsPart (g.K.Sink.written c.args.sink.now) (told_lines r (settled_fates end.plan end.settled)) (g.K.Sink.written c.write_events.new.sink)) c.report.ensures c.in_err-write_events.ensures.prefix)

pub returns-clause-written : goal.returns-clause-written
returns-clause-written g c =
    let end = c.args.ran.now.end in
    tells_behind c.note_ran.result (g.K.Sink.written c.args.sink.now) (g.K.Sink.written c.write_events.new.sink) (g.N.Sink.written c.args.notes.now) (g.N.Sink.written c.note_ran.new.notes)
    (lines_of_batch c.args.settings.now end) (note_of_batch c.args.settings.now c.args.number c.args.ran.now.audit end)
    (c.in_ok-write_events.ensures.written ∙ ap (λ r. behind (g.K.Sink.written c.args.sink.now) (told_lines r (settled_fates end.plan end.settled))) c.report.ensures) c.note_ran.ensures.text.all c.note_ran.ensures.text.prefix
