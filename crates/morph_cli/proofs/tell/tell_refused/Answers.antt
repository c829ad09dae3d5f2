use Rattle.run_text.specs.Text.{refused_text}
use Rattle.morph_cli.specs.Outputs.{closing_note}
use Rattle.morph_cli.proofs.OutputLaws.{tells_behind, tells_cut}
use Rattle.morph_cli.proofs.tell.tell_refused.Goals as goal

pub returns-in_err-write_refused-clause-written : goal.returns-in_err-write_refused-clause-written
returns-in_err-write_refused-clause-written g c =
    tells_cut c.from_residual.result (g.K.Sink.written c.args.sink.now) (g.K.Sink.written c.write_refused.new.sink) (g.N.Sink.written c.args.notes.now)
    (refused_text c.args.refusal.now.line c.args.refusal.now.cause)
    (closing_note c.args.settings.now c.args.tally.now) c.from_residual.ensures.0
    c.in_err-write_refused.ensures.prefix

pub returns-clause-written : goal.returns-clause-written
returns-clause-written g c =
    tells_behind c.note_tally.result (g.K.Sink.written c.args.sink.now) (g.K.Sink.written c.write_refused.new.sink) (g.N.Sink.written c.args.notes.now) (g.N.Sink.written c.note_tally.new.notes)
    (refused_text c.args.refusal.now.line c.args.refusal.now.cause)
    (closing_note c.args.settings.now c.args.tally.now) c.in_ok-write_refused.ensures.written c.note_tally.ensures.written c.note_tally.ensures.prefix
