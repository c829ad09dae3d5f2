use Rattle.run_text.specs.Notes.{closing_notes}
use Rattle.run_text.proofs.Writes.{unwritten}
use Rattle.run_text.proofs.notes.note_tally.Goals as goal

pub returns-then-not-on-clause-written : goal.returns-then-not-on-clause-written
returns-then-not-on-clause-written g c = unwritten c.args.on (g.N.Sink.written c.args.notes.now) (closing_notes c.args.workers c.args.tally.now) c.if-not-on.true
