use Rattle.run_text.specs.Notes.{batch_note}
use Rattle.run_text.proofs.Writes.{unwritten}
use Rattle.run_text.proofs.notes.note_batch.Goals as goal

pub returns-then-not-on-clause-written : goal.returns-then-not-on-clause-written
returns-then-not-on-clause-written g c = unwritten c.args.on (g.N.Sink.written c.args.notes.now) (batch_note c.args.number c.args.plan.now c.args.strategy) c.if-not-on.true
