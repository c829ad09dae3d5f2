use Rattle.std.proofs.Common.{sym, ◌∙◌}
use Rattle.run_text.proofs.Journals.{unchecked}
use Rattle.run_text.proofs.checks.note_check.Goals as goal

pub returns-then-not-is_on-clause-written : goal.returns-then-not-is_on-clause-written
returns-then-not-is_on-clause-written g c = unchecked c.args.check c.args.number c.args.plan.now c.args.journal.now (g.N.Sink.written c.args.notes.now) (sym c.is_on.ensures ∙ c.if-not-is_on.true)
