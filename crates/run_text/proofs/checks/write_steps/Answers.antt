use Rattle.std.proofs.Common.{sym}
use Rattle.run_text.proofs.Journals.{unasked}
use Rattle.run_text.proofs.Pieces.{write_nothing, write_as}
use Rattle.run_text.proofs.checks.write_steps.Goals as goal

pub returns-in-Off : goal.returns-in-Off
returns-in-Off g c = record { text = write_as (sym (unasked c.args.check c.args.journal.now c.in-Off.is)) (write_nothing c.args.notes.now); empty = c.requires.empty }
