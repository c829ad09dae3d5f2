use Rattle.morph_engine.specs.Accounts.{account_of}
use Rattle.run_text.proofs.Pieces.{write_stop, write_then}
use Rattle.morph_cli.specs.Outputs.{own_note}
use Rattle.morph_cli.proofs.tell.note_ran.Goals as goal

pub returns-in_err-note_seen-clause-text : goal.returns-in_err-note_seen-clause-text
returns-in_err-note_seen-clause-text g c =
    write_stop c.from_residual.result (own_note c.args.settings.now c.args.number (account_of c.args.ran.now.end)) c.from_residual.ensures.0 c.in_err-note_seen.ensures.text

pub returns-clause-text : goal.returns-clause-text
returns-clause-text g c = write_then c.in_ok-note_seen.ensures.text c.note_own.ensures.text
