use Rattle.std.proofs.Common.{ap}
use Rattle.std.proofs.lemmas.Result.{on_err_weaker}
use Rattle.op_words.specs.Closing.{journal_of}
use Rattle.run_text.specs.Notes.{check_notes}
use Rattle.run_text.proofs.Pieces.{write_as, write_stop, write_then}
use Rattle.morph_cli.proofs.tell.note_own.Goals as goal

pub returns-in_err-note_batch-clause-text : goal.returns-in_err-note_batch-clause-text
returns-in_err-note_batch-clause-text g c =
    let end = c.args.end.now in let first = c.in_err-note_batch.ensures in
    write_stop c.from_residual.result (check_notes c.args.settings.now.check c.args.number end.plan (journal_of end.closed)) c.from_residual.ensures.0
    (record { all = tt; prefix = first.prefix; never_falls = first.never_falls; steady = tt; cause = first.cause.1 })

pub returns-clause-text : goal.returns-clause-text
returns-clause-text g c =
    let first = c.in_ok-note_batch.ensures in let then = c.note_check.ensures in
    write_then (record { all = first.written; prefix = tt; never_falls = first.never_falls; steady = first.steady; cause = tt })
    (write_as (ap (check_notes c.args.settings.now.check c.args.number c.args.end.now.plan) c.journal-journal.ensures.steps)
    (record { all = then.written; prefix = then.prefix; never_falls = then.never_falls; steady = then.steady; cause = on_err_weaker c.note_check.result (λ both. both.1) then.cause }))
