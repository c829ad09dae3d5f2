use Rattle.std.proofs.Common.{◌∙◌, ap, rules}
use Rattle.run_text.specs.Calls.{WritesText}
use Rattle.run_text.specs.Notes.{check_note, is_cut}
use Rattle.run_text.proofs.Pieces.{write_as, write_then, write_stop}
use Rattle.run_text.proofs.checks.write_check.Goals as goal

pub returns-in_err-write_steps-clause-text : goal.returns-in_err-write_steps-clause-text
returns-in_err-write_steps-clause-text g c =
    write_stop c.from_residual.result (check_note c.args.number (is_cut c.args.plan.now c.args.journal.now)) c.from_residual.ensures.0 c.in_err-write_steps.ensures.text

pub returns-clause-text : goal.returns-clause-text
returns-clause-text g c =
    let line : WritesText g.N.Sink.written g.N.Sink.faults c.bytes.result.now c.write_all.result c.write_steps.new.notes c.write_all.new.sink = search rules in
    write_then c.in_ok-write_steps.ensures.text (write_as (c.bytes.ensures.bytes ∙ c.check_line-line.ensures ∙ ap (check_note c.args.number) c.is_cut.ensures) line)
