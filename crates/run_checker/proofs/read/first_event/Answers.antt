use Rattle.std.proofs.Common.{sym, ◌∙◌, subst}
use Rattle.std.specs.Prelude.{IfNone}
use Rattle.event_reader.specs.Lines.{is_line_feed}
use Rattle.event_reader.proofs.Pieces.{none_pass}
use Rattle.run_checker.specs.LineEvents.{BeginsWithNone}
use Rattle.run_checker.proofs.TextLaws.{none_begins_at, unended_begins}
use Rattle.run_checker.proofs.read.first_event.Goals as goal

pub returns-in_err-end-clause-none : goal.returns-in_err-end-clause-none
returns-in_err-end-clause-none c =
    subst (λ answer. IfNone answer (BeginsWithNone c.args.bytes.now)) (sym c.from_residual.ensures)
    (unended_begins c.args.bytes.now (none_pass is_line_feed c.args.bytes.now c.in_err-end.ensures))

pub returns-in_err-event-clause-none : goal.returns-in_err-event-clause-none
returns-in_err-event-clause-none c =
    subst (λ answer. IfNone answer (BeginsWithNone c.args.bytes.now)) (sym c.from_residual-in_err-event.ensures)
    (none_begins_at c.args.bytes.now c.in_ok-end.end c.in_ok-end.ensures.0 c.in_ok-end.ensures.1 (sym c.read_event.ensures ∙ c.in_err-event.was))
