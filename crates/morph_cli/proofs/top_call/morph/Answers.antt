-- The answers of `morph`.
use Rattle.std.proofs.Common.{sym}
use Rattle.morph_cli.proofs.CallClauses.{asked_so, headline_so, completes_so, made_so, told_so, write_so, steady_so, unread_so, balanced_so}
use Rattle.morph_cli.proofs.top_call.morph.Goals as goal

pub returns-clause-headline : goal.returns-clause-headline
returns-clause-headline g c = asked_so _ (sym c.in-Some.ensures.asked) (headline_so c.end_run.result.status c.end_run.ensures.status c.run_app-end.ensures.run)

pub returns-clause-completes : goal.returns-clause-completes
returns-clause-completes g c no_read no_write = asked_so _ (sym c.in-Some.ensures.asked) (completes_so c.end_run.result.status c.end_run.ensures.status c.run_app-end.ensures.run no_read no_write)

pub returns-clause-made : goal.returns-clause-made
returns-clause-made g c = asked_so _ (sym c.in-Some.ensures.asked) (made_so c.run_app-end.result c.end_run.result.status c.end_run.ensures.status c.run_app-end.ensures.made)

pub returns-clause-run : goal.returns-clause-run
returns-clause-run g c =
    asked_so _ (sym c.in-Some.ensures.asked) (told_so c.end_run.result.status c.end_run.ensures.status c.run_app-end.ensures.run (g.S.Source.left c.run_app-end.new.source) (g.N.Sink.written c.end_run.new.notes) (g.N.Sink.faults c.end_run.new.notes) c.end_run.ensures.tally c.end_run.ensures.last)

pub returns-clause-balanced : goal.returns-clause-balanced
returns-clause-balanced g c = asked_so _ (sym c.in-Some.ensures.asked) (balanced_so c.end_run.result.status c.end_run.ensures.status c.run_app-end.ensures.run c.end_run.ensures.tally)

pub returns-clause-write : goal.returns-clause-write
returns-clause-write g c = asked_so _ (sym c.in-Some.ensures.asked) (write_so c.end_run.result.status c.end_run.ensures.status c.run_app-end.ensures.run (g.N.Sink.faults c.end_run.new.notes) c.end_run.ensures.never_falls)

pub returns-clause-steady : goal.returns-clause-steady
returns-clause-steady g c = steady_so c.end_run.result.status c.end_run.ensures.status c.run_app-end.ensures.run

pub returns-clause-unread : goal.returns-clause-unread
returns-clause-unread g c = asked_so _ (sym c.in-Some.ensures.asked) (unread_so c.end_run.result.status c.end_run.ensures.status c.run_app-end.ensures.run)

pub returns-clause-asks : goal.returns-clause-asks
returns-clause-asks g c = asked_so _ (sym c.in-Some.ensures.asked) c.run_app-end.ensures.asks

pub returns-in_default-clause-note : goal.returns-in_default-clause-note
returns-in_default-clause-note g c two = rw c.end_unasked.ensures.status c.end_unasked.ensures.last
