use Rattle.run_text.specs.Text.{lines_between}
use Rattle.run_text.proofs.EventLines.{line_at}
use Rattle.run_text.proofs.Pieces.{Completes, from_number}
use Rattle.run_text.proofs.lines.put_events.Given as goal

abbrev pub invariant-loop-i : goal.invariant-loop-i
invariant-loop-i g l =
    Completes g.K.Sink.written g.K.Sink.faults (from_number (line_at l.plan l.settled) l.end l.i)
    (lines_between l.plan l.settled l.first l.end) l.initial.sink l.initial.out l.sink l.out
