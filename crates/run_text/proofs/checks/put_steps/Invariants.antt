use Rattle.std.proofs.Common.{drop}
use Rattle.std.specs.List.{flat_map}
use Rattle.run_checker.specs.Lines.{text_of}
use Rattle.run_text.proofs.Journals.{ended_line}
use Rattle.run_text.proofs.Pieces.{Completes}
use Rattle.run_text.proofs.checks.put_steps.Given as goal

abbrev pub invariant-loop-i : goal.invariant-loop-i
invariant-loop-i g l = Completes g.N.Sink.written g.N.Sink.faults (flat_map ended_line (drop l.i l.journal)) (text_of l.journal) l.initial.notes l.initial.out l.notes l.out
