use Rattle.std.proofs.Common.{◌≡◌, ◌++◌}
use Rattle.run_text.specs.Text.{lines_between}
use Rattle.run_text.proofs.lines.lines_in_memory.Given as goal

abbrev pub invariant-loop-i : goal.invariant-loop-i
invariant-loop-i l = l.text.items ++ lines_between l.plan l.settled l.i l.end ≡ lines_between l.plan l.settled l.first l.end
