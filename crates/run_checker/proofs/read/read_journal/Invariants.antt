use Rattle.std.proofs.Common.{length}
use Rattle.run_checker.proofs.TextLaws.{IsReadTo}
use Rattle.run_checker.proofs.read.read_journal.Given as goal

-- the lines so far are read
abbrev pub invariant-lines : goal.invariant-lines
invariant-lines l = IsReadTo l.bytes l.rest l.events.items l.line

abbrev pub decreases-lines : goal.decreases-lines
decreases-lines l = length l.rest
