use Rattle.std.specs.Prelude.{IsTrue}
use Rattle.std.proofs.Common.{◌≡◌, ◌+◌, ◌-◌, ◌*◌, if◌then◌else◌}
use Rattle.event_reader.proofs.LineAnswers.{GoesOn}
use Rattle.event_reader.proofs.LineReads.{AskedSoFar}
use Rattle.event_reader.proofs.lines.Lines.next_line.Given as goal

abbrev pub invariant-reads : goal.invariant-reads
invariant-reads g l = record {
  goes_on : GoesOn l.initial.self (g.S.Source.left l.initial.source) l.self (g.S.Source.left l.source);
  idle : IsTrue l.initial.self.ended → l.source ≡ l.initial.source;
  asks : AskedSoFar g.S.Source.left g.S.Source.reads l.initial.self l.initial.source l.self l.source;
  steady : g.S.Source.faults l.source ≡ g.S.Source.faults l.initial.source;
}

-- each turn takes a byte, or finds the end of the input
abbrev pub decreases-reads : goal.decreases-reads
decreases-reads g l = 2 * (l.self.limit - l.self.taken) + (if l.self.ended then 0 else 1)
