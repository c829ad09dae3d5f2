use Rattle.run_checker.proofs.Taken.{event_has_line, journal_text}
use Rattle.run_checker.proofs.laws.what_is_taken_has_lines.Goals as goal

pub returns : goal.returns
returns c = record {
  event = λ p cap c e valid small. event_has_line p cap valid small c e;
  journal = λ p cap journal c valid small. journal_text p cap valid small journal c;
}
