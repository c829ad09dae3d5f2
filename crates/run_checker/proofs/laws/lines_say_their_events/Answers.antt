use Rattle.run_checker.proofs.LineLaws.{read_written, written_read}
use Rattle.run_checker.proofs.laws.lines_say_their_events.Goals as goal

pub returns : goal.returns
returns c = record {
  written = read_written;
  read = written_read;
}
