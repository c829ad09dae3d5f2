use Rattle.run_checker.proofs.TextLaws.{text_read, text_written}
use Rattle.run_checker.proofs.laws.texts_say_their_journals.Goals as goal

pub returns : goal.returns
returns c = record {
  written = text_read;
  read = text_written;
}
