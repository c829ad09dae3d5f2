use Rattle.run_checker.proofs.TextLaws.{says_once, says_apart, wrong_once}
use Rattle.run_checker.proofs.laws.one_reading_is_right.Goals as goal

pub returns : goal.returns
returns c = record {
  journal = says_once;
  apart = says_apart;
  line = wrong_once;
}
