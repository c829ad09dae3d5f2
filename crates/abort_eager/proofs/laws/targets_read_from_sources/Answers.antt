use Rattle.abort_eager.proofs.Knowing.{is_sibling, is_reading, sibling_listed, reading_listed}
use Rattle.abort_eager.proofs.laws.targets_read_from_sources.Goals as goal

pub returns : goal.returns
returns c = record {
  siblings = λ p o failed valid lt s. (is_sibling p o valid lt failed s, sibling_listed p o valid lt failed s);
  readers = λ p o failed valid lt q j. (is_reading p o valid lt failed q j, reading_listed p o valid lt failed q j);
}
