use Rattle.std.proofs.Common.{◌+◌}
use Rattle.event_reader.specs.Limits.{greatest_number}
use Rattle.event_reader.proofs.Digits.{all_digits_more, great_more}
use Rattle.event_reader.proofs.number.digits_behind.Goals as goal

pub digits-preserved : goal.digits-preserved
digits-preserved c = record {
  digits = all_digits_more c.args.line.now c.digits.i c.digits-test.true c.if-byte-lt48.false c.if-byte-gt57.false c.digits.invariant.digits;
  great = great_more c.args.line.now c.digits.i (greatest_number + 1) c.digits-test.true c.if-byte-lt48.false c.if-byte-gt57.false c.digits.invariant.great;
}
