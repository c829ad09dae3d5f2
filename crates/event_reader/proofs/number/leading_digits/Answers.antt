use Rattle.std.proofs.Common.{arith}
use Rattle.event_reader.proofs.Digits.{all_digits_more, value_more}
use Rattle.event_reader.proofs.number.leading_digits.Goals as goal

pub digits_behind-requires-clause-great : goal.digits_behind-requires-clause-great
digits_behind-requires-clause-great c =
    let more = value_more c.args.line.now c.digits.i c.digits-test.true c.if-byte-lt48.false c.if-byte-gt57.false in
    omega (arith, more, c.from.ensures, c.digits.invariant.value, c.if-value-gt-GREATEST_NUMBER.true)

pub digits-preserved : goal.digits-preserved
digits-preserved c =
    let more = value_more c.args.line.now c.digits.i c.digits-test.true c.if-byte-lt48.false c.if-byte-gt57.false in
    record {
      digits = all_digits_more c.args.line.now c.digits.i c.digits-test.true c.if-byte-lt48.false c.if-byte-gt57.false c.digits.invariant.digits;
      value = omega (arith, more, c.from.ensures, c.digits.invariant.value);
      small = c.if-value-gt-GREATEST_NUMBER.false;
    }
