use Rattle.std.proofs.Common.{sym, arith}
use Rattle.itoa.proofs.Decimal.{length_one}
use Rattle.morph_io.proofs.DigitLemmas.{digits_at}
use Rattle.morph_io.proofs.line_buf.digit_count.Goals as goal

pub returns-in-None-clause-count : goal.returns-in-None-clause-count
returns-in-None-clause-count c = sym (length_one c.args.n (omega (arith, c.in-None.ensures.none)))

pub returns-in-Some-clause-count : goal.returns-in-Some-clause-count
returns-in-Some-clause-count c =
    sym (digits_at c.in-Some.power c.args.n c.in-Some.ensures.power_le c.in-Some.ensures.next_power_gt c.ranges.n.fits)
