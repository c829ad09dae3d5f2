use Rattle.std.proofs.Common.{◌≡◌, ◌∙◌, ap, arith, drop}
use Rattle.event_reader.specs.LineParts.{parts_after}
use Rattle.event_reader.proofs.numbers.read_numbers.Goals as goal

pub returns : goal.returns
returns c =
    let all : c.numbers.i ≡ 18 = omega (arith, c.numbers-test.false, c.numbers.auto.i-end) in
    record {
      numbers_are = rw all at c.numbers.invariant.known;
      few = omega arith;
      others_are = c.numbers.invariant.rest ∙ ap (λ n. drop n (parts_after c.args.parts)) all;
      stops = λ more. absurd (omega (arith, more));
    }
