use Rattle.std.proofs.Common.{◌≡◌, ◌∙◌, ap, sym, false, true, arith}
use Rattle.std.proofs.lemmas.Bool.Decides.{nat_tests}
use Rattle.event_reader.specs.LineParts.{parts_after}
use Rattle.event_reader.specs.Words.{is_word}
use Rattle.event_reader.proofs.Parts.{counted_all, words_more, no_word, part_at}
use Rattle.event_reader.proofs.words.count_words.Goals as goal

pub returns-in_default : goal.returns-in_default
returns-in_default c =
    sym
    (counted_all (parts_after c.args.parts) c.parts.i c.args.most c.parts.invariant.inside (sym (ap parts_after c.in_default.is) ∙ c.parts.invariant.rest)
    c.parts.invariant.words (omega (arith, c.parts-test.true)))

pub returns-then-is_empty : goal.returns-then-is_empty
returns-then-is_empty c =
    let none : is_word c.first_part.result.0.now ≡ false = grind (arith, nat_tests, c.if-is_empty.ensures) in
    let here = sym c.parts.invariant.rest ∙ ap parts_after c.in-Some.is ∙ c.first_part.ensures in
    sym (no_word (parts_after c.args.parts) (parts_after c.first_part.result.1) c.parts.i c.args.most c.first_part.result.0.now here none)

pub parts-preserved : goal.parts-preserved
parts-preserved c =
    let one : is_word c.first_part.result.0.now ≡ true = grind (arith, nat_tests, c.if-is_empty.ensures) in
    let here = sym c.parts.invariant.rest ∙ ap parts_after c.in-Some.is ∙ c.first_part.ensures in
    let at = part_at (parts_after c.args.parts) (parts_after c.first_part.result.1) c.parts.i c.first_part.result.0.now here in
    record {
      inside = omega (arith, at.0);
      words = words_more (parts_after c.args.parts) (parts_after c.first_part.result.1) c.parts.i c.first_part.result.0.now here c.parts.invariant.words one;
      rest = sym at.2;
    }
