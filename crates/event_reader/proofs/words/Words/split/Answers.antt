use Rattle.std.proofs.Common.{◌≡◌, ◌-◌, ◌+◌, true, [], get_or, sym, ◌∙◌, ap, arith, length}
use Rattle.std.proofs.lemmas.Bool.Decides.{nat_tests}
use Rattle.event_reader.specs.Limits.{line_words}
use Rattle.event_reader.specs.LineParts.{parts_after, counted}
use Rattle.event_reader.specs.Words.{is_word, parts_of}
use Rattle.event_reader.specs.Numbers.{is_number}
use Rattle.event_reader.proofs.NumberLists.{known_part}
use Rattle.event_reader.proofs.Parts.{many, some_counted, none_counted, next_part}
use Rattle.event_reader.proofs.words.Words.split.Goals as goal

pub returns-in_err-others : goal.returns-in_err-others
returns-in_err-others c =
    let word : is_word c.first_part.result.0.now ≡ true = grind (arith, nat_tests, c.if-is_empty.ensures) in
    let cut = c.read_numbers-known.ensures in
    c.from_residual.ensures
    ∙ sym
    (none_counted c.args.line.now c.first_part.result.0.now (parts_after c.first_part.result.1) c.read_numbers-known.result.0 c.read_numbers-known.new.numbers
    c.first_part.ensures word cut.numbers_are cut.few
    (sym (c.in_err-others.was) ∙ c.count_words.ensures ∙ ap (counted (line_words - 1 - c.read_numbers-known.result.0)) cut.others_are))

pub invariant_of-result : goal.invariant_of-result
invariant_of-result c =
    let word : is_word c.first_part.result.0.now ≡ true = grind (arith, nat_tests, c.if-is_empty.ensures) in
    let cut = c.read_numbers-known.ensures in
    let told = some_counted c.args.line.now c.first_part.result.0.now (parts_after c.first_part.result.1) c.read_numbers-known.result.0 c.read_numbers-known.new.numbers
    c.first_part.ensures word cut.numbers_are cut.few c.in_ok-others.others
    (sym (c.in_ok-others.was) ∙ c.count_words.ensures ∙ ap (counted (line_words - 1 - c.read_numbers-known.result.0)) cut.others_are) in
    let many = many c.args.line.now c.first_part.result.0.now (parts_after c.first_part.result.1) c.read_numbers-known.result.0 c.read_numbers-known.new.numbers
    c.first_part.ensures word cut.numbers_are cut.few in
    let part = known_part (parts_after c.first_part.result.1) c.read_numbers-known.result.0 c.read_numbers-known.new.numbers cut.numbers_are in
    record {
      all = omega (arith, many, told.1);
      few = told.2;
      numbers_are = rw c.first_part.ensures part.1;
      stops = λ more. ap (λ n. is_number (get_or (parts_of c.args.line.now) (n + 1) [])) part.0
          ∙ next_part c.args.line.now c.first_part.result.0.now (parts_after c.first_part.result.1) c.read_numbers-known.result.0
          c.first_part.ensures (parts_after c.read_numbers-known.result.1) cut.others_are
          (cut.stops (let fits = part.0 in omega (arith, more, told.2, fits))
          (let left = ap length cut.others_are in let fits = part.0 in omega (arith, more, told.1, left, fits)));
    }

pub returns : goal.returns
returns c =
    let word : is_word c.first_part.result.0.now ≡ true = grind (arith, nat_tests, c.if-is_empty.ensures) in
    let cut = c.read_numbers-known.ensures in
    sym
    (some_counted c.args.line.now c.first_part.result.0.now (parts_after c.first_part.result.1) c.read_numbers-known.result.0 c.read_numbers-known.new.numbers
    c.first_part.ensures word cut.numbers_are cut.few c.in_ok-others.others
    (sym (c.in_ok-others.was) ∙ c.count_words.ensures ∙ ap (counted (line_words - 1 - c.read_numbers-known.result.0)) cut.others_are)).0
