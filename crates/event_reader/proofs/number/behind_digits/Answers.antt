use Rattle.std.proofs.Common.{◌≡◌, ◌+◌, ◌<◌, ◌∷◌, false, length, take, get_or, sym, ◌∙◌, ap, arith}
use Rattle.std.proofs.lemmas.Bool.Decides.{nat_tests}
use Rattle.std.proofs.lemmas.List.{take_rest}
use Rattle.event_reader.specs.Words.{is_space, parts_of}
use Rattle.event_reader.proofs.FirstDigits.{to_the_end, to_a_space, to_another}
use Rattle.event_reader.proofs.number.behind_digits.Goals as goal

pub returns-then-len-line : goal.returns-then-len-line
returns-then-len-line c = to_the_end c.args.line.now c.args.len c.requires.digits (sym c.if-len-line.true)

pub returns-then-line-len-eq32 : goal.returns-then-line-len-eq32
returns-then-line-len-eq32 c =
    let inside : c.args.len < length c.args.line.now = omega (arith, c.requires.inside, c.if-len-line.false) in
    to_a_space c.args.line.now c.args.len c.requires.digits inside c.if-line-len-eq32.true
    ∙ ap (λ rest. take c.args.len c.args.line.now ∷ parts_of rest) (sym (take_rest c.args.line.now (c.args.len + 1)))

pub returns-else-line-len-eq32 : goal.returns-else-line-len-eq32
returns-else-line-len-eq32 c =
    let inside : c.args.len < length c.args.line.now = omega (arith, c.requires.inside, c.if-len-line.false) in
    let other : is_space (get_or c.args.line.now c.args.len 0) ≡ false = grind (arith, nat_tests, c.if-line-len-eq32.false) in
    to_another c.args.line.now c.args.len c.requires.digits inside (c.requires.ends inside) other
