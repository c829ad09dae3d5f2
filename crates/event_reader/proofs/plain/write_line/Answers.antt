use Rattle.std.proofs.Common.{[], ◌∷◌, ◌++◌, length, ◌∙◌, ap, arith, length-append}
use Rattle.event_reader.specs.PlainLines.{spaced}
use Rattle.event_reader.proofs.PlainLines.{plain_more}
use Rattle.event_reader.proofs.plain.write_line.Goals as goal

pub numbers-init : goal.numbers-init
unfolding spaced
numbers-init c =
    let first = c.word.ensures ∙ ap (λ front. front ++ c.args.letter ∷ []) c.requires.empty in
    record { written = first; short = omega (arith, ap length first) }

pub numbers-preserved : goal.numbers-preserved
numbers-preserved c = record {
  written = plain_more c.args.letter c.args.numbers.now c.numbers.line c.word-in-numbers.new.self c.number.new.self c.numbers.i (omega arith)
      c.numbers.invariant.written c.word-in-numbers.ensures c.number.ensures.digits;
  short = omega (arith, c.number.ensures.bound, ap length c.word-in-numbers.ensures, length-append c.numbers.line (32 ∷ []));
}
