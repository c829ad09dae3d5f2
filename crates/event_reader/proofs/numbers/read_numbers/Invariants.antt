use Rattle.std.proofs.Common.{◌≡◌, length, drop}
use Rattle.event_reader.specs.Limits.{line_words}
use Rattle.event_reader.specs.LineParts.{parts_after, AreNumbersUpTo}
use Rattle.event_reader.proofs.numbers.read_numbers.Given as goal

-- the parts so far are known, and the others are those of the rest
abbrev pub invariant-numbers : goal.invariant-numbers
invariant-numbers l = record {
  room : length l.numbers ≡ line_words;
  known : AreNumbersUpTo (parts_after l.parts) l.i l.numbers;
  rest : parts_after l.rest ≡ drop l.i (parts_after l.parts);
}
