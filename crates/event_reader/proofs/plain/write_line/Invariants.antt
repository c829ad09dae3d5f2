use Rattle.std.proofs.Common.{◌≡◌, ◌+◌, ◌*◌, ◌≤◌, length, take}
use Rattle.event_reader.specs.PlainLines.{plain_line}
use Rattle.event_reader.proofs.plain.write_line.Given as goal

abbrev pub invariant-numbers : goal.invariant-numbers
invariant-numbers l = record {
  written : l.line ≡ plain_line l.letter (take l.i l.numbers);
  short : length l.line ≤ 1 + 21 * l.i;
}
