use Rattle.std.proofs.Common.{◌≡◌, ◌≤◌, true, take}
use Rattle.std.specs.Char.{is_ascii_digit}
use Rattle.std.specs.List.{list_all}
use Rattle.event_reader.specs.Limits.{greatest_number}
use Rattle.event_reader.specs.Numbers.{value_of}
use Rattle.event_reader.proofs.number.leading_digits.Given as goal

-- the bytes so far are digits, and the value is theirs
abbrev pub invariant-digits : goal.invariant-digits
invariant-digits l = record {
  digits : list_all is_ascii_digit (take l.i l.line) ≡ true;
  value : l.value ≡ value_of (take l.i l.line);
  small : l.value ≤ greatest_number;
}
