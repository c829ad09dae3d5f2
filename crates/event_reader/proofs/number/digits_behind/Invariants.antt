use Rattle.std.proofs.Common.{◌≡◌, ◌+◌, true, take}
use Rattle.std.specs.Char.{is_ascii_digit}
use Rattle.std.specs.List.{list_all}
use Rattle.event_reader.specs.Limits.{greatest_number}
use Rattle.event_reader.specs.Numbers.{cut_value}
use Rattle.event_reader.proofs.number.digits_behind.Given as goal

-- the bytes so far are digits, and say a number above the greatest
abbrev pub invariant-digits : goal.invariant-digits
invariant-digits l = record {
  digits : list_all is_ascii_digit (take l.i l.line) ≡ true;
  great : cut_value (take l.i l.line) ≡ greatest_number + 1;
}
