use Rattle.std.proofs.Common.{◌≡◌, drop, length}
use Rattle.event_reader.specs.Forms.{ranges_of}
use Rattle.event_reader.specs.Numbers.{are_in}
use Rattle.event_reader.proofs.form.Form.are_in.Given as goal

-- the numbers are in their ranges where those from here on are
abbrev pub invariant-places : goal.invariant-places
invariant-places g l =
    are_in (ranges_of l.self (length l.numbers)) l.numbers ≡ are_in (drop l.i (ranges_of l.self (length l.numbers))) (drop l.i l.numbers)
