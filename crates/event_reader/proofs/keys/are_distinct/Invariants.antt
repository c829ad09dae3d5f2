use Rattle.std.proofs.Common.{◌≡◌, drop}
use Rattle.event_reader.specs.Keys.{are_distinct}
use Rattle.event_reader.proofs.keys.are_distinct.Given as goal

abbrev pub invariant-loop-i : goal.invariant-loop-i
invariant-loop-i l = are_distinct (drop l.i l.keys) ≡ are_distinct l.keys
