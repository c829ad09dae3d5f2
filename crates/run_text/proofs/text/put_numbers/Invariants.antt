use Rattle.std.proofs.Common.{◌≡◌, ◌+◌, ◌*◌, ◌≤◌, ◌++◌, length, take}
use Rattle.std.specs.List.{flat_map}
use Rattle.run_text.specs.Text.{after_space}
use Rattle.run_text.proofs.text.put_numbers.Given as goal

abbrev pub invariant-loop-number : goal.invariant-loop-number
invariant-loop-number l = record {
  text : l.line ≡ l.initial.line ++ flat_map after_space (take l.number-index l.numbers);
  room : length l.line ≤ length l.initial.line + 21 * l.number-index;
}
