use Rattle.std.proofs.Common.{◌≡◌, length, sum_by, take}
use Rattle.run_text.specs.Counts.{counted_to}
use Rattle.run_text.proofs.tally.causes.Given as goal

abbrev pub invariant-loop-list : goal.invariant-loop-list
invariant-loop-list l = l.count ≡ counted_to (sum_by (λ list. length list.items) (take l.list-index l.lists))
