use Rattle.std.specs.Prelude.{◌≡◌, ◌+◌, ◌≤◌, ◌++◌, map, reverse, length}
use Rattle.op_eval.specs.Gathering.{runners_of, spare, HasPlaces}
use Rattle.steal_explorer.specs.Seating.{runner_of}
use Rattle.steal_explorer.proofs.seats.unseat_all.Given as goal

abbrev pub invariant-members : goal.invariant-members
invariant-members l =
    (map runner_of l.fn.members.items ≡ runners_of l.runners ++ map runner_of (reverse l.members.items))
    × (length l.members.items ≤ spare l.runners)
    × (spare l.fn.runners ≡ spare l.runners + l.counter)
    × (HasPlaces l.fn.runners → HasPlaces l.runners)
    × (length l.members.items + l.counter ≡ length l.fn.members.items)
