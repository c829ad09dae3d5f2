use Rattle.std.specs.Prelude.{◌≡◌, ◌+◌, ◌≤◌}
use Rattle.op_eval.specs.Gathering.{runners_of, spare, HasPlaces}
use Rattle.steal_explorer.proofs.Sitting.{IsSeating}
use Rattle.steal_explorer.proofs.seats.seat_all.Given as goal

abbrev pub invariant-seats : goal.invariant-seats
invariant-seats l =
    IsSeating (runners_of l.fn.runners) l.fn.seats.items l.count l.seated (runners_of l.runners) l.seats.items l.members.items
    × (spare l.runners ≡ spare l.fn.runners + l.seated)
    × (HasPlaces l.fn.runners → HasPlaces l.runners)
    × (l.count ≤ l.members.room + l.seated)
    × (l.seated ≤ l.count)
