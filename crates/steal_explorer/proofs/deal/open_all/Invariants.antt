use Rattle.std.specs.Prelude.{◌≡◌, ◌+◌, ◌≤◌, length}
use Rattle.steal_explorer.specs.Dealing.{AreOpened}
use Rattle.steal_explorer.proofs.deal.open_all.Given as goal

abbrev pub invariant-deques : goal.invariant-deques
invariant-deques l =
    AreOpened l.capacity l.count l.thieves.items l.seats.items
    × (length l.seats.items ≡ l.counter) × (l.count ≤ l.seats.room + l.counter) × (l.count ≤ l.thieves.room + l.counter)
