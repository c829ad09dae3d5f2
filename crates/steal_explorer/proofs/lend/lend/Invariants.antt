use Rattle.steal_explorer.specs.Lending.{AreLending, KeepsSeats}
use Rattle.steal_explorer.proofs.lend.lend.Given as goal

abbrev pub invariant-loop-j : goal.invariant-loop-j
invariant-loop-j l = AreLending l.thieves l.k l.j l.seats × KeepsSeats l.fn.seats l.seats
