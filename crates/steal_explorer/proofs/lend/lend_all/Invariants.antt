use Rattle.steal_explorer.specs.Lending.{AreLent, KeepsSeats}
use Rattle.steal_explorer.proofs.lend.lend_all.Given as goal

abbrev pub invariant-loop-k : goal.invariant-loop-k
invariant-loop-k l = AreLent l.thieves l.k l.seats × KeepsSeats l.fn.seats l.seats
