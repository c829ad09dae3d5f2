use Rattle.steal_explorer.proofs.Stealing.{IsStealing}
use Rattle.steal_explorer.proofs.find.steal_range.Given as goal

abbrev pub invariant-loop-k : goal.invariant-loop-k
invariant-loop-k l = IsStealing l.thieves l.from l.to l.k l.retried l.fn.tickets.items l.tickets.items
