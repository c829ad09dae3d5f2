use Rattle.steal_explorer.specs.Gathering.{AreRegaining, AreTotals}
use Rattle.steal_explorer.proofs.gather.regain_all.Given as goal

abbrev pub invariant-loop-j : goal.invariant-loop-j
invariant-loop-j l = AreRegaining l.thieves l.k l.j l.members × AreTotals l.fn.members l.members
