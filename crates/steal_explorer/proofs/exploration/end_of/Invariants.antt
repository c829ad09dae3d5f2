use Rattle.steal_explorer.proofs.Closing.{AreDrainedBelow}
use Rattle.steal_explorer.proofs.exploration.end_of.Given as goal

abbrev pub invariant-loop-k : goal.invariant-loop-k
invariant-loop-k l = AreDrainedBelow l.k l.members
