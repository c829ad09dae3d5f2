use Rattle.steal_explorer.proofs.Holds.{puts}
use Rattle.steal_explorer.proofs.deal.give.Goals as goal

pub push_as-requires-clause-pushes : goal.push_as-requires-clause-pushes
push_as-requires-clause-pushes c = puts _ _ _ c.requires.part
