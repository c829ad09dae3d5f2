use Rattle.steal_explorer.proofs.Holds.{steals}
use Rattle.steal_explorer.proofs.Stealing.{ticket_part}
use Rattle.steal_explorer.proofs.find.steal_at.Goals as goal

pub steal_as-requires-clause-takes : goal.steal_as-requires-clause-takes
steal_as-requires-clause-takes c = steals _ _ (ticket_part _ _ c.requires.sits)
