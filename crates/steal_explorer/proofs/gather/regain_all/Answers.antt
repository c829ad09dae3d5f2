use Rattle.steal_explorer.proofs.Returning.{regaining_none, totals_none, totals_then}
use Rattle.steal_explorer.proofs.gather.regain_all.Goals as goal

pub loop-j-init : goal.loop-j-init
loop-j-init c = (regaining_none _ _ _ c.requires.deque c.requires.holding, totals_none _)

pub loop-j-preserved : goal.loop-j-preserved
loop-j-preserved c = (c.move_ticket.ensures.regaining, totals_then _ _ _ c.loop-j.invariant.1 c.move_ticket.ensures.totals)
