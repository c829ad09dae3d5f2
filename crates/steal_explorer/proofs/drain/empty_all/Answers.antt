use Rattle.steal_explorer.proofs.Emptying.{emptying_more}
use Rattle.steal_explorer.proofs.drain.empty_all.Goals as goal

pub loop-k-preserved : goal.loop-k-preserved
loop-k-preserved c = emptying_more _ _ _ _ _ _ c.index-members-k.result _ c.loop-k.invariant c.loop-k-test.true c.empty.ensures.idle c.empty.ensures.emptied
