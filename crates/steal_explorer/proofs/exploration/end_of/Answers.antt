use Rattle.std.proofs.Common.{ap}
use Rattle.steal_explorer.specs.declared.member.Member.{Member}
use Rattle.steal_explorer.proofs.Closing.{drained_more}
use Rattle.steal_explorer.proofs.exploration.end_of.Goals as goal

pub loop-k-preserved : goal.loop-k-preserved
loop-k-preserved c = drained_more _ _ c.index-members-k.result (ap (λ (m : Member). m.end) c.index-members-k.is) (c.is_drained.ensures.drained c.if-not-is_drained.false) c.loop-k.invariant
