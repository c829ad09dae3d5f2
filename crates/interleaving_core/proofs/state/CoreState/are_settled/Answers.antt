use Rattle.std.proofs.Common.{below_more, subst}
use Rattle.morph_base.specs.Plans.{origin_at}
use Rattle.morph_base.specs.Known.{IsKnown}
use Rattle.interleaving_core.specs.Core.{IsSettledIn}
use Rattle.interleaving_core.specs.Stored.{core_of}
use Rattle.interleaving_core.proofs.state.CoreState.are_settled.Goals as goal

pub loop-j-preserved : goal.loop-j-preserved
loop-j-preserved c =
    below_more (λ k. IsKnown (IsSettledIn (core_of c.args.self.now)) (origin_at c.args.plan.now c.args.op k)) c.loop-j.j c.loop-j.invariant
    (subst (IsKnown (IsSettledIn (core_of c.args.self.now))) c.origin_of.ensures.origin (c.settled_value.ensures.known.0 c.if-is_none.ensures))
