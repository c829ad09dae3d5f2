use Rattle.std.proofs.Common.{below_more}
use Rattle.interleaving_core.specs.Steps.{RecordAgrees}
use Rattle.interleaving_core.specs.Stored.{core_of}
use Rattle.interleaving_core.proofs.state.CoreState.records_agree.Goals as goal

pub loop-j-preserved : goal.loop-j-preserved
loop-j-preserved c =
    below_more (RecordAgrees c.args.plan.now (core_of c.args.self.now) c.args.op) c.loop-j.j c.loop-j.invariant (c.agrees.ensures.0 c.if-not-agrees.false)
