use Rattle.morph_base.proofs.OpRowLaws.{origins_more}
use Rattle.morph_base.proofs.plan_ops.origins_in.Goals as goal

pub loop-j-preserved : goal.loop-j-preserved
loop-j-preserved c = origins_more c.args.words.now c.loop-j.origins c.loop-j.j c.origin_of.result c.loop-j-test.true c.requires c.loop-j.invariant c.origin_of.ensures
