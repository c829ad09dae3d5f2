use Rattle.morph_base.proofs.PlainLaws.{target_in}
use Rattle.morph_base.proofs.plain.read_targets.Goals as goal

pub get-requires : goal.get-requires
get-requires c = target_in c.args.values.now.layout c.args.ops.now c.loop-op.op-index _ c.requires.keys c.loop-op-test.true
