use Rattle.std.proofs.Common.{arith}
use Rattle.morph_base.proofs.PlainLaws.{param_in}
use Rattle.morph_base.proofs.plain.answer.Goals as goal

pub get-requires : goal.get-requires
get-requires c =
    param_in c.args.values.now.layout c.args.op.now c.loop-j.j _ c.requires.shaped c.requires.keys (omega (arith, c.from-params.ensures))
