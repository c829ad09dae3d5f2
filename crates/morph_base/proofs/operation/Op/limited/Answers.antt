use Rattle.morph_base.proofs.ShapeLaws.{limited_to-shaped}
use Rattle.morph_base.proofs.operation.Op.limited.Goals as goal

pub returns-clause-shaped : goal.returns-clause-shaped
returns-clause-shaped c = limited_to-shaped c.args.low c.args.high c.args.self
