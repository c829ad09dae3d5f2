use Rattle.std.proofs.Common.{◌∙◌}
use Rattle.chain_units.proofs.Singles.{alone_below, alone_unit}
use Rattle.chain_units.proofs.unit_lists.Units.ops.Goals as goal

pub unit-requires : goal.unit-requires
unit-requires c = alone_below c.self.inside.cut c.in-Alone.ops c.args.self.now c.in-Alone.is c.self.view_is c.args.u c.requires

pub returns-in-Alone : goal.returns-in-Alone
returns-in-Alone c = c.unit.ensures ∙ alone_unit c.self.inside.cut c.in-Alone.ops c.args.self.now c.in-Alone.is c.self.view_is c.args.u c.requires
