use Rattle.std.proofs.Common.{◌∙◌}
use Rattle.chain_units.proofs.Singles.{alone_count}
use Rattle.chain_units.proofs.unit_lists.Units.len.Goals as goal

pub returns-in-Alone : goal.returns-in-Alone
returns-in-Alone c = c.len.ensures ∙ alone_count c.self.inside.cut c.in-Alone.ops c.args.self.now c.in-Alone.is c.self.view_is
