use Rattle.chain_units.proofs.Singles.{alone_at, alone_stands}
use Rattle.chain_units.proofs.unit_lists.Units.place_of.Goals as goal

pub returns-in-Alone-clause-stands : goal.returns-in-Alone-clause-stands
returns-in-Alone-clause-stands c = (c.args.op, alone_stands c.self.inside.cut c.in-Alone.field-0 c.args.self.now c.in-Alone.is c.self.view_is c.args.op c.requires)

pub returns-in-Alone-clause-alone : goal.returns-in-Alone-clause-alone
returns-in-Alone-clause-alone c = λ u i stands. (alone_at c.self.inside.cut c.in-Alone.field-0 c.args.self.now c.in-Alone.is c.self.view_is u i c.args.op stands).2
