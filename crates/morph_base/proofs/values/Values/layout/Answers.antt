use Rattle.morph_base.proofs.FlatLaws.{state_in-small}
use Rattle.morph_base.proofs.values.Values.layout.Goals as goal

pub returns-clause-small : goal.returns-clause-small
returns-clause-small c = rw (← c.self.view_is) (state_in-small c.self.inside.layout c.self.inside.values.items c.self.invariant)
