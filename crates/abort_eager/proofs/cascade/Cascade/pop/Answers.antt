use Rattle.abort_eager.proofs.Popping.{popped_sibling, popped_place}
use Rattle.abort_eager.proofs.cascade.Cascade.pop.Goals as goal

pub returns-then-op-self-clause-pops : goal.returns-then-op-self-clause-pops
returns-then-op-self-clause-pops c = popped_sibling _ _ c.requires.plan.plan c.requires.cascade _ c.sibling_from-op.ensures c.if-op-self.true

pub returns-clause-pops : goal.returns-clause-pops
returns-clause-pops c = popped_place _ _ c.requires.plan.plan c.requires.cascade _ c.sibling_from-op.ensures _ _ c.if-op-self.false c.pop_place.ensures.pops
