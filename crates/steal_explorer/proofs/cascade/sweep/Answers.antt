use Rattle.steal_explorer.proofs.Going.{goes_none}
use Rattle.steal_explorer.proofs.cascade.sweep.Goals as goal

pub returns-in_default-clause-goes : goal.returns-in_default-clause-goes
returns-in_default-clause-goes g c = goes_none _ _
