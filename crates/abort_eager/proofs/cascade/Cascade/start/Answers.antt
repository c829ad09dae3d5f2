use Rattle.abort_eager.proofs.Starting.{all_left}
use Rattle.abort_eager.proofs.cascade.Cascade.start.Goals as goal

pub returns-clause-targets : goal.returns-clause-targets
returns-clause-targets c = all_left _ _ _ _ _ c.requires.in_range c.sources-first.ensures.first c.sources-first.ensures.end
