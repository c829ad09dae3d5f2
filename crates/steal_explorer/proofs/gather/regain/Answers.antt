use Rattle.steal_explorer.proofs.Holds.{merges}
use Rattle.steal_explorer.proofs.gather.regain.Goals as goal

pub absorb-requires-clause-rule : goal.absorb-requires-clause-rule
absorb-requires-clause-rule c = merges _ _ _ _ c.requires.part
