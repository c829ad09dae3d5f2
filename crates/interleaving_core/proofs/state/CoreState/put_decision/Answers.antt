use Rattle.std.proofs.Common.{Some}
use Rattle.interleaving_core.proofs.Storing.{decision_set}
use Rattle.interleaving_core.proofs.state.CoreState.put_decision.Goals as goal

pub returns-clause-core : goal.returns-clause-core
returns-clause-core c = decision_set c.args.self.now c.set.new.self c.args.event (Some c.args.committed) c.requires c.set.ensures.items
