use Rattle.abort_eager.specs.Grounds.{ground_rules}
use Rattle.steal_explorer.proofs.Quietly.{walked_unit}
use Rattle.steal_explorer.proofs.walk.walk.Goals as goal

pub returns-clause-walked : goal.returns-clause-walked
returns-clause-walked g c = walked_unit (ground_rules c.args.ground.now) _ _ _ _ c.walk_unit.ensures.walks
