use Rattle.abort_eager.proofs.Touching.{touched_all}
use Rattle.abort_eager.proofs.laws.cascades_settle_nothing.Goals as goal

pub returns : goal.returns
returns c = touched_all
