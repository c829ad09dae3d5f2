use Rattle.strata_explorer.proofs.Climbing.{union}
use Rattle.strata_explorer.proofs.laws.each_place_is_reached.Goals as goal

pub returns : goal.returns
returns c = union
