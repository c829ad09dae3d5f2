use Rattle.morph_base.proofs.BaseLaws.{bases-opening}
use Rattle.morph_base.proofs.laws.plans.bases_tell_a_state.Goals as goal

pub returns : goal.returns
returns c = bases-opening
