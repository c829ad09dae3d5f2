use Rattle.abort_lazy.proofs.Covering.{few_left}
use Rattle.abort_lazy.proofs.laws.few_are_left.Goals as goal

pub returns : goal.returns
returns c = λ p core v lists valid are. few_left p valid core v lists are
