use Rattle.morph_base.proofs.NumberLaws.{first-sum, count-sum, op_count-small}
use Rattle.morph_base.proofs.laws.plans.numbers.Goals as goal

pub returns : goal.returns
returns c = record { first = first-sum; all = count-sum; few = op_count-small }
