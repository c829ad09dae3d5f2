use Rattle.op_words.proofs.Holding.{holds_alone}
use Rattle.op_words.proofs.laws.one_holder.Goals as goal

pub returns : goal.returns
returns c = holds_alone
