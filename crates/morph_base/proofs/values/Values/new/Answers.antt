use Rattle.morph_base.proofs.FlatLaws.{state_in-zeros}
use Rattle.morph_base.proofs.values.Values.new.Goals as goal

pub returns-clause-opening : goal.returns-clause-opening
returns-clause-opening c = rw c.in_ok-zeros.ensures (state_in-zeros c.args.layout _)
