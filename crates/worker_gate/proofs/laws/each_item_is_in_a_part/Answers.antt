use Rattle.worker_gate.proofs.Cutting.{all_parts}
use Rattle.worker_gate.proofs.laws.each_item_is_in_a_part.Goals as goal

pub returns : goal.returns
returns g c = all_parts
