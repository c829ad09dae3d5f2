use Rattle.chain_units.proofs.Partition.{each_in_one, unit_rises}
use Rattle.chain_units.proofs.laws.each_in_one.Goals as goal

pub returns-clause-partition : goal.returns-clause-partition
returns-clause-partition c = each_in_one

pub returns-clause-rises : goal.returns-clause-rises
returns-clause-rises c = unit_rises
