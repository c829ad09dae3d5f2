use Rattle.chain_units.proofs.Partition.{keys_rise, keys_are_targets, targets_are_keys}
use Rattle.chain_units.proofs.laws.keys_of_chains.Goals as goal

pub returns-clause-rise : goal.returns-clause-rise
returns-clause-rise c = keys_rise

pub returns-clause-all : goal.returns-clause-all
returns-clause-all c = λ p key. (keys_are_targets p key, targets_are_keys p key)
