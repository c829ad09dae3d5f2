use Rattle.std.proofs.Common.{◌≡◌, map}
use Rattle.chain_units.specs.Chains.{chain_lists}
use Rattle.chain_units.specs.Units.{chain_below, targets_below}
use Rattle.chain_units.proofs.chains.chains.Given as goal

abbrev pub invariant-loop-op : goal.invariant-loop-op
invariant-loop-op l = chain_lists l.chains ≡ map (λ key. (key, chain_below l.plan l.op key)) (targets_below l.plan l.op)
