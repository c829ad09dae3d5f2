use Rattle.std.proofs.Common.{sym, subst, arith}
use Rattle.morph_base.specs.declared.strategy.Unit.TheVariants.{Chain}
use Rattle.morph_base.specs.Plans.{op_count}
use Rattle.chain_units.specs.Places.{AreFewUnits}
use Rattle.chain_units.proofs.Partition.{each_in_one, few_units, same_partition}
use Rattle.chain_units.proofs.by_unit.units.Goals as goal

pub chains-requires : goal.chains-requires
chains-requires c = omega arith

pub new-requires-in-Chain-clause-few : goal.new-requires-in-Chain-clause-few
new-requires-in-Chain-clause-few c = subst AreFewUnits (sym c.in_ok-chains-in-Chain.ensures) (few_units c.args.plan.now Chain c.requires)

pub new-requires-in-Chain-clause-partition : goal.new-requires-in-Chain-clause-partition
new-requires-in-Chain-clause-partition c =
    same_partition _ _ c.len-ops.result (op_count c.args.plan.now) c.in_ok-chains-in-Chain.ensures c.len-ops.ensures (each_in_one c.args.plan.now Chain)
