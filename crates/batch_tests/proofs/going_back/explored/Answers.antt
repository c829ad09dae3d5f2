use Rattle.std.proofs.Common.{arith, sym, subst}
use Rattle.chain_units.specs.Places.{IsPartition}
use Rattle.morph_base.specs.Plans.{op_count}
use Rattle.morph_base.specs.declared.strategy.Unit.TheVariants.{Op}
use Rattle.morph_base.proofs.NumberLaws.{op_count-small}
use Rattle.chain_units.proofs.Partition.{each_in_one}
use Rattle.batch_tests.proofs.going_back.explored.Goals as goal

pub units-requires : goal.units-requires
units-requires g c = omega (arith, op_count-small c.args.plan.now c.requires.valid.plan)

pub explore-explored-requires-clause-units : goal.explore-explored-requires-clause-units
explore-explored-requires-clause-units g c κs within =
    subst (λ units. IsPartition units (op_count c.args.plan.now)) (sym c.in_ok-units.ensures.units) (each_in_one c.args.plan.now Op)
