use Rattle.std.proofs.Common.{arith, sym, subst}
use Rattle.chain_units.specs.Places.{IsPartition}
use Rattle.morph_base.specs.Plans.{op_count}
use Rattle.morph_base.proofs.NumberLaws.{op_count-small}
use Rattle.op_words.specs.Hands.{IsHandOf}
use Rattle.chain_units.proofs.Partition.{each_in_one}
use Rattle.batch_tests.proofs.handing.explore_by.Goals as goal

pub units-requires : goal.units-requires
units-requires g c = omega (arith, op_count-small c.args.plan.now c.requires.valid.plan)

pub explore-explored-requires-clause-units : goal.explore-explored-requires-clause-units
explore-explored-requires-clause-units g c κs within =
    subst (λ units. IsPartition units (op_count c.args.plan.now)) (sym c.in_ok-units.ensures.units) (each_in_one c.args.plan.now c.args.unit)

pub words_of-requires-clause-hand : goal.words_of-requires-clause-hand
words_of-requires-clause-hand g c =
    let rest = c.parts-board.ensures.explored.rest in
    subst (λ r. IsHandOf c.parts-board.result.0 r.hand) (sym (c.runner-runner.ensures.item c.runner-runner.result.now)) (rest.hands 0 c.runner-runner.result.now rest.some)
