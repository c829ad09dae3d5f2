use Rattle.abort_eager.proofs.Touching.{spread_touched, roll_touched, spread_steps_are, roll_steps_are}
use Rattle.abort_eager.proofs.cascade.touch.Goals as goal

pub returns-in-Spread-clause-touches : goal.returns-in-Spread-clause-touches
returns-in-Spread-clause-touches c = spread_touched _ _ _ c.args.op _ _ _ _ _ c.in-Spread.is c.requires.target c.spread-answer.ensures.answer c.of_spread.ensures

pub returns-in-RollBack-clause-touches : goal.returns-in-RollBack-clause-touches
returns-in-RollBack-clause-touches c = roll_touched _ _ _ c.args.op _ _ _ _ _ _ c.in-RollBack.is c.requires.target c.roll_back-answer.ensures.answer c.of_roll.ensures

pub returns-in-Spread-clause-steps : goal.returns-in-Spread-clause-steps
returns-in-Spread-clause-steps c = spread_steps_are _ _ _ c.args.op _ _ _ _ _ c.in-Spread.is c.spread-answer.ensures.answer c.of_spread.ensures

pub returns-in-RollBack-clause-steps : goal.returns-in-RollBack-clause-steps
returns-in-RollBack-clause-steps c = roll_steps_are _ _ _ c.args.op _ _ _ _ _ _ c.in-RollBack.is c.roll_back-answer.ensures.answer c.of_roll.ensures
