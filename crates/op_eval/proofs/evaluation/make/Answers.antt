use Rattle.op_eval.proofs.Holding.{made_ready, make_busy, make_blocked}
use Rattle.op_eval.proofs.evaluation.make.Goals as goal

pub returns-in-Made-clause-answer : goal.returns-in-Made-clause-answer
returns-in-Made-clause-answer c = λ start xs w far is. let made = made_ready _ _ _ far is c.in-Made.ensures.answer in c.hold.ensures.answer start made.0 made.1 made.2 made.3

pub returns-then-at-op-clause-answer : goal.returns-then-at-op-clause-answer
returns-then-at-op-clause-answer c = λ start xs w far is. make_busy _ _ _ far c.if-at-op.true is c.in-Not.ensures.answer

pub returns-else-at-op-clause-answer : goal.returns-else-at-op-clause-answer
returns-else-at-op-clause-answer c = λ start xs w far is. make_blocked _ _ _ far c.if-at-op.false is c.in-Not.ensures.answer
