use Rattle.op_eval.proofs.evaluation.begin.Goals as goal

pub returns-else-may_guess-clause-answer : goal.returns-else-may_guess-clause-answer
returns-else-may_guess-clause-answer c = λ start xs far. c.make.ensures.answer start xs c.args.word far c.requires.blocked
