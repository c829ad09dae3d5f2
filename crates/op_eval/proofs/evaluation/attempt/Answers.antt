use Rattle.std.proofs.Common.{subst}
use Rattle.morph_base.specs.Words.{IsWord}
use Rattle.op_words.proofs.Making.{bare_blocked}
use Rattle.op_eval.proofs.Attempting.{ran, kept_back, forestalled}
use Rattle.op_eval.proofs.evaluation.attempt.Goals as goal

pub attempt-requires-clause-word : goal.attempt-requires-clause-word
attempt-requires-clause-word c = subst IsWord (bare_blocked c.args.word c.requires.word c.requires.blocked) c.requires.word

pub returns-in-Ran-clause-answer : goal.returns-in-Ran-clause-answer
returns-in-Ran-clause-answer c = λ start xs far. ran _ _ _ far c.requires.word c.requires.blocked c.in-Ran.ensures.answer

pub returns-in-Blocked-clause-answer : goal.returns-in-Blocked-clause-answer
returns-in-Blocked-clause-answer c = λ start xs far. kept_back _ _ _ far c.requires.word c.requires.blocked c.in-Blocked.ensures.answer

pub returns-in-Busy-clause-answer : goal.returns-in-Busy-clause-answer
returns-in-Busy-clause-answer c = λ start xs far. forestalled _ _ _ far c.requires.word c.requires.blocked c.in-Busy.ensures.answer
