use Rattle.std.proofs.Common.{ap}
use Rattle.morph_base.specs.Words.{is_idle}
use Rattle.op_eval.proofs.Holding.{begun, already, busy_first}
use Rattle.op_eval.proofs.evaluation.evaluate_by.Goals as goal

pub returns-in-Blocked-clause-answer : goal.returns-in-Blocked-clause-answer
returns-in-Blocked-clause-answer c = let far = begun _ _ _ (c.peek-word.ensures.answer c.requires.may.3) c.peek-word.ensures.view (ap is_idle c.in-Blocked.is) in c.begin.ensures.answer _ far.0 far.1

pub returns-in-Ready-clause-answer : goal.returns-in-Ready-clause-answer
returns-in-Ready-clause-answer c = let far = begun _ _ _ (c.peek-word.ensures.answer c.requires.may.3) c.peek-word.ensures.view (ap is_idle c.in-Ready.is) in c.hold.ensures.answer _ far.0 _ far.1 c.in-Ready.is

pub returns-in-Claimed-clause-answer : goal.returns-in-Claimed-clause-answer
returns-in-Claimed-clause-answer c = busy_first _ _ _ (c.peek-word.ensures.answer c.requires.may.3) c.peek-word.ensures.view c.in-Claimed.is

pub returns-in-Executed-clause-answer : goal.returns-in-Executed-clause-answer
returns-in-Executed-clause-answer c = already _ _ _ (c.peek-word.ensures.answer c.requires.may.3) c.peek-word.ensures.view (ap is_idle c.in-Executed.is)

pub returns-in-Failed-clause-answer : goal.returns-in-Failed-clause-answer
returns-in-Failed-clause-answer c = already _ _ _ (c.peek-word.ensures.answer c.requires.may.3) c.peek-word.ensures.view (ap is_idle c.in-Failed.is)

pub returns-in-Spread-clause-answer : goal.returns-in-Spread-clause-answer
returns-in-Spread-clause-answer c = already _ _ _ (c.peek-word.ensures.answer c.requires.may.3) c.peek-word.ensures.view (ap is_idle c.in-Spread.is)

pub returns-in-Settled-clause-answer : goal.returns-in-Settled-clause-answer
returns-in-Settled-clause-answer c = already _ _ _ (c.peek-word.ensures.answer c.requires.may.3) c.peek-word.ensures.view (ap is_idle c.in-Settled.is)

pub returns-in-SettledAborted-clause-answer : goal.returns-in-SettledAborted-clause-answer
returns-in-SettledAborted-clause-answer c = already _ _ _ (c.peek-word.ensures.answer c.requires.may.3) c.peek-word.ensures.view (ap is_idle c.in-SettledAborted.is)
