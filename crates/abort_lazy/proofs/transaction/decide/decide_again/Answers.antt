use Rattle.abort_lazy.proofs.Ending.{committed, aborted, undecided_never}
use Rattle.abort_lazy.proofs.transaction.decide.decide_again.Goals as goal

pub returns-in-Committed-clause-decided : goal.returns-in-Committed-clause-decided
returns-in-Committed-clause-decided c = committed _ _ _ c.in-Committed.ensures.answer

pub returns-in-Aborted-clause-decided : goal.returns-in-Aborted-clause-decided
returns-in-Aborted-clause-decided c = aborted _ _ _ c.in-Aborted.ensures.answer

pub returns-in-NotYet-clause-decided : goal.returns-in-NotYet-clause-decided
returns-in-NotYet-clause-decided c = let seen = c.requires.seen in absurd (undecided_never _ _ _ c.in-NotYet.ensures.answer seen.1 seen.2)
