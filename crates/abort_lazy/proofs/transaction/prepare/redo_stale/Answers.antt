use Rattle.abort_lazy.proofs.Readying.{again_good, again_bad, again_source, again_busy}
use Rattle.abort_lazy.proofs.Answering.{answered_again}
use Rattle.abort_lazy.proofs.transaction.prepare.redo_stale.Goals as goal

pub returns-in-Good-clause-ready : goal.returns-in-Good-clause-ready
returns-in-Good-clause-ready c = λ start xs old. again_good _ _ _ _ c.requires.inside old (rw c.without_worker.ensures at c.in-Good.ensures.answer.does)

pub returns-in-Good-clause-answered : goal.returns-in-Good-clause-answered
returns-in-Good-clause-answered c = answered_again _ _ _ _ c.in-Good.ensures.answer

pub returns-in-Bad-clause-ready : goal.returns-in-Bad-clause-ready
returns-in-Bad-clause-ready c = λ start xs old. again_bad _ _ _ _ c.requires.inside old (rw c.without_worker.ensures at c.in-Bad.ensures.answer.does)

pub returns-in-Bad-clause-answered : goal.returns-in-Bad-clause-answered
returns-in-Bad-clause-answered c = answered_again _ _ _ _ c.in-Bad.ensures.answer

pub returns-in-Open-clause-ready : goal.returns-in-Open-clause-ready
returns-in-Open-clause-ready c = λ start xs old. again_source _ _ _ _ c.requires.inside old c.requires.stale (rw c.without_worker.ensures at c.in-Open.ensures.answer.does)

pub returns-in-Open-clause-answered : goal.returns-in-Open-clause-answered
returns-in-Open-clause-answered c = answered_again _ _ _ _ c.in-Open.ensures.answer

pub returns-in-Busy-clause-ready : goal.returns-in-Busy-clause-ready
returns-in-Busy-clause-ready c = λ start xs old. again_busy _ _ _ _ c.requires.inside old (rw c.without_worker.ensures at c.in-Busy.ensures.answer.does) c.found.ensures

pub returns-in-Busy-clause-answered : goal.returns-in-Busy-clause-answered
returns-in-Busy-clause-answered c = answered_again _ _ _ _ c.in-Busy.ensures.answer
