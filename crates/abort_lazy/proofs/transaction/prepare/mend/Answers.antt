use Rattle.std.proofs.Common.{refl, ap}
use Rattle.morph_base.specs.declared.word.OpState.TheVariants.{Claimed, Executed, Failed, Settled, SettledAborted}
use Rattle.morph_base.specs.Words.{is_idle}
use Rattle.abort_lazy.proofs.Readying.{found_idle, found_spread, found_stop}
use Rattle.abort_lazy.proofs.Answering.{answered_none}
use Rattle.abort_lazy.proofs.transaction.prepare.mend.Goals as goal

pub returns-in-Spread-clause-ready : goal.returns-in-Spread-clause-ready
returns-in-Spread-clause-ready c = λ start xs found. c.redo_spread.ensures.ready start xs (found_spread _ _ _ _ c.requires.inside found c.in-Spread.is)

pub returns-in-Blocked-clause-ready : goal.returns-in-Blocked-clause-ready
returns-in-Blocked-clause-ready c = λ start xs found. c.run.ensures.ready start xs (found_idle _ _ _ _ c.requires.inside found (ap is_idle c.in-Blocked.is))

pub returns-in-Ready-clause-ready : goal.returns-in-Ready-clause-ready
returns-in-Ready-clause-ready c = λ start xs found. c.run-in-Ready.ensures.ready start xs (found_idle _ _ _ _ c.requires.inside found (ap is_idle c.in-Ready.is))

pub returns-in-Claimed-clause-ready : goal.returns-in-Claimed-clause-ready
returns-in-Claimed-clause-ready c = λ start xs found. found_stop _ _ _ _ c.requires.inside Claimed c.in-Claimed.is refl found c.found.ensures

pub returns-in-Claimed-clause-answered : goal.returns-in-Claimed-clause-answered
returns-in-Claimed-clause-answered c = answered_none _ _ _ refl refl

pub returns-in-Executed-clause-ready : goal.returns-in-Executed-clause-ready
returns-in-Executed-clause-ready c = λ start xs found. found_stop _ _ _ _ c.requires.inside Executed c.in-Executed.is refl found c.found-in-Executed.ensures

pub returns-in-Executed-clause-answered : goal.returns-in-Executed-clause-answered
returns-in-Executed-clause-answered c = answered_none _ _ _ refl refl

pub returns-in-Failed-clause-ready : goal.returns-in-Failed-clause-ready
returns-in-Failed-clause-ready c = λ start xs found. found_stop _ _ _ _ c.requires.inside Failed c.in-Failed.is refl found c.found-in-Failed.ensures

pub returns-in-Failed-clause-answered : goal.returns-in-Failed-clause-answered
returns-in-Failed-clause-answered c = answered_none _ _ _ refl refl

pub returns-in-Settled-clause-ready : goal.returns-in-Settled-clause-ready
returns-in-Settled-clause-ready c = λ start xs found. found_stop _ _ _ _ c.requires.inside Settled c.in-Settled.is refl found c.found-in-Settled.ensures

pub returns-in-Settled-clause-answered : goal.returns-in-Settled-clause-answered
returns-in-Settled-clause-answered c = answered_none _ _ _ refl refl

pub returns-in-SettledAborted-clause-ready : goal.returns-in-SettledAborted-clause-ready
returns-in-SettledAborted-clause-ready c = λ start xs found. found_stop _ _ _ _ c.requires.inside SettledAborted c.in-SettledAborted.is refl found c.found-in-SettledAborted.ensures

pub returns-in-SettledAborted-clause-answered : goal.returns-in-SettledAborted-clause-answered
returns-in-SettledAborted-clause-answered c = answered_none _ _ _ refl refl
