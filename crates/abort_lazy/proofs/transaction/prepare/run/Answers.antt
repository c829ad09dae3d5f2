use Rattle.std.proofs.Common.{refl, subst, sym}
use Rattle.morph_base.specs.Plans.{IsPlan}
use Rattle.abort_lazy.proofs.Readying.{made_so_far, run_blocked, run_busy, run_already}
use Rattle.abort_lazy.proofs.Answering.{answered_one}
use Rattle.abort_lazy.proofs.Ending.{come_first}
use Rattle.abort_lazy.proofs.transaction.prepare.run.Goals as goal

pub returns-in-Evaluated-clause-ready : goal.returns-in-Evaluated-clause-ready
returns-in-Evaluated-clause-ready c = let first = come_first _ _ (subst IsPlan (sym c.requires.may.1) c.requires.may.0.valid) c.requires.may.2 in
    λ start xs idle. let made = made_so_far _ _ _ _ c.requires.inside first c.in-Evaluated.ensures.answer.does idle in c.judge.ensures.ready start made.0 made.1

pub returns-in-Evaluated-clause-answered : goal.returns-in-Evaluated-clause-answered
returns-in-Evaluated-clause-answered c = answered_one _ _ _ _ c.in-Evaluated.ensures.answer refl refl

pub returns-in-Blocked-clause-ready : goal.returns-in-Blocked-clause-ready
returns-in-Blocked-clause-ready c = let first = come_first _ _ (subst IsPlan (sym c.requires.may.1) c.requires.may.0.valid) c.requires.may.2 in
    λ start xs idle. run_blocked _ _ _ _ c.requires.inside first c.in-Blocked.ensures.answer.does idle

pub returns-in-Blocked-clause-answered : goal.returns-in-Blocked-clause-answered
returns-in-Blocked-clause-answered c = answered_one _ _ _ _ c.in-Blocked.ensures.answer refl refl

pub returns-in-Busy-clause-ready : goal.returns-in-Busy-clause-ready
returns-in-Busy-clause-ready c = let first = come_first _ _ (subst IsPlan (sym c.requires.may.1) c.requires.may.0.valid) c.requires.may.2 in
    λ start xs idle. run_busy _ _ _ _ c.requires.inside first c.in-Busy.ensures.answer.does idle c.found.ensures

pub returns-in-Busy-clause-answered : goal.returns-in-Busy-clause-answered
returns-in-Busy-clause-answered c = answered_one _ _ _ _ c.in-Busy.ensures.answer refl refl

pub returns-in-Already-clause-ready : goal.returns-in-Already-clause-ready
returns-in-Already-clause-ready c = let first = come_first _ _ (subst IsPlan (sym c.requires.may.1) c.requires.may.0.valid) c.requires.may.2 in
    λ start xs idle. run_already _ _ _ _ c.requires.inside first c.in-Already.ensures.answer.does idle c.found-in-Already.ensures

pub returns-in-Already-clause-answered : goal.returns-in-Already-clause-answered
returns-in-Already-clause-answered c = answered_one _ _ _ _ c.in-Already.ensures.answer refl refl
