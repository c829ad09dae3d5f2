use Rattle.std.proofs.Common.{refl, subst, sym}
use Rattle.morph_base.specs.Plans.{IsPlan}
use Rattle.abort_lazy.proofs.Readying.{idle_so_far, spread_source, spread_own, spread_fresh}
use Rattle.abort_lazy.proofs.Answering.{answered_none, answered_also}
use Rattle.abort_lazy.proofs.Ending.{come_first}
use Rattle.abort_lazy.proofs.transaction.prepare.redo_spread.Goals as goal

pub returns-in-Done-clause-ready : goal.returns-in-Done-clause-ready
returns-in-Done-clause-ready c = let first = come_first _ _ (subst IsPlan (sym c.requires.may.1) c.requires.may.0.valid) c.requires.may.2 in
    λ start xs old. let idle = idle_so_far _ _ _ _ c.requires.inside first c.in-Done.ensures.answer old in c.run.ensures.ready start idle.0 idle.1

pub returns-in-Done-clause-answered : goal.returns-in-Done-clause-answered
returns-in-Done-clause-answered c = answered_also _ _ _ _ refl refl refl refl c.run.ensures.answered

pub returns-in-Fresh-clause-ready : goal.returns-in-Fresh-clause-ready
returns-in-Fresh-clause-ready c = let first = come_first _ _ (subst IsPlan (sym c.requires.may.1) c.requires.may.0.valid) c.requires.may.2 in
    λ start xs old.
    spread_fresh _ _ _ _ c.requires.inside first c.in-Fresh.ensures.answer (c.peek-word.ensures.answer c.in-Fresh.ensures.answer.goes.free) old c.found.ensures

pub returns-in-Fresh-clause-answered : goal.returns-in-Fresh-clause-answered
returns-in-Fresh-clause-answered c = answered_none _ _ _ refl refl

pub returns-then-at-op-clause-ready : goal.returns-then-at-op-clause-ready
returns-then-at-op-clause-ready c = let first = come_first _ _ (subst IsPlan (sym c.requires.may.1) c.requires.may.0.valid) c.requires.may.2 in
    λ start xs old. spread_own _ _ _ _ c.requires.inside first c.if-at-op.true c.in-Not.ensures.answer old c.found-then-at-op.ensures

pub returns-then-at-op-clause-answered : goal.returns-then-at-op-clause-answered
returns-then-at-op-clause-answered c = answered_none _ _ _ refl refl

pub returns-else-at-op-clause-ready : goal.returns-else-at-op-clause-ready
returns-else-at-op-clause-ready c = let first = come_first _ _ (subst IsPlan (sym c.requires.may.1) c.requires.may.0.valid) c.requires.may.2 in
    λ start xs old. spread_source _ _ _ _ c.requires.inside first c.if-at-op.false c.in-Not.ensures.answer old

pub returns-else-at-op-clause-answered : goal.returns-else-at-op-clause-answered
returns-else-at-op-clause-answered c = answered_none _ _ _ refl refl
