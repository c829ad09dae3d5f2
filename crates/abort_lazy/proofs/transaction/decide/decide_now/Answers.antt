use Rattle.std.proofs.Common.{arith, sym, subst}
use Rattle.morph_base.specs.Plans.{IsPlan}
use Rattle.abort_lazy.proofs.Ending.{committed, aborted, waits_source, waits_own, waits_settled, decided_then}
use Rattle.abort_lazy.proofs.transaction.decide.decide_now.Goals as goal

pub returns-in-Committed-clause-decided : goal.returns-in-Committed-clause-decided
returns-in-Committed-clause-decided c = committed _ _ _ c.in-Committed.ensures.answer

pub returns-in-Aborted-clause-decided : goal.returns-in-Aborted-clause-decided
returns-in-Aborted-clause-decided c = aborted _ _ _ c.in-Aborted.ensures.answer

pub returns-then-op-first_of-clause-decided : goal.returns-then-op-first_of-clause-decided
returns-then-op-first_of-clause-decided c =
    waits_source _ _ _ (subst IsPlan (sym c.requires.may.1) c.requires.may.0.valid) c.requires.may.2 (omega (arith, c.if-op-first_of.true, c.first_of.ensures)) c.in-NotYet.ensures.answer

pub returns-in-Some-clause-decided : goal.returns-in-Some-clause-decided
returns-in-Some-clause-decided c =
    waits_own _ _ _ (subst IsPlan (sym c.requires.may.1) c.requires.may.0.valid) c.requires.may.2 (omega (arith, c.if-op-first_of.false, c.first_of.ensures)) c.in-NotYet.ensures.answer c.in-Some.ensures

pub decide_again-requires-clause-seen : goal.decide_again-requires-clause-seen
decide_again-requires-clause-seen c =
    waits_settled _ _ _ (subst IsPlan (sym c.requires.may.1) c.requires.may.0.valid) c.requires.may.2 (omega (arith, c.if-op-first_of.false, c.first_of.ensures)) c.in-NotYet.ensures.answer c.in-None.ensures

pub returns-in-None-clause-decided : goal.returns-in-None-clause-decided
returns-in-None-clause-decided c = let decide = c.in-NotYet.ensures.answer in decided_then _ _ decide.goes decide.none c.decide_again.ensures.decided
