use Rattle.std.proofs.Common.{refl, subst}
use Rattle.op_words.specs.Hands.{cap_of, view_of}
use Rattle.op_words.specs.Judging.{VerdictAtDoes}
use Rattle.abort_lazy.proofs.Readying.{first_good, first_bad, first_stale, first_own, first_source}
use Rattle.abort_lazy.proofs.Answering.{answered_none, answered_also}
use Rattle.abort_lazy.proofs.transaction.prepare.stand_by.Goals as goal

pub returns-in-Good-clause-ready : goal.returns-in-Good-clause-ready
returns-in-Good-clause-ready c = λ start does. first_good _ _ _ _ c.requires.inside (subst (VerdictAtDoes c.args.plan.now (cap_of c.args.board.now) c.args.op start (view_of c.args.runner.now.hand) c.args.word) c.in-Good.is does)

pub returns-in-Good-clause-answered : goal.returns-in-Good-clause-answered
returns-in-Good-clause-answered c = answered_none _ _ _ refl refl

pub returns-in-Bad-clause-ready : goal.returns-in-Bad-clause-ready
returns-in-Bad-clause-ready c = λ start does. first_bad _ _ _ _ c.requires.inside ((subst (VerdictAtDoes c.args.plan.now (cap_of c.args.board.now) c.args.op start (view_of c.args.runner.now.hand) c.args.word) c.in-Bad.is does).answer)

pub returns-in-Bad-clause-answered : goal.returns-in-Bad-clause-answered
returns-in-Bad-clause-answered c = answered_none _ _ _ refl refl

pub redo_stale-requires-clause-stale : goal.redo_stale-requires-clause-stale
redo_stale-requires-clause-stale c = (c.requires.judged.1.stale _ _ _ c.in-Stale.is).1

pub returns-in-Stale-clause-ready : goal.returns-in-Stale-clause-ready
returns-in-Stale-clause-ready c = λ start does. let old = first_stale _ _ _ _ c.requires.inside (subst (VerdictAtDoes c.args.plan.now (cap_of c.args.board.now) c.args.op start (view_of c.args.runner.now.hand) c.args.word) c.in-Stale.is does) in c.redo_stale.ensures.ready _ old.0 old.1

pub returns-in-Stale-clause-answered : goal.returns-in-Stale-clause-answered
returns-in-Stale-clause-answered c = answered_also _ _ _ _ refl refl refl refl c.redo_stale.ensures.answered

pub returns-then-at-op-clause-ready : goal.returns-then-at-op-clause-ready
returns-then-at-op-clause-ready c = λ start does. let found = first_own _ _ _ _ c.requires.inside c.if-at-op.true ((subst (VerdictAtDoes c.args.plan.now (cap_of c.args.board.now) c.args.op start (view_of c.args.runner.now.hand) c.args.word) c.in-Unready.is does).answer) in c.mend.ensures.ready _ found.0 found.1

pub returns-then-at-op-clause-answered : goal.returns-then-at-op-clause-answered
returns-then-at-op-clause-answered c = answered_also _ _ _ _ refl refl refl refl c.mend.ensures.answered

pub returns-else-at-op-clause-ready : goal.returns-else-at-op-clause-ready
returns-else-at-op-clause-ready c = λ start does. first_source _ _ _ _ c.requires.inside c.if-at-op.false ((subst (VerdictAtDoes c.args.plan.now (cap_of c.args.board.now) c.args.op start (view_of c.args.runner.now.hand) c.args.word) c.in-Unready.is does).answer)

pub returns-else-at-op-clause-answered : goal.returns-else-at-op-clause-answered
returns-else-at-op-clause-answered c = answered_none _ _ _ refl refl
