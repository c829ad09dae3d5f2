use Rattle.std.proofs.Common.{subst, sym}
use Rattle.morph_base.specs.Plans.{IsPlan}
use Rattle.op_words.specs.Hands.{cap_of, view_of}
use Rattle.op_words.specs.Judging.{VerdictAtDoes}
use Rattle.abort_lazy.proofs.Readying.{judged_good, judged_bad, judged_stale, judged_own, judged_source}
use Rattle.abort_lazy.proofs.Ending.{come_first}
use Rattle.abort_lazy.proofs.transaction.prepare.judge.Goals as goal

pub returns-in-Good-clause-ready : goal.returns-in-Good-clause-ready
returns-in-Good-clause-ready c = let first = come_first _ _ (subst IsPlan (sym c.requires.may.1) c.requires.may.0.valid) c.requires.may.2 in
    λ start xs made. judged_good _ _ _ _ c.requires.inside first (subst (VerdictAtDoes c.args.plan.now (cap_of c.args.board.now) c.args.op (view_of c.args.hand.now) (view_of c.verdict_at-verdict.new.hand) c.verdict_at-verdict.result.0) c.in-Good.is c.verdict_at-verdict.ensures.answer) made

pub returns-in-Bad-clause-ready : goal.returns-in-Bad-clause-ready
returns-in-Bad-clause-ready c = let first = come_first _ _ (subst IsPlan (sym c.requires.may.1) c.requires.may.0.valid) c.requires.may.2 in
    λ start xs made. judged_bad _ _ _ _ c.requires.inside first ((subst (VerdictAtDoes c.args.plan.now (cap_of c.args.board.now) c.args.op (view_of c.args.hand.now) (view_of c.verdict_at-verdict.new.hand) c.verdict_at-verdict.result.0) c.in-Bad.is c.verdict_at-verdict.ensures.answer).answer) made

pub returns-in-Stale-clause-ready : goal.returns-in-Stale-clause-ready
returns-in-Stale-clause-ready c = let first = come_first _ _ (subst IsPlan (sym c.requires.may.1) c.requires.may.0.valid) c.requires.may.2 in
    let does = (subst (VerdictAtDoes c.args.plan.now (cap_of c.args.board.now) c.args.op (view_of c.args.hand.now) (view_of c.verdict_at-verdict.new.hand) c.verdict_at-verdict.result.0) c.in-Stale.is c.verdict_at-verdict.ensures.answer).answer in
    λ start xs made. judged_stale _ _ _ _ c.requires.inside first does (c.peek-word.ensures.answer does.goes.free) made c.found.ensures

pub returns-then-at-op-clause-ready : goal.returns-then-at-op-clause-ready
returns-then-at-op-clause-ready c = let first = come_first _ _ (subst IsPlan (sym c.requires.may.1) c.requires.may.0.valid) c.requires.may.2 in
    λ start xs made. judged_own _ _ _ _ c.requires.inside first c.if-at-op.true ((subst (VerdictAtDoes c.args.plan.now (cap_of c.args.board.now) c.args.op (view_of c.args.hand.now) (view_of c.verdict_at-verdict.new.hand) c.verdict_at-verdict.result.0) c.in-Unready.is c.verdict_at-verdict.ensures.answer).answer) made c.found-then-at-op.ensures

pub returns-else-at-op-clause-ready : goal.returns-else-at-op-clause-ready
returns-else-at-op-clause-ready c = let first = come_first _ _ (subst IsPlan (sym c.requires.may.1) c.requires.may.0.valid) c.requires.may.2 in
    λ start xs made. judged_source _ _ _ _ c.requires.inside first c.if-at-op.false ((subst (VerdictAtDoes c.args.plan.now (cap_of c.args.board.now) c.args.op (view_of c.args.hand.now) (view_of c.verdict_at-verdict.new.hand) c.verdict_at-verdict.result.0) c.in-Unready.is c.verdict_at-verdict.ensures.answer).answer) made
