use Rattle.std.proofs.Common.{refl, subst}
use Rattle.op_words.specs.Hands.{cap_of, view_of}
use Rattle.op_words.specs.Judging.{VerdictAtDoes}
use Rattle.op_eval.specs.Running.{hand_view}
use Rattle.abort_lazy.specs.declared.transaction.standing.Standing.TheVariants.{Good}
use Rattle.abort_lazy.proofs.Readying.{first_good}
use Rattle.abort_lazy.proofs.Answering.{answered_none}
use Rattle.abort_lazy.proofs.transaction.prepare.prepare.Goals as goal

pub returns-in-Good-clause-ready : goal.returns-in-Good-clause-ready
returns-in-Good-clause-ready c = record {
  standing = Good c.verdict_at-verdict.result.0;
  ready = first_good _ _ _ _ c.requires.inside (subst (VerdictAtDoes c.args.plan.now (cap_of c.args.board.now) c.args.op (hand_view c.args.runner.now) (view_of c.verdict_at-verdict.new.hand) c.verdict_at-verdict.result.0) c.in-Good.is c.verdict_at-verdict.ensures.answer);
  heard = rw c.without_worker.ensures at c.keep.ensures;
}

pub returns-in-Good-clause-answered : goal.returns-in-Good-clause-answered
returns-in-Good-clause-answered c = answered_none _ _ _ refl refl
