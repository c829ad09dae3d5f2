use Rattle.std.proofs.Common.{refl, subst}
use Rattle.op_words.specs.Hands.{cap_of, view_of}
use Rattle.op_words.specs.Judging.{VerdictAtDoes}
use Rattle.batch_tests.proofs.stale.redo_twice.Goals as goal

pub redo-requires-in-Stale-clause-stale : goal.redo-requires-in-Stale-clause-stale
redo-requires-in-Stale-clause-stale c =
    let does = subst (VerdictAtDoes c.args.plan.now (cap_of c.args.board.now) c.args.op (view_of c.args.other.now) (view_of c.verdict_at-verdict.new.hand) c.verdict_at-verdict.result.0) c.in-Stale.is c.verdict_at-verdict.ensures.answer in
    (does.stale _ _ _ refl).1
