use Rattle.std.proofs.Common.{subst}
use Rattle.op_words.specs.Hands.{cap_of, call_on}
use Rattle.op_words.specs.Comparing.{IsJudgedAs}
use Rattle.op_words.proofs.Weighing.{weighed_good, weighed_bad, weighed_stale, weighed_unready}
use Rattle.op_words.proofs.board.Board.weigh.Goals as goal

pub returns-in-Good : goal.returns-in-Good
returns-in-Good c = weighed_good c.args.self.now c.args.plan.now (cap_of c.args.self.now) c.args.op c.args.hand.now c.judge-verdict.new.hand c.judge-verdict.result.0 c.in-Good.field-0
    (subst (IsJudgedAs (call_on c.args.self.now c.args.hand.now c.judge-verdict.new.hand) c.args.plan.now (cap_of c.args.self.now) c.args.op c.judge-verdict.result.0) c.in-Good.is c.judge-verdict.ensures)

pub returns-in-Bad : goal.returns-in-Bad
returns-in-Bad c = weighed_bad c.args.self.now c.args.plan.now (cap_of c.args.self.now) c.args.op c.args.hand.now c.judge-verdict.new.hand c.judge-verdict.result.0
    (subst (IsJudgedAs (call_on c.args.self.now c.args.hand.now c.judge-verdict.new.hand) c.args.plan.now (cap_of c.args.self.now) c.args.op c.judge-verdict.result.0) c.in-Bad.is c.judge-verdict.ensures)

pub returns-in-Stale : goal.returns-in-Stale
returns-in-Stale c = weighed_stale c.args.self.now c.args.plan.now (cap_of c.args.self.now) c.args.op c.args.hand.now c.judge-verdict.new.hand c.judge-verdict.result.0 c.in-Stale.j c.in-Stale.kept c.in-Stale.settled
    (subst (IsJudgedAs (call_on c.args.self.now c.args.hand.now c.judge-verdict.new.hand) c.args.plan.now (cap_of c.args.self.now) c.args.op c.judge-verdict.result.0) c.in-Stale.is c.judge-verdict.ensures)

pub returns-in-Unready : goal.returns-in-Unready
returns-in-Unready c = weighed_unready c.args.self.now c.args.plan.now (cap_of c.args.self.now) c.args.op c.args.hand.now c.judge-verdict.new.hand c.judge-verdict.result.0 c.in-Unready.at c.in-Unready.word
    (subst (IsJudgedAs (call_on c.args.self.now c.args.hand.now c.judge-verdict.new.hand) c.args.plan.now (cap_of c.args.self.now) c.args.op c.judge-verdict.result.0) c.in-Unready.is c.judge-verdict.ensures)
