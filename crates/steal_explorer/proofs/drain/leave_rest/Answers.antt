use Rattle.std.proofs.Common.{arith}
use Rattle.steal_explorer.proofs.Emptying.{leaving_none, leaving_more, leaving_less, all_left}
use Rattle.steal_explorer.proofs.Holds.{leaves}
use Rattle.steal_explorer.proofs.drain.leave_rest.Goals as goal

pub loop-init : goal.loop-init
loop-init c = leaving_none c.args.member.now c.requires.fifo c.requires.all

pub pop_as-requires-clause-fifo : goal.pop_as-requires-clause-fifo
pop_as-requires-clause-fifo c = λ _. leaves _ _ (let all = c.loop.invariant.all in omega arith)

pub loop-preserved : goal.loop-preserved
loop-preserved c = leaving_more c.args.member.now c.loop.member c.loop.invariant c.pop_as.new.self c.in-Some.field-0 c.pop_as.ensures.same.0 c.in-Some.ensures.rule.0 c.in-Some.ensures.rule.1

pub loop-smaller : goal.loop-smaller
loop-smaller c = leaving_less c.args.member.now c.loop.member c.loop.invariant c.pop_as.new.self c.in-Some.field-0 c.pop_as.ensures.same.0 c.in-Some.ensures.rule.0 c.in-Some.ensures.rule.1

pub returns : goal.returns
returns c = all_left c.args.member.now c.loop.member c.loop.invariant c.pop_as.new.self c.pop_as.ensures.same.0 c.in_default.ensures.rule.0 c.in_default.ensures.rule.1
