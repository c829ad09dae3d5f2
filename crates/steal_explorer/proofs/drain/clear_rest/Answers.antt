use Rattle.std.proofs.Common.{arith}
use Rattle.steal_explorer.proofs.Emptying.{clearing_none, clearing_more, clearing_less, all_cleared}
use Rattle.steal_explorer.proofs.Holds.{pops}
use Rattle.steal_explorer.proofs.drain.clear_rest.Goals as goal

pub loop-op-init : goal.loop-op-init
loop-op-init c = (c.requires.idle, clearing_none _ _ c.args.member.now c.requires.fifo c.requires.all)

pub pop_as-requires-clause-fifo : goal.pop_as-requires-clause-fifo
pop_as-requires-clause-fifo c = λ _. pops _ _ (let all = c.loop-op.invariant.1.all in omega arith)

pub loop-op-preserved : goal.loop-op-preserved
loop-op-preserved c = (
  c.walk_known.ensures.idle,
  clearing_more _ _ c.args.member.now c.loop-op.member c.loop-op.invariant.1 c.pop_as.new.self c.in-Some.op c.pop_as.ensures.same.0 c.in-Some.ensures.rule.0 c.in-Some.ensures.rule.1 c.args.ground.now.units.now.units c.args.ground.now.abort c.walk_known.new.runner c.walk_known.ensures.walked,
)

pub loop-op-smaller : goal.loop-op-smaller
loop-op-smaller c = clearing_less _ _ c.args.member.now c.loop-op.member c.loop-op.invariant.1 c.pop_as.new.self c.in-Some.op c.pop_as.ensures.same.0 c.in-Some.ensures.rule.0 c.in-Some.ensures.rule.1

pub returns-clause-cleared : goal.returns-clause-cleared
returns-clause-cleared c = all_cleared _ _ c.args.member.now c.loop-op.member c.loop-op.invariant.1 c.pop_as.new.self c.pop_as.ensures.same.0 c.in_default.ensures.rule.0 c.in_default.ensures.rule.1
