use Rattle.op_words.specs.Hands.{cap_of}
use Rattle.op_eval.specs.Running.{IsFreeRunner}
use Rattle.steal_explorer.proofs.Emptying.{IsClearing, to_go}
use Rattle.steal_explorer.proofs.drain.clear_rest.Given as goal

abbrev pub invariant-loop-op : goal.invariant-loop-op
invariant-loop-op l = IsFreeRunner l.ground.board.now l.member.runner × IsClearing l.ground.plan.now (cap_of l.ground.board.now) l.fn.member l.member

abbrev pub decreases-loop-op : goal.decreases-loop-op
decreases-loop-op l = to_go l.member
