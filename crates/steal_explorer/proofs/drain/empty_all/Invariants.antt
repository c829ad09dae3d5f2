use Rattle.op_words.specs.Hands.{cap_of}
use Rattle.steal_explorer.proofs.Emptying.{AreEmptying}
use Rattle.steal_explorer.proofs.drain.empty_all.Given as goal

abbrev pub invariant-loop-k : goal.invariant-loop-k
invariant-loop-k l = AreEmptying l.ground.board.now l.ground.plan.now (cap_of l.ground.board.now) l.k l.fn.members l.members
