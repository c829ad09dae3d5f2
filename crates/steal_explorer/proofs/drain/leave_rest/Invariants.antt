use Rattle.steal_explorer.proofs.Emptying.{IsLeaving, to_go}
use Rattle.steal_explorer.proofs.drain.leave_rest.Given as goal

abbrev pub invariant-loop : goal.invariant-loop
invariant-loop l = IsLeaving l.fn.member l.member

abbrev pub decreases-loop : goal.decreases-loop
decreases-loop l = to_go l.member
