use Rattle.std.specs.Prelude.{take}
use Rattle.steal_explorer.specs.Dealing.{HaveGot}
use Rattle.steal_explorer.proofs.deal.deal_all.Given as goal

abbrev pub invariant-loop-i : goal.invariant-loop-i
invariant-loop-i l = HaveGot (take l.i l.ops) l.fn.seats l.seats
