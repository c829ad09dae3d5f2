use Rattle.std.proofs.Common.{◌≡◌, take}
use Rattle.interleaving_core.specs.Core.{start}
use Rattle.interleaving_core.specs.Orders.{Leads}
use Rattle.interleaving_core.specs.Stored.{core_of, cap_of, IsStateOf}
use Rattle.run_checker.proofs.replay.replay.Given as goal

-- the machine took the events so far
abbrev pub invariant-loop-n : goal.invariant-loop-n
invariant-loop-n l = record {
  leads : Leads l.plan (cap_of l.fn.state) start (take l.n l.journal) (core_of l.state);
  state : IsStateOf l.plan l.state;
  cap : cap_of l.state ≡ cap_of l.fn.state;
}
