use Rattle.std.proofs.Common.{◌≡◌, ◌++◌, List, true, length}
use Rattle.rtrb.specs.Ring.{known_items, received, SameConsumer}
use Rattle.batch_pipe.specs.declared.items.Sent.{Sent}
use Rattle.batch_pipe.specs.PlanRuns.{Runs, desk, manner, one_or_none}
use Rattle.batch_pipe.proofs.runner.run_waiting.Given as goal

abbrev pub invariant-loop : goal.invariant-loop
invariant-loop g l = record {
  popped : List Sent;
  run : Runs g.T.Teller.takes (manner l.host.pick l.host.workers) (desk l.fn.runner l.fn.teller) (one_or_none l.fn.first ++ popped) true (desk l.runner l.teller);
  known_is : known_items l.fn.runner.ring ≡ popped ++ known_items l.runner.ring;
  received_is : received l.runner.ring ≡ received l.fn.runner.ring ++ popped;
  many : length popped ≡ l.counter;
  ring : SameConsumer l.fn.runner.ring l.runner.ring;
  layout : l.runner.engine.layout ≡ l.fn.runner.engine.layout;
}
