use Rattle.std.proofs.Common.{◌≡◌, ◌+◌, ◌-◌, ◌++◌, List, true}
use Rattle.event_reader.specs.Limits.{input_bytes}
use Rattle.rtrb.specs.Ring.{received, SameConsumer}
use Rattle.batch_pipe.specs.declared.items.Sent.{Sent}
use Rattle.batch_pipe.specs.PlanRuns.{Runs, CanGoOn, desk, manner}
use Rattle.batch_pipe.proofs.runner.run_coming.Given as goal

abbrev pub invariant-loop-sent : goal.invariant-loop-sent
invariant-loop-sent g l = record {
  popped : List Sent;
  run : Runs g.T.Teller.takes (manner l.host.pick l.host.workers) (desk l.fn.runner l.fn.teller) popped true (desk l.runner l.teller);
  received_is : received l.runner.ring ≡ received l.fn.runner.ring ++ popped;
  able : CanGoOn g.T.Teller.can_take l.host.greatest l.number l.runner l.teller;
  ring : SameConsumer l.fn.runner.ring l.runner.ring;
  layout : l.runner.engine.layout ≡ l.fn.runner.engine.layout;
  layout_is : l.layout ≡ l.fn.runner.engine.layout;
}

abbrev pub decreases-loop-sent : goal.decreases-loop-sent
decreases-loop-sent g l = input_bytes + 1 - l.number
