-- Inside the crate: what a pipe keeps true
use Rattle.std.specs.Prelude.{◌≡◌, ℕ, ◌+◌, ◌-◌, ◌≤◌, List, ◌++◌, length, All, None}
use Rattle.morph_base.specs.Flat.{contents}
use Rattle.morph_base.specs.States.{IsUpTo}
use Rattle.event_reader.specs.Versions.{greatest_of}
use Rattle.rtrb.specs.Ring.{sent, received, known_items, known_free, producer_capacity, IsPair}
use Rattle.batch_pipe.specs.declared.items.Sent.{Sent}
use Rattle.batch_pipe.specs.declared.pipe.Pipe.TheInside.{Inside}
use Rattle.batch_pipe.specs.PlannedBatches.{IsReadyPlan, AreNumbered, CanPlan, layout_by}
use Rattle.batch_pipe.specs.PipeRounds.{PipeView}

module _ {A : Type 0} where
  -- The plans that wait in the pipe
  abbrev pub waiting_in : Inside A → List Sent
  waiting_in p = known_items p.runner.ring

  -- How many plans can wait
  abbrev pub places_in : Inside A → ℕ
  places_in p = producer_capacity p.planner.ring

  -- What contracts see of the pipe
  abbrev pub view_of : Inside A → PipeView A
  view_of p = record {
    reader = p.planner.reader;
    engine = p.runner.engine;
    waiting = waiting_in p;
    sent = p.planner.sent;
    last = p.runner.last;
    tail = p.tail;
    ahead = places_in p;
  }

  -- Between two rounds the two ends of the ring are brought together: the runner's end knows everything that was sent
  -- and not received, and the planner's end knows each free place. No value of the state is above the greatest value of
  -- what waits. No more plans were sent than lines were read
  pub record IsPipe (table_count : A → ℕ) (p : Inside A) : Type 0 where
    pub pair : IsPair p.planner.ring p.runner.ring
    pub fifo : received p.runner.ring ++ waiting_in p ≡ sent p.planner.ring
    pub room : length (waiting_in p) ≤ places_in p
    pub free : places_in p ≤ known_free p.planner.ring + length (waiting_in p)
    pub small : IsUpTo (greatest_of p.planner.reader.past.version) (contents p.runner.engine)
    pub ready : All (λ (x : Sent). IsReadyPlan p.runner.engine.layout (greatest_of p.planner.reader.past.version) x.plan) (waiting_in p)
    pub numbered : AreNumbered (p.planner.sent - length (waiting_in p)) (waiting_in p)
    pub number : length (waiting_in p) ≤ p.planner.sent
    pub counted : p.planner.sent ≤ p.planner.reader.lines.number
    pub layout : p.runner.engine.layout ≡ layout_by table_count p.planner.reader
    pub able : p.tail ≡ None → CanPlan table_count p.planner
