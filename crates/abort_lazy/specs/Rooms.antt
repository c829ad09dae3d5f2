-- The memory of a `Settled`, and how far it is filled
use Rattle.std.specs.Prelude.{◌≡◌, ℕ, ◌+◌, ◌≤◌, [], map}
use Rattle.morph_base.specs.declared.plan.Plan.{Plan}
use Rattle.morph_base.specs.declared.plan.Settled.{Settled}
use Rattle.morph_base.specs.Graphs.{below}
use Rattle.morph_base.specs.Plans.{op_count, event_count, verdict}
use Rattle.abort_lazy.specs.declared.room.Room.{Room}

-- The lists are empty, and have room for the operations and the events of the plan
pub record IsRoomFor (p : Plan) (r : Room) : Type 0 where
  pub no_value : r.values.items ≡ []
  pub no_verdict : r.committed.items ≡ []
  pub no_worker : r.by.items ≡ []
  pub values : op_count p ≤ r.values.room
  pub verdicts : event_count p ≤ r.committed.room
  pub workers : op_count p ≤ r.by.room

-- The list has the verdicts on the first i events, and room for the others
pub record AreDecidedSoFar (p : Plan) (i : ℕ) (r : Settled) : Type 0 where
  pub verdicts : r.committed.items ≡ map (verdict p) (below i)
  pub room : event_count p ≤ r.committed.room + i
