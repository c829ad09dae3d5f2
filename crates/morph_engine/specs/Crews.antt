-- The workers who explore a batch by deques, and the others, who wait
use Rattle.std.specs.Prelude.{◌≡◌, ℕ, ◌+◌, ◌<◌, ◌≤◌, List, [], None, All, length}
use Rattle.morph_base.specs.declared.plan.Plan.{Plan}
use Rattle.op_words.specs.declared.board.Board.{Board}
use Rattle.op_words.specs.Hands.{plan_of, IsHandOf}
use Rattle.op_eval.specs.declared.runner.Runner.{Runner}
use Rattle.op_eval.specs.Exploring.{IsExploring, Unused}
use Rattle.op_eval.specs.Running.{hand_view}
use Rattle.steal_explorer.specs.Seating.{AreReady}
use Rattle.morph_engine.specs.declared.crew.Crew.{Crew}

-- The crew has deques that hold the operations of level 1, one for each of the first workers, and room for the runners
-- of the others
pub record IsCrew (p : Plan) (workers : ℕ) (c : Crew) : Type 0 where
  pub ready : AreReady p c.deques
  pub some : 0 < length c.deques.seats.items
  pub all : length c.deques.seats.items + c.idle ≡ workers
  pub none : c.waiting.items ≡ []
  pub room : c.idle ≤ c.waiting.room

-- The runners hold nothing, and can go on to settling: each has room for what the plan's events leave, and took no
-- number from a counter
pub record AreWaiting (b : Board) (rs : List Runner) : Type 0 where
  pub hands : All (λ r. IsHandOf b r.hand) rs
  pub free : All (λ r. (hand_view r).claim ≡ None) rs
  pub exploring : All (IsExploring (plan_of b)) rs
  pub unused : (c : ℕ) → All (Unused c) rs
