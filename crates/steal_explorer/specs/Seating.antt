-- Runners beside their deques
use Rattle.std.specs.Prelude.{◌≡◌, ℕ, ◌+◌, ◌<◌, ◌≤◌, List, [], All, map, length, sum_by, slice_index_or}
use Rattle.crossbeam_deque.specs.Handles.{view, worker_deque, stealer_deque, worker_flavor, worker_view, worker_capacity, worker_index}
use Rattle.morph_base.specs.declared.plan.Plan.{Plan}
use Rattle.morph_base.specs.Plans.{op_count}
use Rattle.op_words.specs.Hands.{up_to}
use Rattle.op_eval.specs.declared.explored.RunEnd.TheVariants.{Spent}
use Rattle.op_eval.specs.declared.runner.Runner.{Runner}
use Rattle.steal_explorer.specs.declared.deques.Deques.{Deques}
use Rattle.steal_explorer.specs.declared.deques.Seat.{Seat}
use Rattle.steal_explorer.specs.declared.member.Member.{Member}
use Rattle.steal_explorer.specs.Dealing.{level_one}
use Rattle.steal_explorer.specs.Handing.{whole, log}
use Rattle.steal_explorer.specs.Members.{Thief, Ticket, stolen_by, AreSeated}

-- The runner of a worker
abbrev pub runner_of : Member → Runner
runner_of m = m.runner

-- The seat of a worker
abbrev pub seat_of : Member → Seat
seat_of m = record { owner = m.owner; tickets = m.tickets; handed = m.handed }

-- Each runner is beside the seat of its number, and nothing was stolen yet
pub record AreSeatedBy (rs : List Runner) (ss : List Seat) (ms : List Member) : Type 0 where
  pub runners : map runner_of ms ≡ rs
  pub seats : map seat_of ms ≡ ss
  pub numbers : (k : ℕ) (m : Member) → k < length ms → (slice_index_or ms k m).number ≡ k
  pub unstolen : All (λ m. m.stolen ≡ 0) ms
  pub ends : All (λ m. m.end ≡ Spent) ms

-- The seat of worker k has its deque, of which each other worker has a part, with capacity for as many pushes as there
-- are operations. It has its tickets, with which it has stolen nothing
pub record IsSeat (p : Plan) (ts : List Thief) (k : ℕ) (s : Seat) : Type 0 where
  pub fifo : worker_flavor s.owner ≡ 0
  pub deque : (t : Thief) → worker_deque s.owner ≡ stealer_deque (slice_index_or ts k t)
  pub parts : (worker_view s.owner).parts + length ts ≡ whole + 1
  pub popped : (worker_view s.owner).popped ≡ []
  pub stolen : (worker_view s.owner).stolen ≡ []
  pub left : (worker_view s.owner).left ≡ []
  pub below : All (λ x. x < op_count p) (worker_view s.owner).pushed
  pub handed : s.handed ≡ up_to (length (worker_view s.owner).pushed)
  pub capacity : op_count p ≤ worker_capacity s.owner
  pub index : worker_index s.owner ≤ length (worker_view s.owner).pushed
  pub len : length s.tickets.items ≡ length ts
  pub under : AreSeated ts 0 k s.tickets.items
  pub above : AreSeated ts (k + 1) (length ts) s.tickets.items
  pub guest : (x : Ticket) → view (slice_index_or s.tickets.items k x) ≡ log 0 [] [] [] []
  pub unstolen : (h : ℕ → ℕ) → stolen_by h s.tickets.items ≡ 0

-- A batch may be explored on these deques, which have the operations of level 1, each once
pub record AreReady (p : Plan) (d : Deques) : Type 0 where
  pub len : length d.seats.items ≡ length d.thieves.items
  pub few : length d.thieves.items ≤ whole
  pub each :
      (k : ℕ) (s : Seat) → k < length d.seats.items → IsSeat p d.thieves.items k (slice_index_or d.seats.items k s)
  pub none : d.members.items ≡ []
  pub room : length d.seats.items ≤ d.members.room
  -- The items in the deques are the operations of level 1, each once
  pub dealt :
      (h : ℕ → ℕ) → sum_by (λ (s : Seat). sum_by h (worker_view s.owner).pushed) d.seats.items ≡ sum_by h (level_one p)
