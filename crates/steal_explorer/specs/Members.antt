-- A worker that explores: its runner, its deque, and what it has done at the others' deques
use Rattle.std.specs.Prelude.{◌≡◌, ℕ, ◌+◌, ◌<◌, ◌≤◌, List, [], All, length, sum_by, slice_index_or}
use Rattle.std.specs.Global.{Global}
use Rattle.crossbeam_deque.specs.declared.handles.Worker.{Worker}
use Rattle.crossbeam_deque.specs.declared.handles.Stealer.{Stealer}
use Rattle.crossbeam_deque.specs.Handles.{Pass, view, IsPassOf, worker_deque, stealer_deque, worker_flavor, stealer_flavor, worker_view}
use Rattle.morph_base.specs.declared.plan.Plan.{Plan}
use Rattle.morph_base.specs.Plans.{op_count}
use Rattle.morph_base.specs.Readers.{dependents_of}
use Rattle.op_words.specs.Hands.{up_to}
use Rattle.op_eval.specs.Running.{IsFreeRunner}
use Rattle.steal_explorer.specs.declared.deque_rule.Fair.{Fair}
use Rattle.steal_explorer.specs.declared.deque_rule.Log.{Log}
use Rattle.abort_eager.specs.declared.ground.Ground.{Ground}
use Rattle.abort_eager.specs.Grounds.{IsGround}
use Rattle.steal_explorer.specs.declared.member.Member.{Member}
use Rattle.steal_explorer.specs.Handing.{whole, log, one}

-- A deque as its own worker holds it
abbrev pub Owner : Type 0
Owner = Worker ℕ Global Log Fair

-- A deque as other workers steal from it
abbrev pub Thief : Type 0
Thief = Stealer ℕ Global Log Fair

-- A hold on one part of a deque
abbrev pub Ticket : Type 0
Ticket = Pass ℕ Log Global

-- What the worker itself has done at its own deque
abbrev pub own : Member → Log
own m = worker_view m.owner

-- The worker's tickets, one for each deque
abbrev pub tickets_of : Member → List Ticket
tickets_of m = m.tickets.items

-- The sum of h over the items that were stolen by these tickets
abbrev pub stolen_by : (ℕ → ℕ) → List Ticket → ℕ
stolen_by h xs = sum_by (λ (x : Ticket). sum_by h (view x).stolen) xs

-- The sum of h over the items that the worker popped or stole
abbrev pub taken_by : (ℕ → ℕ) → Member → ℕ
taken_by h m = sum_by h (own m).popped + stolen_by h (tickets_of m)

-- The worker's deque is first in first out, and the worker has a part of it. What it pushed are the plan's operations
pub record HasDeque (p : Plan) (m : Member) : Type 0 where
  pub fifo : worker_flavor m.owner ≡ 0
  pub part : 0 < (own m).parts
  pub below : All (λ x. x < op_count p) (own m).pushed
  pub handed : m.handed ≡ up_to (length (own m).pushed)

-- The ground's dependents are the plan's, under lazy abort too
abbrev pub HasDependents : Ground → Type 0
HasDependents g = g.dependents.now ≡ dependents_of g.plan.now

-- The worker can serve: its runner holds nothing, and its deque is in order
abbrev pub CanServe : Ground → Member → Type 0
CanServe g m = IsFreeRunner g.board.now m.runner × HasDeque g.plan.now m

-- The worker may serve operation o of the ground's plan
abbrev pub MayServe : Ground → Member → (o : ℕ) → Type 0
MayServe g m o = IsGround g × (o < op_count g.plan.now) × CanServe g m

-- The ticket has one part of this deque, which is first in first out, and stole from it and did nothing else
pub record SitsAt (t : Thief) (x : Ticket) : Type 0 where
  pub of : IsPassOf (stealer_deque t) x
  pub fifo : stealer_flavor t ≡ 0
  pub view_is : view x ≡ log 1 [] [] (view x).stolen []

-- For each deque whose number is from `from` on and below `to`, the ticket has one part of it, and stole from it and
-- did nothing else
abbrev pub AreSeated : List Thief → (from to : ℕ) → List Ticket → Type 0
AreSeated ts from to xs =
    (k : ℕ) (t : Thief) (x : Ticket) → from ≤ k → k < to → SitsAt (slice_index_or ts k t) (slice_index_or xs k x)

-- The worker has lent one part of its deque to each other worker, and has a ticket with one part of each other deque
pub record HasTickets (ts : List Thief) (m : Member) : Type 0 where
  pub inside : m.number < length ts
  pub few : length ts ≤ whole
  pub deque : (t : Thief) → worker_deque m.owner ≡ stealer_deque (slice_index_or ts m.number t)
  pub parts : (own m).parts + length ts ≡ whole + 1
  pub bare_stolen : (own m).stolen ≡ []
  pub bare_left : (own m).left ≡ []
  pub len : length (tickets_of m) ≡ length ts
  pub under : AreSeated ts 0 m.number (tickets_of m)
  pub above : AreSeated ts (m.number + 1) (length ts) (tickets_of m)
  pub guest : (x : Ticket) → view (slice_index_or (tickets_of m) m.number x) ≡ log 0 [] [] [] []
  pub stolen : m.stolen ≡ up_to (stolen_by one (tickets_of m))

-- The worker may take turns, or has taken them
pub record IsWorkerOf (g : Ground) (ts : List Thief) (m : Member) : Type 0 where
  pub idle : IsFreeRunner g.board.now m.runner
  pub deque : HasDeque g.plan.now m
  pub tickets : HasTickets ts m
