-- Inside the crate: how parts of the deques are lent: the first deque first, and to worker 1 first
use Rattle.std.specs.Prelude.{◌≡◌, ◌≢◌, ℕ, ◌+◌, ◌<◌, ◌≤◌, List, [], ◌∷◌, ◌++◌, All, length, slice_index_or}
use Rattle.crossbeam_deque.specs.Handles.{view, IsPassOf, worker_deque, stealer_deque, stealer_flavor, worker_view, worker_index, SameWorker}
use Rattle.steal_explorer.specs.declared.deques.Seat.{Seat}
use Rattle.steal_explorer.specs.declared.deque_rule.Log.{Log}
use Rattle.steal_explorer.specs.Handing.{whole, log}
use Rattle.steal_explorer.specs.Members.{Owner, Thief, Ticket, stolen_by, SitsAt}

-- What a hold has done, with n parts
abbrev pub with_parts : ℕ → Log → Log
with_parts n v = log n v.pushed v.popped v.stolen v.left

-- A part of the seat's deque was lent by the ticket x
pub record LendsPart (x : Ticket) (a b : Seat) : Type 0 where
  pub owner : Owner
  pub is : b ≡ record a { owner = owner }
  pub same : SameWorker a.owner owner
  pub index : worker_index owner ≡ worker_index a.owner
  pub of : IsPassOf (worker_deque a.owner) x
  pub less : (worker_view owner).parts + 1 ≡ (worker_view a.owner).parts
  pub still : worker_view owner ≡ with_parts (worker_view owner).parts (worker_view a.owner)
  pub lent : view x ≡ log 1 [] [] [] []

-- The seat got the ticket x after its other ones
pub record Gets (x : Ticket) (a b : Seat) : Type 0 where
  pub owner : b.owner ≡ a.owner
  pub handed : b.handed ≡ a.handed
  pub items : b.tickets.items ≡ a.tickets.items ++ x ∷ []
  pub room : a.tickets.room ≡ b.tickets.room + 1

-- Worker i has the tickets of the first `many` deques, and room for those of the others
pub record HasFirstTickets (ts : List Thief) (many i : ℕ) (s : Seat) : Type 0 where
  pub deque : (t : Thief) → worker_deque s.owner ≡ stealer_deque (slice_index_or ts i t)
  pub len : length s.tickets.items ≡ many
  pub room : s.tickets.room + many ≡ length ts
  pub seated : (j : ℕ) (t : Thief) (x : Ticket) → j < many → j ≢ i
      → SitsAt (slice_index_or ts j t) (slice_index_or s.tickets.items j x)
  pub guest : (x : Ticket) → i < many → view (slice_index_or s.tickets.items i x) ≡ log 0 [] [] [] []
  pub unstolen : (h : ℕ → ℕ) → stolen_by h s.tickets.items ≡ 0

-- There is a thief for the deque of each seat. The deques are first in first out, and there are no more of them than a
-- deque has parts
pub record HaveThieves (ts : List Thief) (ss : List Seat) : Type 0 where
  pub len : length ss ≡ length ts
  pub few : length ts ≤ whole
  pub fifo : All (λ t. stealer_flavor t ≡ 0) ts

-- All workers have the tickets of the first `many` deques, and all parts of the other deques
pub record AreLent (ts : List Thief) (many : ℕ) (ss : List Seat) : Type 0 where
  pub thieves : HaveThieves ts ss
  pub first : (i : ℕ) (s : Seat) → i < length ss → HasFirstTickets ts many i (slice_index_or ss i s)
  pub all : (i : ℕ) (s : Seat) → many ≤ i → i < length ss → (worker_view (slice_index_or ss i s).owner).parts ≡ whole
  pub lent : (i : ℕ) (s : Seat) → i < many → i < length ss
      → (worker_view (slice_index_or ss i s).owner).parts + length ts ≡ whole + 1

-- All workers have the tickets of the deques before k, and the first j workers have the tickets of deque k
pub record AreLending (ts : List Thief) (k j : ℕ) (ss : List Seat) : Type 0 where
  pub thieves : HaveThieves ts ss
  pub given : (i : ℕ) (s : Seat) → i < j → i < length ss → HasFirstTickets ts (k + 1) i (slice_index_or ss i s)
  pub still : (i : ℕ) (s : Seat) → j ≤ i → i < length ss → HasFirstTickets ts k i (slice_index_or ss i s)
  pub all : (i : ℕ) (s : Seat) → k < i → i < length ss → (worker_view (slice_index_or ss i s).owner).parts ≡ whole
  pub lent : (i : ℕ) (s : Seat) → i < k → i < length ss
      → (worker_view (slice_index_or ss i s).owner).parts + length ts ≡ whole + 1
  pub before : (s : Seat) → j ≤ k → (worker_view (slice_index_or ss k s).owner).parts + j ≡ whole
  pub past : (s : Seat) → k < j → (worker_view (slice_index_or ss k s).owner).parts + j ≡ whole + 1

-- Lending left all of the seat's deque as it was except its parts
pub record KeepsSeat (a b : Seat) : Type 0 where
  pub same : SameWorker a.owner b.owner
  pub index : worker_index b.owner ≡ worker_index a.owner
  pub still : worker_view b.owner ≡ with_parts (worker_view b.owner).parts (worker_view a.owner)
  pub handed : b.handed ≡ a.handed

-- Lending left all of each seat's deque as it was except its parts
pub record KeepsSeats (old new : List Seat) : Type 0 where
  pub len : length new ≡ length old
  pub each : (k : ℕ) (s : Seat) → k < length old → KeepsSeat (slice_index_or old k s) (slice_index_or new k s)
