-- How deques are made, and how the operations of level 1 are dealt to them
use Rattle.std.specs.Prelude.{◌≡◌, ℕ, ◌+◌, ◌%◌, ◌<◌, ◌≤◌, ◌==◌, List, [], map, filter, length, slice_index, slice_index_or}
use Rattle.crossbeam_deque.specs.Handles.{worker_deque, stealer_deque, worker_flavor, stealer_flavor, worker_view, worker_capacity, worker_index, SameWorker}
use Rattle.morph_base.specs.declared.plan.Plan.{Plan}
use Rattle.morph_base.specs.Graphs.{below}
use Rattle.morph_base.specs.Plans.{op_at, op_count}
use Rattle.op_words.specs.Hands.{up_to}
use Rattle.steal_explorer.specs.declared.deques.Deques.{Deques}
use Rattle.steal_explorer.specs.declared.deques.Seat.{Seat}
use Rattle.steal_explorer.specs.Handing.{whole, log, put}
use Rattle.steal_explorer.specs.Members.{Thief}

-- The operations of level 1, by rising number
abbrev pub level_one : Plan → List ℕ
level_one p = filter (λ o. (op_at p o).level == 1) (below (op_count p))

-- The items of the list at the places k, k + many, k + 2 * many and so on
abbrev pub dealt_to : (many k : ℕ) → List ℕ → List ℕ
dealt_to many k xs = map (slice_index xs) (filter (λ i. i % many == k) (below (length xs)))

-- What was pushed on the deque of a seat
abbrev pub pushed_on : Seat → List ℕ
pushed_on s = (worker_view s.owner).pushed

-- The operations of level 1 were dealt to the deques of the seats, in turn
abbrev pub LieIn : Plan → List Seat → Type 0
LieIn p ss =
    (k : ℕ) (s : Seat) → k < length ss → pushed_on (slice_index_or ss k s) ≡ dealt_to (length ss) k (level_one p)

-- The operations of level 1 were dealt to the deques, in turn
abbrev pub AreDealt : Plan → Deques → Type 0
AreDealt p d = LieIn p d.seats.items

-- The seat has an empty deque for `capacity` pushes, from which this thief steals, and a list for the tickets of `many`
-- deques
pub record IsOpenedSeat (capacity many : ℕ) (t : Thief) (s : Seat) : Type 0 where
  pub fifo : worker_flavor s.owner ≡ 0
  pub deque : worker_deque s.owner ≡ stealer_deque t
  pub flavor : stealer_flavor t ≡ 0
  pub bare : worker_view s.owner ≡ log whole [] [] [] []
  pub capacity_is : capacity ≤ worker_capacity s.owner
  pub index : worker_index s.owner ≡ 0
  pub handed : s.handed ≡ 0
  pub none : s.tickets.items ≡ []
  pub room : s.tickets.room ≡ many

-- Each seat has an empty deque for `capacity` pushes, from which the thief of its number steals, and a list for the
-- tickets of `many` deques
pub record AreOpened (capacity many : ℕ) (ts : List Thief) (ss : List Seat) : Type 0 where
  pub len : length ss ≡ length ts
  pub each : (k : ℕ) (t : Thief) (s : Seat) → k < length ss
      → IsOpenedSeat capacity many (slice_index_or ts k t) (slice_index_or ss k s)

-- The deque has room for this many more pushes, so that none is refused
pub record CanTake (many : ℕ) (s : Seat) : Type 0 where
  pub part : 0 < (worker_view s.owner).parts
  pub room : worker_index s.owner + many ≤ worker_capacity s.owner

-- The items xs were pushed on the deque of a seat, one after the other
pub record HasGot (xs : List ℕ) (a b : Seat) : Type 0 where
  pub same : SameWorker a.owner b.owner
  pub puts : worker_view b.owner ≡ put (worker_view a.owner) xs
  pub index : worker_index b.owner ≡ worker_index a.owner + length xs
  pub handed : (n : ℕ) → a.handed ≡ up_to n → b.handed ≡ up_to (n + length xs)
  pub tickets : b.tickets ≡ a.tickets

-- The items xs were dealt to the deques of the seats, in turn
pub record HaveGot (xs : List ℕ) (old new : List Seat) : Type 0 where
  pub len : length new ≡ length old
  pub each : (k : ℕ) (s : Seat) → k < length old
      → HasGot (dealt_to (length old) k xs) (slice_index_or old k s) (slice_index_or new k s)
