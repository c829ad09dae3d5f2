-- What a worker finds in a turn
use Rattle.std.specs.Prelude.{◌≡◌, ◌≢◌, ℕ, ◌+◌, ◌<◌, ◌≤◌, ◌⊎◌, Bool, true, false, List, [], ◌∷◌, length, slice_index_or}
use Rattle.crossbeam_deque.specs.Handles.{view, taken, worker_deque}
use Rattle.steal_explorer.specs.declared.find.Found.{Found}
use Rattle.steal_explorer.specs.declared.find.Found.TheVariants.{Item, Nothing, Retry}
use Rattle.steal_explorer.specs.declared.member.Member.{Member}
use Rattle.steal_explorer.specs.Handing.{stole, MayBeEmpty}
use Rattle.steal_explorer.specs.Members.{Thief, Ticket, own, tickets_of, stolen_by, taken_by}

-- The weight of the item that was found, or 0 if none was
abbrev pub weight_of : (ℕ → ℕ) → Found → ℕ
weight_of h (Item x) = h x
weight_of h Nothing = 0
weight_of h Retry = 0

-- The test whether an item was found
abbrev pub is_item : Found → Bool
is_item (Item x) = true
is_item Nothing = false
is_item Retry = false

-- What was found in all, if f was found at some deques and is no item, and then the second answer at others
abbrev pub or_then : Found → Found → Found
or_then f (Item x) = Item x
or_then f Nothing = f
or_then f Retry = Retry

-- The ticket, before and after, got no item: it learned that more items had left the deque than it knew of, or the
-- deque can be empty
abbrev pub Misses : Ticket → Ticket → Type 0
Misses x y = (view y ≡ view x) × ((taken x < taken y) ⊎ MayBeEmpty (view x))

-- The deques whose numbers are from `from` on and below `to` were each missed
abbrev pub AreMissed : List Ticket → List Ticket → (from to : ℕ) → Type 0
AreMissed xs ys from to =
    (k : ℕ) (x : Ticket) → from ≤ k → k < to → Misses (slice_index_or xs k x) (slice_index_or ys k x)

-- The worker stole with a ticket, which was x before and is y afterwards, and found f
abbrev pub Steals : Found → Ticket → Ticket → Type 0
Steals (Item i) x y = view y ≡ stole (view x) (i ∷ [])
Steals Nothing x y = (view y ≡ view x) × MayBeEmpty (view x)
Steals Retry x y = Misses x y

-- Each of these deques can be empty after its ticket has done what it has done
abbrev pub MayBeAllEmpty : List Ticket → (from to : ℕ) → Type 0
MayBeAllEmpty xs from to = (k : ℕ) (x : Ticket) → from ≤ k → k < to → MayBeEmpty (view (slice_index_or xs k x))

-- The worker stole from the deques whose numbers are from `from` on and below `to`, until one gave an item. If none
-- did, each was missed
pub record StealsAmong (from to : ℕ) (f : Found) (xs ys : List Ticket) : Type 0 where
  pub len : length ys ≡ length xs
  pub others : (k : ℕ) (x : Ticket) → (k < from) ⊎ (to ≤ k) → slice_index_or ys k x ≡ slice_index_or xs k x
  pub gets : (h : ℕ → ℕ) → stolen_by h ys ≡ stolen_by h xs + weight_of h f
  pub missed : is_item f ≡ false → AreMissed xs ys from to
  pub empty : f ≡ Nothing → MayBeAllEmpty ys from to

-- The worker stole from all deques except the one of this number, until one gave an item. If none did, each was missed
pub record StealsRound (number count : ℕ) (f : Found) (xs ys : List Ticket) : Type 0 where
  pub len : length ys ≡ length xs
  pub guest : (x : Ticket) → slice_index_or ys number x ≡ slice_index_or xs number x
  pub gets : (h : ℕ → ℕ) → stolen_by h ys ≡ stolen_by h xs + weight_of h f
  pub missed : is_item f ≡ false → AreMissed xs ys 0 number × AreMissed xs ys (number + 1) count
  pub empty : f ≡ Nothing → MayBeAllEmpty ys 0 number × MayBeAllEmpty ys (number + 1) count
  pub alone : count ≡ 1 → f ≡ Nothing

-- The worker's own deque and each other one can be empty
abbrev pub FoundEmpty : List Thief → Member → Type 0
FoundEmpty ts m =
    MayBeEmpty (own m) × MayBeAllEmpty (tickets_of m) 0 m.number
    × MayBeAllEmpty (tickets_of m) (m.number + 1) (length ts)

-- The worker's own deque can be empty, and each other one was missed
abbrev pub FoundNone : List Thief → Member → Member → Type 0
FoundNone ts a b =
    MayBeEmpty (own b) × AreMissed (tickets_of a) (tickets_of b) 0 a.number
    × AreMissed (tickets_of a) (tickets_of b) (a.number + 1) (length ts)

-- The worker found f: an item left its own deque or another one for it; or none did, and all were missed, or `Nothing`
-- says that all can be empty. Nothing else changed
pub record Finds (ts : List Thief) (f : Found) (a b : Member) : Type 0 where
  pub runner : b.runner ≡ a.runner
  pub number : b.number ≡ a.number
  pub end : b.end ≡ a.end
  pub deque : worker_deque b.owner ≡ worker_deque a.owner
  pub pushed : (own b).pushed ≡ (own a).pushed
  pub takes : (h : ℕ → ℕ) → taken_by h b ≡ taken_by h a + weight_of h f
  pub missed : is_item f ≡ false → FoundNone ts a b
  pub empty : f ≡ Nothing → FoundEmpty ts b
  pub alone : length ts ≡ 1 → f ≢ Retry
