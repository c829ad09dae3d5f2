-- Inside the crate: how workers get all parts of their deques back: the last deque first, and from each worker its
-- last ticket
use Rattle.std.specs.Prelude.{◌≡◌, ◌≢◌, ℕ, ◌+◌, ◌<◌, ◌≤◌, List, [], map, length, sum_by, slice_index_or}
use Rattle.crossbeam_deque.specs.Handles.{view, worker_deque, stealer_deque, worker_flavor, SameWorker}
use Rattle.op_eval.specs.declared.explored.RunEnd.{RunEnd}
use Rattle.op_eval.specs.declared.runner.Runner.{Runner}
use Rattle.steal_explorer.specs.declared.member.Member.{Member}
use Rattle.steal_explorer.specs.Handing.{whole, log, both, came, gone}
use Rattle.steal_explorer.specs.Members.{Owner, Thief, Ticket, own, tickets_of, stolen_by, SitsAt}

-- The worker took this ticket of its deque back
pub record Regains (x : Ticket) (a b : Member) : Type 0 where
  pub owner : Owner
  pub is : b ≡ record a { owner = owner }
  pub same : SameWorker a.owner owner
  pub both_is : own b ≡ both (own a) (view x)

-- Worker i has the tickets of the first `many` deques
pub record HasStill (ts : List Thief) (many i : ℕ) (m : Member) : Type 0 where
  pub number : m.number ≡ i
  pub fifo : worker_flavor m.owner ≡ 0
  pub deque : (t : Thief) → worker_deque m.owner ≡ stealer_deque (slice_index_or ts i t)
  pub len : length (tickets_of m) ≡ many
  pub seated : (j : ℕ) (t : Thief) (x : Ticket) → j < many → j ≢ i
      → SitsAt (slice_index_or ts j t) (slice_index_or (tickets_of m) j x)
  pub guest : (x : Ticket) → i < many → view (slice_index_or (tickets_of m) i x) ≡ log 0 [] [] [] []

-- All workers have the tickets of the first `many` deques, and all parts of the other deques
pub record AreHolding (ts : List Thief) (many : ℕ) (ms : List Member) : Type 0 where
  pub len : length ms ≡ length ts
  pub few : length ts ≤ whole
  pub still : (i : ℕ) (m : Member) → i < length ms → HasStill ts many i (slice_index_or ms i m)
  pub all : (i : ℕ) (m : Member) → many ≤ i → i < length ms → (own (slice_index_or ms i m)).parts ≡ whole
  pub lent :
      (i : ℕ) (m : Member) → i < many → i < length ms → (own (slice_index_or ms i m)).parts + length ts ≡ whole + 1

-- The first j workers have given back their tickets of deque k
pub record AreRegaining (ts : List Thief) (k j : ℕ) (ms : List Member) : Type 0 where
  pub len : length ms ≡ length ts
  pub few : length ts ≤ whole
  pub given : (i : ℕ) (m : Member) → i < j → i < length ms → HasStill ts k i (slice_index_or ms i m)
  pub still : (i : ℕ) (m : Member) → j ≤ i → i < length ms → HasStill ts (k + 1) i (slice_index_or ms i m)
  pub all : (i : ℕ) (m : Member) → k < i → i < length ms → (own (slice_index_or ms i m)).parts ≡ whole
  pub lent : (i : ℕ) (m : Member) → i < k → i < length ms → (own (slice_index_or ms i m)).parts + length ts ≡ whole + 1
  pub before : (m : Member) → j ≤ k → (own (slice_index_or ms k m)).parts + length ts ≡ whole + 1 + j
  pub past : (m : Member) → k < j → (own (slice_index_or ms k m)).parts + length ts ≡ whole + j

-- The sum of h over all items that went out by the worker
abbrev pub out : (ℕ → ℕ) → Member → ℕ
out h m = gone h (own m) + stolen_by h (tickets_of m)

-- The sum of h over all items that came in by the worker
abbrev pub in_of : (ℕ → ℕ) → Member → ℕ
in_of h m = came h (own m)

-- What a worker keeps while parts of deques are given back
pub record KeptByWorker : Type 0 where
  pub runner : Runner
  pub number : ℕ
  pub end : RunEnd
  pub handed : ℕ
  pub stolen : ℕ
  pub pushed : List ℕ
  pub popped : List ℕ
  pub left : List ℕ

-- What this worker keeps
abbrev pub kept_of : Member → KeptByWorker
kept_of m = record {
  runner = m.runner;
  number = m.number;
  end = m.end;
  handed = m.handed;
  stolen = m.stolen;
  pushed = (own m).pushed;
  popped = (own m).popped;
  left = (own m).left;
}

-- Nothing came in or went out, and workers kept all they have except tickets and parts
pub record AreTotals (ms ns : List Member) : Type 0 where
  pub out_is : (h : ℕ → ℕ) → sum_by (out h) ns ≡ sum_by (out h) ms
  pub kept : map kept_of ns ≡ map kept_of ms
