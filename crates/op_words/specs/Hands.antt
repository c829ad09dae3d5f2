-- The board and its hands, as contracts see them
use Rattle.std.specs.Prelude.{◌≡◌, ℕ, ◌-◌, ◌^◌, ◌≤◌, ◌<◌, List, [], ◌∷◌, ◌++◌, length, take, min, All, Option, Some, None}
use Rattle.morph_base.specs.declared.limits.TheConstants.{MAX, READS}
use Rattle.morph_base.specs.Limits.{most_attempts}
use Rattle.morph_base.specs.declared.plan.Plan.{Plan}
use Rattle.morph_base.specs.OpLists.{op_list}
use Rattle.morph_base.specs.Plans.{IsPlan, op_count}
use Rattle.interleaving_core.specs.declared.entry.Held.{Held}
use Rattle.interleaving_core.specs.declared.event.CoreEvent.{CoreEvent}
use Rattle.interleaving_core.specs.Counts.{evaluated, spreads, rolled}
use Rattle.interleaving_core.specs.Steps.{IsWorker}
use Rattle.op_words.specs.declared.answers.Counts.{Counts}
use Rattle.op_words.specs.declared.trail.View.{View}
use Rattle.op_words.specs.declared.board.Board.{Board}
use Rattle.op_words.specs.declared.board.Hand.{Hand}
use Rattle.op_words.specs.declared.board.Holding.{Holding}
use Rattle.op_words.specs.Journals.{IsJournal}
use Rattle.op_words.specs.Plays.{IsTold}

-- The plan of a board
abbrev pub plan_of : Board → Plan
plan_of b = b.table.shared.key.plan.value

-- The cap of a board, the last attempt at which values that are not settled may be read
abbrev pub cap_of : Board → ℕ
cap_of b = b.table.shared.key.cap

-- How many counters a board has
abbrev pub counters_of : Board → ℕ
counters_of b = b.table.shared.key.counters

-- A plan without events
abbrev pub no_plan : Plan
no_plan =
    record {
      events = record { items = []; room = 0 };
      ops = op_list [] [];
      op_levels = record { items = []; room = 0 };
      event_levels = record { items = []; room = 0 };
      edges = record { temporal = 0; parametric = 0; logical = 0 };
    }

-- A view that says nothing, which no hand has
abbrev pub no_view : View
no_view =
    record {
      plan = record { marker = record {}; value = no_plan };
      cap = 0;
      tag = 0;
      made = 0;
      room = 0;
      claim = None;
      published = [];
      notes = [];
      records = [];
      decisions = [];
      trail = [];
      places = [];
      events = [];
      own = [];
      settlings = [];
      joined = [];
    }

-- The view, if there is one
abbrev pub view_in : Option View → View
view_in None = no_view
view_in (Some v) = v

-- The view of a hand, which is what contracts see of it
abbrev pub view_of : Hand → View
view_of h = view_in h.seat.me.0

-- What a call on a board did: the board, and the hand before the call and after it
pub record HandCall : Type 0 where
  pub board : Board
  pub before : Hand
  pub after : Hand

-- The call on this board that took the hand from one state to the other
abbrev pub call_on : Board → Hand → Hand → HandCall
call_on board before after = record { board = board; before = before; after = after }

-- ---- what a hand keeps while it runs

-- The values that were fetched for the operation that is held
abbrev pub fetched_of : Holding → List ℕ
fetched_of k = take k.count k.values

-- What is held, as contracts see it
abbrev pub held_of : Option Holding → Option Held
held_of None = None
held_of (Some k) = Some (record { op = k.op; attempt = k.attempt; values = fetched_of k })

-- The operation that is held is at one of the attempts, and has a value for each place that was fetched
pub record HasHeldValues (k : Holding) : Type 0 where
  pub first : 1 ≤ k.attempt
  pub last : k.attempt ≤ most_attempts
  pub count : k.count ≤ READS
  pub len : length k.values ≡ READS
  pub small : All (λ x. x ≤ MAX) (fetched_of k)

-- The operation o was claimed at attempt a, and nothing was fetched for it yet
pub record IsBegun (o a : ℕ) (k : Holding) : Type 0 where
  pub op : k.op ≡ o
  pub attempt : k.attempt ≡ a
  pub count : k.count ≡ 0
  pub len : length k.values ≡ READS

-- For the operation that is held the value x was fetched too
pub record HasOneMore (k : Holding) (x : ℕ) (m : Holding) : Type 0 where
  pub op : m.op ≡ k.op
  pub attempt : m.attempt ≡ k.attempt
  pub values : fetched_of m ≡ fetched_of k ++ x ∷ []
  pub fits : HasHeldValues m

-- The number n, or the greatest u64 if n is above it
abbrev pub up_to : ℕ → ℕ
up_to n = min n (2 ^ 64 - 1)

-- How many operations the steps evaluated, spread and rolled back
abbrev pub counts_of : List CoreEvent → Counts
counts_of es = record { evaluated = up_to (evaluated es); spread = up_to (spreads es); rolled = up_to (rolled es) }

-- The operation that is held, if there is one
abbrev pub op_held : Option Held → Option ℕ
op_held None = None
op_held (Some h) = Some h.op

-- The hand is one of this board's: one that `new`, `split` and other calls of it lead to
pub record IsHandOf (b : Board) (h : Hand) : Type 0 where
  pub table : h.seat.table_id ≡ b.table.shared.table_id
  pub seat : h.seat.me ≡ (Some (view_of h), [])
  pub plan : (view_of h).plan.value ≡ plan_of b
  pub cap : (view_of h).cap ≡ cap_of b
  pub valid : IsPlan (plan_of b)
  pub small : cap_of b < most_attempts
  pub worker : IsWorker (view_of h).tag
  pub counted : (view_of h).tag ≡ 1 → 1 ≤ (view_of h).made
  pub tag : h.tag ≡ (view_of h).tag
  pub made : h.made ≡ (view_of h).made
  pub held : held_of h.held ≡ (view_of h).claim
  pub fits : (k : Holding) → h.held ≡ Some k → HasHeldValues k
  pub counts : h.counts ≡ counts_of (view_of h).events
  pub journal : IsJournal (view_of h) h.journal
  -- The settled words that it saw are one for each operation, and it noted its trail. If it is the only hand ever made,
  -- its own steps lead to a state whose words are the ones that it last loaded or left
  pub told : IsTold (view_of h)

-- ---- what a call of the board asks for

-- A call may use hand h for operation o of plan p: the hand is one of the board's, and the plan is the board's and has
-- the operation
abbrev pub MayCall : Board → (h : Hand) → (p : Plan) → (o : ℕ) → Type 0
MayCall b h p o = IsHandOf b h × (p ≡ plan_of b) × (o < op_count p)

-- A call may use hand h for operation o of plan p, and the hand holds nothing
abbrev pub MayBegin : Board → (h : Hand) → (p : Plan) → (o : ℕ) → Type 0
MayBegin b h p o = IsHandOf b h × (p ≡ plan_of b) × (o < op_count p) × ((view_of h).claim ≡ None)
