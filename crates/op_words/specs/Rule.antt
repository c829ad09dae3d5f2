-- What holds of the board's table between any two steps of any hands
use Rattle.std.specs.Prelude.{◌≡◌, ◌≢◌, ℕ, ◌+◌, ◌*◌, ◌^◌, ◌≤◌, ◌<◌, ◌==◌, cond, List, [], ◌∷◌, length, Contains, Option, Some, None, slice_index, sum_by}
use Rattle.std.specs.List.{range_with_len}
use Rattle.std.specs.declared.snapshot.Snapshot.{Snapshot}
use mathlib.Core.Option.{some}
use lib.ListN.{get_elem?}
use Rattle.atomic_table.specs.Table.{State}
use Rattle.morph_base.specs.Limits.{most_attempts, most_workers}
use Rattle.morph_base.specs.declared.plan.Plan.{Plan}
use Rattle.morph_base.specs.Graphs.{below}
use Rattle.morph_base.specs.Plans.{IsPlan}
use Rattle.interleaving_core.specs.declared.entry.Entry.{Entry}
use Rattle.interleaving_core.specs.declared.entry.Settling.{Settling}
use Rattle.interleaving_core.specs.declared.event.CoreEvent.{CoreEvent}
use Rattle.interleaving_core.specs.Core.{Core}
use Rattle.interleaving_core.specs.Soundness.{IsSound}
use Rattle.interleaving_core.specs.Steps.{May, after, Run}
use Rattle.op_words.specs.declared.trail.Joined.{Joined}
use Rattle.op_words.specs.declared.trail.Place.{Place}
use Rattle.op_words.specs.declared.trail.View.{View}
use Rattle.op_words.specs.Views.{IsBookedInView, IsPresent, IsTrailNoted}
use Rattle.op_words.specs.Evidence.{AreNoted}
use Rattle.op_words.specs.Layout.{Shows, counter_base}

-- A state of the table: its words, no slots, and the view of each seat. The view of a seat is spent once its hand was
-- joined
abbrev pub Seats : Type 0
Seats = State (Unit {0}) (Option View)

-- The root's view on a new board
abbrev pub first_view : Snapshot Plan → ℕ → View
first_view plan cap =
    record {
      plan = plan;
      cap = cap;
      tag = 1;
      made = 1;
      room = 0;
      claim = None;
      published = [];
      notes = [];
      records = [];
      decisions = [];
      trail = [];
      places = [];
      events = [];
      own = [];
      settlings = [];
      joined = [];
    }

-- A number of a view, or 0 for a spent seat
abbrev pub live : (View → ℕ) → Option View → ℕ
live f None = 0
live f (Some v) = f v

-- ---- counters

-- The weight h of the number that was taken, if it was taken from counter k, else 0
abbrev pub of_counter : ℕ → (ℕ → ℕ) → Place → ℕ
of_counter k h x = cond (x.counter == k) (h x.number) 0

-- The sum of h over the numbers that a joined hand took from counter k
abbrev pub of_joined : ℕ → (ℕ → ℕ) → Joined → ℕ
of_joined k h x = sum_by (of_counter k h) x.places

-- The sum of h over the numbers that the hand and those joined into it took from counter k
abbrev pub taken : ℕ → (ℕ → ℕ) → View → ℕ
taken k h v = sum_by (of_counter k h) v.places + sum_by (of_joined k h) v.joined

-- The weight 1 of each number, so that a sum counts the numbers
abbrev pub one : ℕ → ℕ
one n = 1

-- The most numbers that a hand takes from a counter: 2^59
abbrev pub most_taken : ℕ
most_taken = 2 ^ 59

-- The numbers taken from a counter are those below it, each once
pub record HasNumbers (p : Plan) (counters : ℕ) (ws : List ℕ) (vs : List (Option View)) : Type 0 where
  pub each : (k : ℕ) → k < counters → (h : ℕ → ℕ)
      → sum_by (live (taken k h)) vs ≡ sum_by h (below (slice_index ws (counter_base p + k)))

-- ---- views

-- The sum of h over the tags of the hand and of those joined into it
abbrev pub tags : (ℕ → ℕ) → View → ℕ
tags h v = h v.tag + sum_by (λ (x : Joined). h x.tag) v.joined

-- The view v of seat i is right, if there are this many seats: its plan, cap, tag and claim are right, what it noted
-- holds in state c, each of its settlings stands in the trail of its hand, and it took at most `most_taken` numbers
-- from each counter
pub record Knows (p : Plan) (cap : ℕ) (c : Core) (count i : ℕ) (v : View) : Type 0 where
  pub plan : v.plan.value ≡ p
  pub cap_is : v.cap ≡ cap
  pub tag : v.tag ≡ i + 1
  pub root : i ≡ 0 → v.made ≡ count
  pub other : i ≢ 0 → v.joined ≡ []
  pub claim : c.claim (i + 1) ≡ v.claim
  pub noted : AreNoted p c v
  pub trail : IsTrailNoted v
  pub booked : (x : Settling) → Contains v.settlings x → IsBookedInView v x
  pub few : (k : ℕ) → sum_by (of_counter k one) v.places ≤ most_taken
  pub few_joined : (k : ℕ) → sum_by (of_joined k one) v.joined ≤ most_taken * length v.joined

-- Each value shown, each settling and each step stands in exactly one view, once. Each tag up to the number of hands is
-- that of one live hand, or of one that was joined into a live hand
pub record Sums (c : Core) (history : List CoreEvent) (vs : List (Option View)) : Type 0 where
  pub published : (h : Entry → ℕ) → sum_by (live (λ v. sum_by h v.published)) vs ≡ sum_by h c.published
  pub settlings : (h : Settling → ℕ) → sum_by (live (λ v. sum_by h v.settlings)) vs ≡ sum_by h c.settlings
  pub events : (h : CoreEvent → ℕ) → sum_by (live (λ v. sum_by h v.events)) vs ≡ sum_by h history
  pub tags_are : (h : ℕ → ℕ) → sum_by (live (tags h)) vs ≡ sum_by h (range_with_len 1 (length vs))

-- The rule of the table, which holds between any two steps of any hands: its words show a sound state of the machine
-- that some steps lead to, each view is right, and what a lone root knows last is present
pub record Lawful (p : Plan) (cap counters : ℕ) (s : Seats) : Type 0 where
  pub valid : IsPlan p
  pub small : cap < most_attempts
  -- The state of the machine that the words show, and the steps that led to it, the last one first
  pub core : Core
  pub history : List CoreEvent
  pub run : Run p cap history core
  pub sound : IsSound p cap core
  pub shows : Shows p counters core s.words
  pub hands : (i : ℕ) (v : View) → get_elem? s.views i ≡ some (Some v) → Knows p cap core (length s.views) i v
  -- Nobody else holds anything
  pub spent : (i : ℕ) → get_elem? s.views i ≡ some None → core.claim (i + 1) ≡ None
  pub nobody : (t : ℕ) → length s.views < t → core.claim t ≡ None
  pub no_worker : core.claim 0 ≡ None
  pub most : length s.views ≤ most_workers
  pub sums : Sums core history s.views
  pub numbers : HasNumbers p counters s.words s.views
  -- If the root is the only hand ever made, each word is the one that it last loaded or left, and all steps are its
  -- own. So the records and decisions, too, are those that its steps lead to
  pub alone : length s.views ≡ 1 → (v : View) → get_elem? s.views 0 ≡ some (Some v) → IsPresent p core v
  pub only : length s.views ≡ 1 → (v : View) → get_elem? s.views 0 ≡ some (Some v) → history ≡ v.events

-- ---- one step of the table

module _ (p : Plan) (cap counters : ℕ) (s : Seats) (old : Lawful p cap counters s) (t : Seats) where
  -- The step from table s to table t leaves the state of the machine as it was
  pub record Stays : Type 0 where
    pub next : Lawful p cap counters t
    pub core_is : next.core ≡ old.core
    pub history_is : next.history ≡ old.history

  -- The step from table s to table t is step e of the machine
  pub record Steps (e : CoreEvent) : Type 0 where
    pub may : May p cap old.core e
    pub next : Lawful p cap counters t
    pub core_is : next.core ≡ after p old.core e
    pub history_is : next.history ≡ e ∷ old.history
