-- What becomes of a batch that was explored: all events are tried, level by level, and each level part by part
use Rattle.std.specs.Prelude.{◌≡◌, ◌≢◌, ℕ, zero, suc, ◌+◌, ◌*◌, ◌<◌, ◌≤◌, ◌⊎◌, true, false, List, [], ◌∷◌, Contains, None, drop, map, max, filter, nat_lt, length, slice_index_or, sum_by}
use Rattle.morph_base.specs.declared.plan.Plan.{Plan}
use Rattle.morph_base.specs.declared.word.OpState.TheVariants.{Claimed}
use Rattle.morph_base.specs.declared.word.OpWord.{OpWord}
use Rattle.morph_base.specs.Graphs.{below}
use Rattle.morph_base.specs.Plans.{event_at, event_count, op_count, InEvent}
use Rattle.morph_base.specs.Words.{is_settled}
use Rattle.op_words.specs.declared.board.Board.{Board}
use Rattle.op_words.specs.declared.trail.Item.{Item}
use Rattle.op_words.specs.declared.trail.View.{View}
use Rattle.op_words.specs.Closing.{IsJoined}
use Rattle.op_words.specs.Counting.{times}
use Rattle.op_words.specs.Hands.{counters_of, IsHandOf}
use Rattle.op_words.specs.Trails.{loaded, IsSourceOf, IsShaken}
use Rattle.op_words.specs.Views.{IsLone, IsSettledSeen, child, merged, parent}
use Rattle.op_eval.specs.declared.answers.Left.{Left}
use Rattle.op_eval.specs.declared.runner.Runner.{Runner}
use Rattle.op_eval.specs.Exploring.{Unused}
use Rattle.op_eval.specs.Gathering.{runners_of, gathered, HasPlaces, AreAtRest}
use Rattle.op_eval.specs.Running.{hand_view}
use Rattle.abort_lazy.specs.declared.run.SettledRun.{SettledRun}
use Rattle.op_eval.specs.Turns.{TakingCall, Took, Tried, IsEnough}
use Rattle.worker_gate.specs.declared.parts.Shares.{Shares}
use Rattle.worker_gate.specs.Parts.{AreShares, part_at, part_counter, part_items, parted}
use Rattle.worker_gate.specs.Sharing.{shared_from}
use Rattle.worker_gate.specs.Stages.{InStages}
use Rattle.abort_lazy.specs.Sweeps.{MakesCalls, Swept, IsThrough, tried_by, taken_by, weight_at}

-- ---- why an event was left, over the whole trail of the hand that tried it

module _ (p : Plan) (i tag : ℕ) (trail : List Item) (at : ℕ) (w : OpWord) where
  -- A source of an operation of the event was loaded, and was not settled. This hand did not settle it either, before
  -- or later
  pub record IsLeftBySource : Type 0 where
    pub reader : ℕ
    pub inside : InEvent p i reader
    pub source : IsSourceOf p reader at
    pub seen : Contains trail (loaded at w)
    pub settled : is_settled w.state ≡ false
    pub not_mine : (t : Item) → Contains trail t → t.own ≡ true → t.op ≡ at → is_settled t.word.state ≡ true → ⊥

  -- An operation of the event was loaded. Another hand held it, or it or a source of it was disturbed
  pub record IsLeftByOwn : Type 0 where
    pub inside : InEvent p i at
    pub seen : Contains trail (loaded at w)
    pub cause : ((w.state ≡ Claimed) × (w.by ≢ tag)) ⊎ IsShaken p at trail

  -- Event i was left for one of these two causes, over the whole trail of the hand that tried it
  abbrev pub IsLeft : Type 0
  IsLeft = IsLeftBySource ⊎ IsLeftByOwn

-- ---- levels of events

-- The events of the level of this number, from 0 on
abbrev pub events_of : Plan → ℕ → List ℕ
events_of p l = slice_index_or (map (λ list. list.items) p.event_levels.items) l []

-- The event with number n in this level
abbrev pub event_in : Plan → ℕ → ℕ → ℕ
event_in p l n = slice_index_or (events_of p l) n 0

-- The events of counter k, if each level has this many parts, and each part a counter of its own
abbrev pub parted_events : Plan → (parts k : ℕ) → List ℕ
parted_events p parts k = parted (events_of p) parts k

-- The event with number n of those of counter k
abbrev pub parted_event : Plan → (parts k n : ℕ) → ℕ
parted_event p parts k n = slice_index_or (parted_events p parts k) n 0

-- How many counters there are for the events of a plan: as many as a level may have parts, for each level
abbrev pub settling_counters : Plan → ℕ
settling_counters p = 4 * length p.event_levels.items

-- How many events are of a level above this one
abbrev pub to_come : Plan → ℕ → ℕ
to_come p level = length (filter (λ i. nat_lt level (event_at p i).level) (below (event_count p)))

-- The hand saw each operation of the events up to the level settled
abbrev pub AreSettledUpTo : Plan → ℕ → View → Type 0
AreSettledUpTo p level v =
    (i : ℕ) → i < event_count p → (event_at p i).level ≤ level → (o : ℕ) → InEvent p i o → IsSettledSeen v o

-- Events were tried by rising level
abbrev pub Rising : Plan → List TakingCall → Type 0
Rising p [] = Unit {0}
Rising p (Took c n ∷ cs) = Rising p cs
Rising p (Tried j ∷ cs) = ((i : ℕ) → Contains cs (Tried i) → (event_at p i).level ≤ (event_at p j).level) × Rising p cs

-- ---- the runners

-- The runner took numbers from the counters of which `Done` holds, counted from `from` on, and tried the events of these
-- numbers, each as often as its number was taken, and no others. None of them is above this level
pub record HasTriedParts (p : Plan) (from parts level : ℕ) (Done : ℕ → Type 0) (a b : Runner) : Type 0 where
  pub calls : List TakingCall
  pub made : MakesCalls p calls a b
  pub turns : (weight : ℕ → ℕ)
      → sum_by (tried_by weight) calls
      ≡ sum_by (λ k. sum_by (taken_by (from + k) (weight_at (parted_events p parts k) weight)) calls)
      (below (settling_counters p))
  pub rising : Rising p calls
  pub below : (i : ℕ) → Contains calls (Tried i) → (event_at p i).level ≤ level
  pub only : (c n : ℕ) → Contains calls (Took c n) → (k : ℕ) × Done k × (c ≡ from + k)
  pub tried : (k n : ℕ) → Contains calls (Took (from + k) n) → n < length (parted_events p parts k)
      → Contains calls (Tried (parted_event p parts k n))
  pub inside : (i : ℕ) → Contains calls (Tried i)
      → (k : ℕ) × (n : ℕ) × Done k × (n < length (parted_events p parts k)) × (parted_event p parts k n ≡ i)
      × Contains calls (Took (from + k) n)
  -- Each cause that it kept is that of an event that it tried, and is true of its whole trail
  pub left : (x : Left) → a.kept.items ≡ [] → Contains b.kept.items x
      → Contains calls (Tried x.event) × IsLeft p x.event (hand_view b).tag (hand_view b).trail x.at x.word

-- The runner is between two parts: it holds nothing, took no number from the counters that are not done, and has this
-- much room
pub record IsSettlingParts (b : Board) (p : Plan) (from parts level : ℕ) (Done : ℕ → Type 0) (room_for : ℕ)
    (before now : Runner) : Type 0 where
  pub tried : HasTriedParts p from parts level Done before now
  pub hand : IsHandOf b now.hand
  pub free : (hand_view now).claim ≡ None
  pub unused : (k : ℕ) → (Done k → ⊥) → times (from + k) (hand_view now).places ≡ 0
  pub room : room_for ≤ now.kept.room
  pub tag : (hand_view now).tag ≡ (hand_view before).tag
  pub made : (hand_view now).made ≡ (hand_view before).made
  pub journal_room : (hand_view now).room ≡ (hand_view before).room
  pub joined : (hand_view now).joined ≡ (hand_view before).joined

-- The runner took numbers from the counters of the parts of the levels up to this one, and tried the events of these
-- numbers, each as often as its number was taken, and no others
abbrev pub HasTried : Plan → (from parts level : ℕ) → Runner → Runner → Type 0
HasTried p from parts level = HasTriedParts p from parts level (λ k. k < level * parts)

-- The runner is between two levels: it holds nothing, took no number from the counters of the levels to come, and has
-- room for what their events leave
abbrev pub IsSettling : Board → Plan → (from parts level : ℕ) → Runner → Runner → Type 0
IsSettling b p from parts level = IsSettlingParts b p from parts level (λ k. k < level * parts) (to_come p level)

-- The lone root has settled everything up to the level, and left nothing
pub record HasSettledAlone (p : Plan) (level : ℕ) (before now : Runner) : Type 0 where
  pub settled : AreSettledUpTo p level (hand_view now)
  pub none : now.kept.items ≡ before.kept.items

-- ---- what a worker did in each of its turns

-- The counter of the part of this level at which the worker of this number is in this turn
abbrev pub counter_at : Shares → (number level turn : ℕ) → ℕ
counter_at s number level turn = part_counter s.parts level (part_at s number turn)

-- The events of that part
abbrev pub events_at : Plan → Shares → (number level turn : ℕ) → List ℕ
events_at p s number level turn = part_items (events_of p level) s.parts (part_at s number turn)

-- The worker of this number made this turn at the level. If it is the first worker, or the level is shared, it went over
-- the part of this turn until it saw the part's counter run out. Else it passed over it
pub record WasAtTurn (b : Board) (p : Plan) (from : ℕ) (s : Shares) (number level turn : ℕ) (before after : Runner)
    : Type 0 where
  pub hand : IsHandOf b after.hand
  pub swept : (number ≡ 0) ⊎ (shared_from ≤ length (events_of p level))
      → Swept p (from + counter_at s number level turn) (events_at p s number level turn) before after
      × IsThrough (from + counter_at s number level turn) (events_at p s number level turn) before after
  pub passed : 0 < number → length (events_of p level) < shared_from → after ≡ before

-- The worker of this number was at the level: it made a turn for each part
abbrev pub WasAtLevel : Board → Plan → ℕ → Shares → (number level : ℕ) → Runner → Runner → Type 0
WasAtLevel b p from s number level = InStages (WasAtTurn b p from s number level) s.parts

-- All runners have gone over all levels, one after the other. Each level is cut into parts, each with a counter of the
-- board. For each part one runner saw the counter run out, and each of them did if they share the level. In any other
-- level only the first took numbers
pub record AreSettling (b : Board) (p : Plan) (from : ℕ) (start rs : List Runner) : Type 0 where
  pub shares : Shares
  pub are : AreShares shares
  pub most : shares.parts ≤ max 1 (length start)
  pub counters : from + settling_counters p ≤ counters_of b
  pub len : length rs ≡ length start
  pub each : (k : ℕ) (d : Runner) → k < length rs
      → IsSettling b p from shares.parts (length p.event_levels.items) (slice_index_or start k d)
      (slice_index_or rs k d)
  pub goes : (k : ℕ) (d : Runner) → k < length start
      → InStages (WasAtLevel b p from shares k) (length p.event_levels.items) (slice_index_or start k d)
      (slice_index_or rs k d)
  pub enough : (k : ℕ) → k < length p.event_levels.items * shares.parts
      → (w : ℕ) × (w < length rs)
      × ((d : Runner) → IsEnough (from + k) (length (parted_events p shares.parts k)) (slice_index_or rs w d))
  pub first : (l part : ℕ) → l < length p.event_levels.items → part < shares.parts
      → length (events_of p l) < shared_from → (k : ℕ) (d : Runner) → 0 < k → k < length rs
      → Unused (from + part_counter shares.parts l part) (slice_index_or rs k d)
  pub shared : (l part : ℕ) → l < length p.event_levels.items → part < shares.parts
      → shared_from ≤ length (events_of p l) → (k : ℕ) (d : Runner) → k < length rs
      → IsEnough (from + part_counter shares.parts l part) (length (part_items (events_of p l) shares.parts part))
      (slice_index_or rs k d)
  pub alone : length start ≡ 1 → (d : Runner) → IsLone (hand_view (slice_index_or start 0 d))
      → HasSettledAlone p (length p.event_levels.items) (slice_index_or start 0 d) (slice_index_or rs 0 d)

-- The runner saw each operation settled, and left nothing
pub record HasSettledAll (p : Plan) (r : Runner) : Type 0 where
  pub settled : (o : ℕ) → o < op_count p → IsSettledSeen (hand_view r) o
  pub none : r.kept.items ≡ []

-- If the root is the only hand ever made, it has settled everything
abbrev pub IsSettledByRoot : Plan → List Runner → List Runner → Type 0
IsSettledByRoot p start rs =
    length start ≡ 1 → (d : Runner) → IsLone (hand_view (slice_index_or start 0 d))
    → HasSettledAll p (slice_index_or rs 0 d)

-- ---- the end

-- Each hand that the root made is that of one of the runners, or was joined before
abbrev pub AreAllHands : List Runner → Type 0
AreAllHands rs =
    (t : ℕ) (d : Runner) → 1 < t → t ≤ (hand_view (slice_index_or rs 0 d)).made
    → IsJoined (hand_view (slice_index_or rs 0 d)) t
    ⊎ ((k : ℕ) × (0 < k) × (k < length rs) × ((hand_view (slice_index_or rs k d)).tag ≡ t))

-- The runners can be gathered
pub record IsSettledRun (r : SettledRun) : Type 0 where
  pub places : HasPlaces r.runners
  pub rest : AreAtRest r.board (runners_of r.runners)

-- The root's view after it made one more hand, and joined it as it was
abbrev pub with_idle : View → View
with_idle v = merged (parent v) (child v)

-- The root's view after it made n more hands, and joined each as it was
unfoldable pub idled : ℕ → View → View
idled zero v = v
idled (suc n) v = with_idle (idled n v)

-- The root's view after the other runners' hands were joined into it, and then those of n idle workers
abbrev pub root_view : (idle : ℕ) → Runner → List Runner → View
root_view n d rs = idled n (gathered (hand_view (slice_index_or rs 0 d)) (map hand_view (drop 1 rs)))
