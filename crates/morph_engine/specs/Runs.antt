-- What a batch takes its memory for, and what its board shows after its end
use Rattle.std.specs.Prelude.{◌≡◌, ℕ, ◌+◌, ◌*◌, ◌<◌, ◌≤◌, ◌⊎◌, List, [], Contains, length, slice_index, slice_index_or}
use Rattle.morph_base.specs.declared.plan.Plan.{Plan}
use Rattle.morph_base.specs.declared.strategy.Abort.{Abort}
use Rattle.morph_base.specs.declared.strategy.Abort.TheVariants.{Lazy}
use Rattle.morph_base.specs.declared.strategy.Explore.{Explore}
use Rattle.morph_base.specs.declared.strategy.Explore.TheVariants.{Strata, Steal}
use Rattle.morph_base.specs.Guesses.{stale_count}
use Rattle.morph_base.specs.Limits.{most_workers}
use Rattle.morph_base.specs.Plans.{op_count}
use Rattle.chain_units.specs.Places.{IsPartition}
use Rattle.interleaving_core.specs.declared.event.CoreEvent.{CoreEvent}
use Rattle.interleaving_core.specs.Core.{IsSettledIn}
use Rattle.interleaving_core.specs.Counts.{evaluated, rolled}
use Rattle.op_words.specs.declared.closed.Closed.{Closed}
use Rattle.op_words.specs.declared.trail.Item.{Item}
use Rattle.op_words.specs.declared.trail.Joined.{Joined}
use Rattle.op_words.specs.declared.trail.Place.{Place}
use Rattle.op_words.specs.declared.trail.View.{View}
use Rattle.op_words.specs.Closing.{IsClosed}
use Rattle.op_words.specs.Counting.{place}
use Rattle.op_words.specs.Hands.{plan_of, cap_of, counters_of}
use Rattle.op_words.specs.Trails.{IsReached}
use Rattle.op_eval.specs.declared.answers.Left.{Left}
use Rattle.op_eval.specs.declared.runner.Runner.{Runner}
use Rattle.op_eval.specs.Exploring.{MayExplore}
use Rattle.op_eval.specs.Gathering.{runners_of}
use Rattle.op_eval.specs.Running.{hand_view}
use Rattle.strata_explorer.specs.Levels.{counters_for}
use Rattle.abort_lazy.specs.Ended.{AreCauses, causes}
use Rattle.abort_lazy.specs.Finishing.{settler}
use Rattle.abort_lazy.specs.Rooms.{IsRoomFor}
use Rattle.abort_lazy.specs.Runs.{events_of, settling_counters}
use Rattle.worker_gate.specs.Parts.{part_counter, part_items}
use Rattle.worker_gate.specs.Sharing.{shared_from}
use Rattle.morph_engine.specs.declared.prepared.Prepared.{Prepared}
use Rattle.morph_engine.specs.Caps.{cap_for}
use Rattle.morph_engine.specs.Teams.{IsTeam}
use Rattle.morph_engine.specs.Exploring.{explore_of, IsSupply, HasDependentsFor, Items, AreBalanced, AreOwn, AreNamed}

-- ---- before

-- The runners' hands are all that were made, worker w has tag w, and they have loaded, left and joined nothing
pub record AreFirstRunners (rs : List Runner) : Type 0 where
  pub tags : (k : ℕ) (d : Runner) → k < length rs → (hand_view (slice_index_or rs k d)).tag ≡ k + 1
  pub made : (d : Runner) → (hand_view (slice_index_or rs 0 d)).made ≡ length rs
  pub joined : (d : Runner) → (hand_view (slice_index_or rs 0 d)).joined ≡ []
  pub trail : (d : Runner) → (hand_view (slice_index_or rs 0 d)).trail ≡ []
  pub notes : (d : Runner) → (hand_view (slice_index_or rs 0 d)).notes ≡ []

-- How many workers there are: those who take part, and the idle ones
abbrev pub workers_of : Prepared → ℕ
workers_of x = length (runners_of x.runners) + x.idle

-- The memory for a batch is taken: a board for the plan, with the cap of its abort and counters for exploring and for
-- settling; units; runners that can explore; what they take operations from; the dependents, if they are
-- needed; and room for what is settled
pub record IsPrepared (p : Plan) (x : Prepared) : Type 0 where
  pub plan : plan_of x.board ≡ p
  pub cap : cap_of x.board ≡ cap_for x.abort
  pub counters : counters_of x.board ≡ counters_for p + settling_counters p
  pub partition : IsPartition x.units.units (op_count p)
  pub number : x.units.ops ≡ op_count p
  pub ready : MayExplore x.board 0 x.runners
  pub first : AreFirstRunners (runners_of x.runners)
  pub few : workers_of x ≤ most_workers
  pub team : IsTeam p (workers_of x) (length (runners_of x.runners))
  pub supply : IsSupply p (length (runners_of x.runners)) x.supply
  pub dependents : HasDependentsFor p (explore_of x.supply) x.abort x.dependents
  pub room : IsRoomFor p x.room

-- The root's hand has room for n steps in its journal
abbrev pub HasJournalRoom : ℕ → Prepared → Type 0
HasJournalRoom n x = (d : Runner) → (hand_view (slice_index_or (runners_of x.runners) 0 d)).room ≡ n

-- ---- after

-- The root, or a hand that was joined into it, has this tag, and left this trail and these places
abbrev pub HasHand : View → (tag : ℕ) → List Item → List Place → Type 0
HasHand v tag trail places =
    ((v.tag ≡ tag) × (v.trail ≡ trail) × (v.places ≡ places))
    ⊎ ((x : Joined) × Contains v.joined x × (x.tag ≡ tag) × (x.trail ≡ trail) × (x.places ≡ places))

-- Place n of counter c was taken by a hand, and operation o was reached in that hand's trail
pub record IsPlaceReached (p : Plan) (v : View) (c n o : ℕ) : Type 0 where
  pub tag : ℕ
  pub trail : List Item
  pub places : List Place
  pub hand : HasHand v tag trail places
  pub taken : Contains places (place c n)
  pub reached : IsReached p o trail

-- Levels were passed by counters. Every place of each counter was taken, and its operation was reached
pub record HavePassedLevels (p : Plan) (abort : Abort) (v : View) : Type 0 where
  pub counters : ℕ
  pub list : ℕ → List ℕ
  pub named : AreNamed p abort counters list
  pub places : (c n : ℕ) → c < counters → n < length (list c) → IsPlaceReached p v c n (slice_index_or (list c) n 0)

-- Operation o was reached in the trail of a hand
pub record IsItemReached (p : Plan) (v : View) (o : ℕ) : Type 0 where
  pub in_range : o < op_count p
  pub tag : ℕ
  pub trail : List Item
  pub places : List Place
  pub hand : HasHand v tag trail places
  pub reached : IsReached p o trail

-- Operations were handed out to this many workers, and each that one took was reached. One worker alone stole nothing,
-- and under lazy abort it pushed and took each operation once
pub record IsHandedOut (p : Plan) (abort : Abort) (workers : ℕ) (v : View) (handed stolen : ℕ) : Type 0 where
  pub items : Items
  pub balanced : AreBalanced p items handed stolen
  pub reached : (x : ℕ) → Contains items.taken x → IsItemReached p v x
  pub alone : workers ≡ 1 → AreOwn p abort items

-- A lone root leaves nothing, and settles everything. Under lazy abort it evaluates twice the operations with a source
-- whose guess is not its value
pub record HasRunAlone (p : Plan) (abort : Abort) (history : List CoreEvent) (lists : List (List Left)) (by : List ℕ) : Type 0 where
  pub none : causes lists ≡ 0
  pub mine : (o : ℕ) → o < op_count p → slice_index by o ≡ 1
  pub evaluated_is : abort ≡ Lazy → evaluated history ≡ op_count p + rolled history
  pub rolled_is : abort ≡ Lazy → rolled history ≡ stale_count p

-- What a run leaves besides the closed board: by worker, why events were left; by operation, the worker that settled
-- it, or 0; and how many operations were handed out and stolen
pub record RunOutcome : Type 0 where
  pub lists : List (List Left)
  pub by : List ℕ
  pub handed : ℕ
  pub stolen : ℕ

-- The outcome with these parts
abbrev pub run_outcome : (lists : List (List Left)) (by : List ℕ) (handed stolen : ℕ) → RunOutcome
run_outcome lists by handed stolen = record { lists = lists; by = by; handed = handed; stolen = stolen }

-- The hand of this tag took a number from this counter
pub record HasTaken (v : View) (tag counter : ℕ) : Type 0 where
  pub trail : List Item
  pub places : List Place
  pub hand : HasHand v tag trail places
  pub number : ℕ
  pub taken : Contains places (place counter number)

-- The first so many workers took part in settling. Each level of events was cut into parts, and each of these workers
-- took a number from the counter of each part of each level that is shared, if the part has an event. The counter of the
-- first part of the first level is from
pub record HaveTakenPart (p : Plan) (v : View) (team from : ℕ) : Type 0 where
  pub parts : ℕ
  pub some : 1 ≤ parts
  pub few : parts ≤ 4
  pub taken : (l i k : ℕ) → l < length p.event_levels.items → shared_from ≤ length (events_of p l) → i < parts
      → 0 < length (part_items (events_of p l) parts i) → k < team
      → HasTaken v (k + 1) (from + part_counter parts l i)

-- The plan was explored in this way, with this abort, by this many workers, and settled. The closed board is that of
-- the plan, and shows a view. Each operation has the worker that settled it there, or 0, and the lists say by worker
-- why events were left. By strata every place of each counter was taken and reached. By deques each operation that one
-- took was reached. The counters of settling are those behind the ones of exploring, and by deques these are none
pub record HasRun (p : Plan) (explore : Explore) (abort : Abort) (workers : ℕ) (closed : Closed)
    (outcome : RunOutcome) : Type 0 where
  pub counters : ℕ
  pub view : View
  pub ended : IsClosed p (cap_for abort) counters view closed
  pub hands : view.made ≡ workers
  pub team : ℕ
  pub team_is : IsTeam p workers team
  pub from : ℕ
  pub took_part : HaveTakenPart p view team from
  pub len : length outcome.lists ≡ workers
  pub tags : (o : ℕ) → o < op_count p → slice_index outcome.by o ≡ settler (ended.ends.core.word o)
  pub left : AreCauses p ended.ends.core view outcome.lists
  pub places : explore ≡ Strata → HavePassedLevels p abort view
  pub unhanded : explore ≡ Strata → (outcome.handed ≡ 0) × (outcome.stolen ≡ 0)
  pub handed_out : explore ≡ Steal → IsHandedOut p abort workers view outcome.handed outcome.stolen
  pub passes : (same : explore ≡ Strata) → from ≡ (places same).counters
  pub no_passes : explore ≡ Steal → from ≡ 0
  pub alone : workers ≡ 1 → HasRunAlone p abort ended.ends.history outcome.lists outcome.by

-- The root, whose view the closed board shows, was the only hand made. It kept a journal with this room, and settled
-- each operation on the board
pub record IsJournalledRun (p : Plan) (abort : Abort) (room : ℕ) (closed : Closed) : Type 0 where
  pub counters : ℕ
  pub view : View
  pub ended : IsClosed p (cap_for abort) counters view closed
  pub alone : view.made ≡ 1
  pub room_is : view.room ≡ room
  pub settled : (o : ℕ) → o < op_count p → IsSettledIn ended.ends.core o

-- How many steps the journal of a kept run has room for: 32 for each operation, and 64 more
abbrev pub journal_room : Plan → ℕ
journal_room p = 32 * op_count p + 64
