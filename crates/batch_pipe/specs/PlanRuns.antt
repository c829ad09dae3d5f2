-- Plans that are run, one after another, and their results
use Rattle.std.specs.Prelude.{◌≡◌, ℕ, ◌+◌, ◌≤◌, Bool, true, false, if◌then◌else◌, List, [], ◌∷◌, ◌++◌, length, All, Option, Some, None}
use Rattle.morph_base.specs.declared.key.Layout.{Layout}
use Rattle.morph_base.specs.declared.plan.Plan.{Plan}
use Rattle.morph_base.specs.declared.strategy.Strategy.{Strategy}
use Rattle.morph_base.specs.Flat.{Kept, contents}
use Rattle.morph_base.specs.States.{State, IsUpTo, after_all}
use Rattle.morph_base.specs.Outcomes.{fates}
use Rattle.morph_base.specs.Plans.{HasBases, IsSettledOf, PlanKeysIn, high_of, transactions}
use Rattle.morph_base.specs.Graphs.{IsValidPlan}
use Rattle.morph_engine.specs.Accounts.{IsAccount, account_of}
use Rattle.morph_engine.specs.Ends.{IsEnd}
use Rattle.morph_engine.specs.Fates.{settled_fates}
use Rattle.event_reader.specs.Limits.{input_bytes}
use Rattle.decision_model.specs.declared.counts.Last.{Last}
use Rattle.decision_model.specs.Choices.{last_of, profile_of, strategy_for}
use Rattle.rtrb.specs.Ring.{received, known_items, SameConsumer}
use Rattle.batch_pipe.specs.declared.items.Sent.{Sent}
use Rattle.batch_pipe.specs.declared.items.Ran.{Ran}
use Rattle.batch_pipe.specs.declared.items.Picker.{Picker}
use Rattle.batch_pipe.specs.declared.runner.Runner.{Runner}
use Rattle.batch_pipe.specs.declared.runner.RunEnd.{RunEnd}
use Rattle.batch_pipe.specs.declared.runner.RunEnd.TheVariants.{Whole, NoMemory, Untold}
use Rattle.batch_pipe.specs.Results.{AreTold}
use Rattle.batch_pipe.specs.PlannedBatches.{IsReadyPlan, AreNumbered}

-- How plans are run: how the strategy of each is picked, and by how many workers
pub record Manner : Type 0 where
  pub pick : Picker
  pub workers : ℕ

-- The manner of this picker and this many workers
abbrev pub manner : Picker → (workers : ℕ) → Manner
manner pick workers = record { pick = pick; workers = workers }

-- The strategy that is picked for a plan, by the outcome of the batch that was run before
abbrev pub picked : Picker → Last → Plan → Strategy
picked pick last p = if pick.auto then strategy_for (profile_of p last) else pick.strategy

-- The outcome of a batch that was run, for the choice of the next strategy
abbrev pub came_of : Ran → Last
came_of r = last_of (settled_fates r.end.plan r.end.settled)

-- A plan that was sent was run from the state s, after a batch with the outcome `last`, and r is the result
pub record IsSentRun (m : Manner) (s : State) (last : Last) (x : Sent) (r : Ran) : Type 0 where
  pub number : r.number ≡ x.number
  pub events : transactions r.end.plan ≡ transactions x.plan
  pub valid : IsValidPlan r.end.plan
  pub bases : HasBases r.end.plan s
  pub settled : IsSettledOf r.end.plan r.end.settled
  pub fates_are : settled_fates r.end.plan r.end.settled ≡ fates s (transactions x.plan)
  pub strategy : r.strategy ≡ picked m.pick last r.end.plan
  pub run_by : r.end.strategy ≡ r.strategy
  -- Everything that a batch's end promises holds of it: its closed board, the causes by worker, the counts
  pub ended : IsEnd r.end.plan r.end.strategy m.workers s r.end
  pub account : IsAccount r.end.strategy.explore r.end.strategy.abort m.workers (account_of r.end)

-- The state after plans, one after another
unfoldable pub state_after : State → List Sent → State
state_after s [] = s
state_after s (x ∷ xs) = state_after (after_all s (transactions x.plan)) xs

-- The outcome of the last of these results, or of the batch before them
unfoldable pub last_after : Last → List Ran → Last
last_after last [] = last
last_after last (r ∷ rs) = last_after (came_of r) rs

-- The plans were run one after another, and `rs` are the results
unfoldable pub AreRun : Manner → State → Last → List Sent → List Ran → Type 0
AreRun m s last [] [] = Unit {0}
AreRun m s last [] (r ∷ rs) = ⊥
AreRun m s last (x ∷ xs) [] = ⊥
AreRun m s last (x ∷ xs) (r ∷ rs) =
    IsSentRun m s last x r × AreRun m (after_all s (transactions x.plan)) (came_of r) xs rs

-- The item, if it is there
abbrev pub one_or_none : {T : Type 0} → Option T → List T
one_or_none None = []
one_or_none (Some x) = x ∷ []

-- A runner between two plans, and its teller: the state, the outcome of the batch before, and the teller
pub record Desk (Teller : Type 0) : Type 0 where
  pub state : State
  pub last : Last
  pub teller : Teller

-- The desk of a runner with this teller
abbrev pub desk : {Teller : Type 0} → Runner → Teller → Desk Teller
desk r teller = record { state = contents r.engine; last = r.last; teller = teller }

-- The test whether all results were taken, by the end of the runs
abbrev pub is_told : RunEnd → Bool
is_told Untold = false
is_told end = true

-- How many plans are lost, by the end of the runs
abbrev pub lost_count : RunEnd → ℕ
lost_count NoMemory = 1
lost_count end = 0

module _ {Teller : Type 0} (takes : Teller → Ran → Bool → Teller → Type 0) where
  -- From desk a to desk b the runner ran these plans, in order, and the teller took the results, in order. If not
  -- `all`, it refused the last one
  pub record Runs (m : Manner) (a : Desk Teller) (runs : List Sent) (all : Bool) (b : Desk Teller) : Type 0 where
    pub rans : List Ran
    pub run : AreRun m a.state a.last runs rans
    pub told : AreTold takes a.teller rans all b.teller
    pub state_is : b.state ≡ state_after a.state runs
    pub last_is : b.last ≡ last_after a.last rans

  -- From desk a to desk b the runner took these plans, in order, and its runs ended so. It ran all of them, but for the
  -- last one if memory was refused for that. The teller took all results, but for the last one if it refused that
  pub record RunsPlans (m : Manner) (a : Desk Teller) (plans : List Sent) (end : RunEnd) (b : Desk Teller)
      : Type 0 where
    pub runs : List Sent
    pub lost : List Sent
    pub run : Runs m a runs (is_told end) b
    pub parts : plans ≡ runs ++ lost
    pub lost_is : length lost ≡ lost_count end

-- A runner between two plans: its desk, and what it received over its ring
pub record Post (Teller : Type 0) : Type 0 where
  pub desk : Desk Teller
  pub received : List Sent

-- The post of a runner with this teller
abbrev pub post : {Teller : Type 0} → Runner → Teller → Post Teller
post r teller = record { desk = desk r teller; received = received r.ring }

-- What a runner did with plans: the `first`, which do not go through the ring, and those in the ring. It took the first
-- few of them in order. If its runs ended as a whole, it took all of the `known`, and those behind them that came
-- meanwhile. It left the others
pub record RunsWaiting {Teller : Type 0} (takes : Teller → Ran → Bool → Teller → Type 0) (m : Manner) (a : Post Teller)
    (first known : List Sent) (end : RunEnd) (b : Post Teller) : Type 0 where
  pub popped : List Sent
  pub plans : RunsPlans takes m a.desk (first ++ popped) end b.desk
  pub received_is : b.received ≡ a.received ++ popped
  pub later : List Sent
  pub whole : end ≡ Whole → popped ≡ known ++ later

-- The plan can be run by the engine once its bases are filled in: it is valid, its keys are in the layout, and no value
-- of the state is above its greatest one
pub record IsRunnable (engine : Kept) (p : Plan) : Type 0 where
  pub valid : IsValidPlan p
  pub keys : PlanKeysIn p engine.layout
  pub small : IsUpTo (high_of p) (contents engine)

-- The runner may run what waits, and hand the results to the teller. The plans have this greatest value, which no value
-- of the state is above. They are numbered on, the last of them is of number `upto`, and that is at most the number of
-- the last possible line. The teller can take the result of the first of them
pub record CanRun {Teller : Type 0} (can_take : Teller → ℕ → Type 0) (high upto : ℕ) (first : List Sent) (r : Runner)
    (teller : Teller) : Type 0 where
  pub small : IsUpTo high (contents r.engine)
  pub first_ready : All (λ (x : Sent). IsReadyPlan r.engine.layout high x.plan) first
  pub ready : All (λ (x : Sent). IsReadyPlan r.engine.layout high x.plan) (known_items r.ring)
  pub before : ℕ
  pub numbered : AreNumbered before (first ++ known_items r.ring)
  pub upto_is : before + length first + length (known_items r.ring) ≡ upto
  pub few : upto ≤ input_bytes + 1
  pub can : can_take teller (before + 1)

-- The runner may go on behind the plan of number `before`: no value of the state is above `high`, and the teller can take
-- the next result
pub record CanGoOn {Teller : Type 0} (can_take : Teller → ℕ → Type 0) (high before : ℕ) (r : Runner) (teller : Teller)
    : Type 0 where
  pub small : IsUpTo high (contents r.engine)
  pub few : before ≤ input_bytes + 1
  pub can : can_take teller (before + 1)

-- The plan is the one behind that of number `before`, for this layout and with this greatest value
pub record IsBehind (layout : Layout) (high before : ℕ) (x : Sent) : Type 0 where
  pub layout_is : x.layout ≡ layout
  pub greatest_is : x.greatest ≡ high
  pub number_is : x.number ≡ before + 1

-- The runner ran plans, by `RunsWaiting`, and handed the results to the teller
pub record HasRunPlans {Teller : Type 0} (takes : Teller → Ran → Bool → Teller → Type 0) (m : Manner)
    (first known : List Sent) (a : Runner) (teller : Teller) (end : RunEnd) (b : Runner) (teller' : Teller) : Type 0 where
  pub runs : RunsWaiting takes m (post a teller) first known end (post b teller')
  pub ring : SameConsumer a.ring b.ring
  pub layout : b.engine.layout ≡ a.engine.layout
