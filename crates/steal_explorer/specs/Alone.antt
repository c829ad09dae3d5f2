-- What a lone root does with its one deque: it pushes each operation once its sources have run, and runs it
use Rattle.std.specs.Prelude.{◌≡◌, ◌⊎◌, ℕ, ◌+◌, ◌<◌, ◌≤◌, List, [], ◌∷◌, All, Contains, length, sum_by}
use Rattle.crossbeam_deque.specs.Handles.{worker_capacity, worker_index}
use Rattle.morph_base.specs.Graphs.{below}
use Rattle.morph_base.specs.declared.plan.Plan.{Plan}
use Rattle.morph_base.specs.Plans.{op_count}
use Rattle.interleaving_core.specs.Core.{blocked, ready}
use Rattle.op_words.specs.declared.trail.Item.{Item}
use Rattle.op_words.specs.Trails.{last_word, IsSourceOf}
use Rattle.op_words.specs.Views.{IsLone}
use Rattle.op_eval.specs.declared.explored.RunEnd.{RunEnd}
use Rattle.op_eval.specs.declared.explored.RunEnd.TheVariants.{Drained}
use Rattle.op_eval.specs.declared.runner.Runner.{Runner}
use Rattle.op_eval.specs.Alone.{Ran, NotBegun, HasRunAll}
use Rattle.op_eval.specs.Running.{hand_view}
use Rattle.steal_explorer.specs.declared.exploration.Handed.{Handed}
use Rattle.steal_explorer.specs.declared.find.Found.{Found}
use Rattle.steal_explorer.specs.declared.find.Found.TheVariants.{Item as Got, Nothing, Retry}
use Rattle.steal_explorer.specs.declared.member.Member.{Member}
use Rattle.steal_explorer.specs.Draining.{IsEven}
use Rattle.steal_explorer.specs.Handed.{workers_of, pushed_of}
use Rattle.steal_explorer.specs.Handing.{one, put, got, came, gone, MayBeEmpty, MayTake}
use Rattle.steal_explorer.specs.HandingOut.{is_one}
use Rattle.steal_explorer.specs.Members.{own}

-- ---- operations, by the words that the root knows and by what was pushed

-- All sources of operation o that are operations have run
abbrev pub AreSourcesRun : Plan → List Item → ℕ → Type 0
AreSourcesRun p trail o = (s : ℕ) → IsSourceOf p o s → Ran trail s

-- Operation o was not pushed, and is not begun. If its sources have run, it is still to be asked
pub record IsWaiting (p : Plan) (pending : List ℕ) (trail : List Item) (pushed : List ℕ) (o : ℕ) : Type 0 where
  pub fresh : NotBegun trail o
  pub unpushed : sum_by (is_one o) pushed ≡ 0
  pub asked : AreSourcesRun p trail o → Contains pending o

-- Operation o was pushed once, and has not run: it was made ready, or has no source that is an operation
pub record IsQueued (p : Plan) (trail : List Item) (pushed : List ℕ) (o : ℕ) : Type 0 where
  pub due : AreSourcesRun p trail o
  pub once : sum_by (is_one o) pushed ≡ 1
  pub word : (last_word o (blocked 1) trail ≡ ready 1) ⊎ (NotBegun trail o × ((s : ℕ) → IsSourceOf p o s → ⊥))

-- Operation o was pushed once, and has run
pub record HasGone (p : Plan) (trail : List Item) (pushed : List ℕ) (o : ℕ) : Type 0 where
  pub due : AreSourcesRun p trail o
  pub once : sum_by (is_one o) pushed ≡ 1
  pub ran : Ran trail o

-- Operation o is waiting, queued or gone
abbrev pub Stands : Plan → List ℕ → List Item → List ℕ → ℕ → Type 0
Stands p pending trail pushed o =
    IsWaiting p pending trail pushed o ⊎ (IsQueued p trail pushed o ⊎ HasGone p trail pushed o)

-- ---- the worker

-- Operation o has run, as the worker's runner knows
abbrev pub HasRunOp : ℕ → Member → Type 0
HasRunOp o m = Ran (hand_view m.runner).trail o

-- Each operation is waiting, queued or gone, and the deque has a slot for each. The `pending` ones are still to be
-- asked after an evaluation
pub record IsHandingAlone (p : Plan) (pending : List ℕ) (m : Member) : Type 0 where
  pub lone : IsLone (hand_view m.runner)
  pub slots : op_count p ≤ worker_capacity m.owner
  pub index : worker_index m.owner ≤ length (own m).pushed
  pub each : (o : ℕ) → o < op_count p → Stands p pending (hand_view m.runner).trail (own m).pushed o

-- Operation o was pushed
pub record Pushes (o : ℕ) (a b : Member) : Type 0 where
  pub runner : b.runner ≡ a.runner
  pub puts : own b ≡ put (own a) (o ∷ [])
  pub slots : worker_capacity a.owner ≤ worker_capacity b.owner
  pub index : worker_index b.owner ≡ worker_index a.owner + 1

-- The worker has served operation o: if o had been pushed, it has run
pub record ServesAlone (p : Plan) (o : ℕ) (a b : Member) : Type 0 where
  pub handing : IsHandingAlone p [] b
  pub ran : 0 < sum_by (is_one o) (own a).pushed → HasRunOp o b

-- The worker found f in the only deque, and its log says so
abbrev pub FoundAlone : Found → Member → Member → Type 0
FoundAlone (Got x) a b = (own b ≡ got (own a) (x ∷ [])) × MayTake (own a) (x ∷ [])
FoundAlone Nothing a b = (own b ≡ own a) × MayBeEmpty (own a)
FoundAlone Retry a b = ⊥

-- The worker found f in the only deque, which keeps its slots
pub record FindsAlone (f : Found) (a b : Member) : Type 0 where
  pub slots : worker_capacity a.owner ≤ worker_capacity b.owner
  pub index : worker_index b.owner ≤ worker_index a.owner
  pub found : FoundAlone f a b

-- The worker is between two turns: what it popped has run, and had been pushed
pub record IsTurningAlone (p : Plan) (m : Member) : Type 0 where
  pub handing : IsHandingAlone p [] m
  pub ran : (o : ℕ) → o < op_count p → 0 < sum_by (is_one o) (own m).popped → HasRunOp o m
  pub few : length (own m).popped ≤ length (own m).pushed

-- A turn took an item that was there, or found that all have gone
abbrev pub TookAlone : Found → Member → Member → Type 0
TookAlone (Got x) a b = (length (own b).popped ≡ length (own a).popped + 1) × (gone one (own a) < came one (own a))
TookAlone Nothing a b = (length (own b).popped ≡ length (own a).popped) × IsEven b
TookAlone Retry a b = ⊥

-- The worker took a turn, in which it found f
pub record TurnsAlone (p : Plan) (f : Found) (a b : Member) : Type 0 where
  pub turning : IsTurningAlone p b
  pub took : TookAlone f a b

-- The worker is before its first turn
pub record BeginsAlone (p : Plan) (m : Member) : Type 0 where
  pub turning : IsTurningAlone p m
  pub none : (own m).popped ≡ []

-- The worker took its last turn, and its deque is empty
pub record EndsAlone (p : Plan) (end : RunEnd) (m : Member) : Type 0 where
  pub drained : end ≡ Drained
  pub turning : IsTurningAlone p m
  pub even : IsEven m

-- The worker's deque was emptied. Each operation was pushed once and has run
pub record LeavesAlone (p : Plan) (m : Member) : Type 0 where
  pub drained : m.end ≡ Drained
  pub inside : All (λ x. x < op_count p) (own m).pushed
  pub once : (o : ℕ) → o < op_count p → sum_by (is_one o) (own m).pushed ≡ 1
  pub unstolen : (h : ℕ → ℕ) → sum_by h (own m).stolen ≡ 0
  pub ran : (o : ℕ) → o < op_count p → HasRunOp o m

-- ---- what is handed on

-- A lone root found nothing more in the end. Each operation was pushed once, so no push was refused, and nothing was
-- stolen. The root knows each operation last as executed or failed, at attempt 1
pub record IsHandedAlone (p : Plan) (end : RunEnd) (handed : Handed) (rs : List Runner) : Type 0 where
  pub drained : end ≡ Drained
  pub pushed : (h : ℕ → ℕ) → sum_by h (pushed_of handed) ≡ sum_by h (below (op_count p))
  pub unstolen : (h : ℕ → ℕ) → sum_by (λ m. sum_by h (own m).stolen) (workers_of handed) ≡ 0
  pub ran : HasRunAll p rs
