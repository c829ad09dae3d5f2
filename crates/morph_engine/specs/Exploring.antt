-- What workers take operations from while they explore, and what became of these operations
use Rattle.std.specs.Prelude.{◌≡◌, ◌⊎◌, ℕ, ◌+◌, ◌*◌, ◌<◌, ◌≤◌, List, [], All, Contains, length, sum_by}
use Rattle.morph_base.specs.declared.plan.Plan.{Plan}
use Rattle.morph_base.specs.declared.strategy.Abort.{Abort}
use Rattle.morph_base.specs.declared.strategy.Abort.TheVariants.{Eager, Lazy}
use Rattle.morph_base.specs.declared.strategy.Explore.{Explore}
use Rattle.morph_base.specs.declared.strategy.Explore.TheVariants.{Strata, Steal}
use Rattle.morph_base.specs.Graphs.{below}
use Rattle.morph_base.specs.Readers.{dependents_of}
use Rattle.morph_base.specs.Plans.{op_count}
use Rattle.op_words.specs.Hands.{up_to}
use Rattle.op_eval.specs.declared.explored.Explored.{Explored}
use Rattle.op_eval.specs.declared.runner.Runner.{Runner}
use Rattle.op_eval.specs.Alone.{IsNewRoot}
use Rattle.op_eval.specs.Gathering.{runners_of}
use Rattle.strata_explorer.specs.Levels.{counters_for, passed_ops, HaveReached}
use Rattle.strata_explorer.specs.Parts.{parted_ops}
use Rattle.steal_explorer.specs.Dealing.{level_one}
use Rattle.steal_explorer.specs.Handed.{AreReached}
use Rattle.morph_engine.specs.Crews.{IsCrew}
use Rattle.morph_engine.specs.declared.supply.Supply.{Supply}
use Rattle.morph_engine.specs.declared.supply.Supply.TheVariants.{Counters, Deques}

-- ---- before

-- The way in which a batch is explored with this supply
abbrev pub explore_of : Supply → Explore
explore_of Counters = Strata
explore_of (Deques crew) = Steal

-- If the supply has deques, they are those of a crew of this many workers
abbrev pub IsSupply : Plan → (workers : ℕ) → Supply → Type 0
IsSupply p workers Counters = Unit {0}
IsSupply p workers (Deques crew) = IsCrew p workers crew

-- Exploring in this way with this abort asks which operations read from one
abbrev pub NeedsDependents : Explore → Abort → Type 0
NeedsDependents explore abort = (explore ≡ Steal) ⊎ (abort ≡ Eager)

-- The rows are the dependents of the plan, if exploring in this way with this abort needs them
abbrev pub HasDependentsFor : Plan → Explore → Abort → List (List ℕ) → Type 0
HasDependentsFor p explore abort rows = NeedsDependents explore abort → rows ≡ dependents_of p

-- ---- operations that were handed out

-- The operations that were pushed, those that a worker took, those that nobody took, and those that were taken by
-- another worker than the one that had pushed them
pub record Items : Type 0 where
  pub pushed : List ℕ
  pub taken : List ℕ
  pub unserved : List ℕ
  pub stolen : List ℕ

-- Whatever operations weigh, what was pushed weighs as much as what was taken and what was not. Level 1 is among what
-- was pushed, and what was stolen is among what was taken. These are the numbers of what was pushed and stolen
pub record AreBalanced (p : Plan) (x : Items) (handed stolen : ℕ) : Type 0 where
  pub balance : (h : ℕ → ℕ) → sum_by h x.pushed ≡ sum_by h x.taken + sum_by h x.unserved
  pub dealt : (h : ℕ → ℕ) → sum_by h (level_one p) ≤ sum_by h x.pushed
  pub by_steals : (h : ℕ → ℕ) → sum_by h x.stolen ≤ sum_by h x.taken
  pub handed_is : handed ≡ up_to (length x.pushed)
  pub stolen_is : stolen ≡ up_to (length x.stolen)

-- One worker stole nothing. Under lazy abort it pushed each operation of the plan once, and took all of them
pub record AreOwn (p : Plan) (abort : Abort) (x : Items) : Type 0 where
  pub own : x.stolen ≡ []
  pub once : abort ≡ Lazy → (h : ℕ → ℕ) → sum_by h x.pushed ≡ sum_by h (below (op_count p))
  pub served : abort ≡ Lazy → x.unserved ≡ []

-- ---- what counters are for

-- Passes were made over these levels, the last one first: over each level of the plan, or as many as there are counters
-- for them
pub record ArePassed (p : Plan) (levels : List ℕ) : Type 0 where
  pub few : length levels ≤ counters_for p
  pub inside : All (λ l. l < length p.op_levels.items) levels
  pub all : ((l : ℕ) → l < length p.op_levels.items → Contains levels l) ⊎ (length levels ≡ counters_for p)

-- Passes were made over levels, and each counter is for the operations of one pass
pub record ArePasses (p : Plan) (counters : ℕ) (list : ℕ → List ℕ) : Type 0 where
  pub levels : List ℕ
  pub passed : ArePassed p levels
  pub counted : counters ≡ length levels
  pub is : (c : ℕ) → list c ≡ passed_ops p levels c

-- Each level of the plan was cut into parts, and each counter is for the operations of one part
pub record AreParts (p : Plan) (counters : ℕ) (list : ℕ → List ℕ) : Type 0 where
  pub parts : ℕ
  pub some : 1 ≤ parts
  pub few : parts ≤ 4
  pub counted : counters ≡ length p.op_levels.items * parts
  pub is : (c : ℕ) → list c ≡ parted_ops p parts c

-- The operations whose places these counters number, by abort
abbrev pub AreNamed : Plan → Abort → (counters : ℕ) → (list : ℕ → List ℕ) → Type 0
AreNamed p Eager = ArePasses p
AreNamed p Lazy = AreParts p

-- ---- runners after exploring

-- The levels were passed by counters, whose operations were reached, and nothing was handed out
pub record HavePassed (p : Plan) (abort : Abort) (e : Explored) (handed stolen : ℕ) : Type 0 where
  pub list : ℕ → List ℕ
  pub named : AreNamed p abort e.next_counter list
  pub reached : HaveReached p e.next_counter list (runners_of e.runners)
  pub none_handed : handed ≡ 0
  pub none_stolen : stolen ≡ 0

-- Operations were handed out, and what a worker took was reached by one. No counter was used
pub record HaveHanded (p : Plan) (abort : Abort) (start : List Runner) (e : Explored) (handed stolen : ℕ) : Type 0 where
  pub unused : e.next_counter ≡ 0
  pub items : Items
  pub balanced : AreBalanced p items handed stolen
  pub inside : (x : ℕ) → Contains items.taken x → x < op_count p
  pub reached : AreReached p items.taken (runners_of e.runners)
  pub alone : IsNewRoot start → AreOwn p abort items

-- The runners have explored in this way
abbrev pub HasExploredBy : Explore → Plan → Abort → (start : List Runner) → Explored → (handed stolen : ℕ) → Type 0
HasExploredBy Strata p abort start e handed stolen = HavePassed p abort e handed stolen
HasExploredBy Steal p abort start e handed stolen = HaveHanded p abort start e handed stolen
