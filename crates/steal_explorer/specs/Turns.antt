-- The turns of a worker, and why they end
use Rattle.std.specs.Prelude.{◌≡◌, ℕ, ◌+◌, ◌*◌, ◌<◌, ◌≤◌, List, [], ◌∷◌, length}
use Rattle.morph_base.specs.declared.plan.Plan.{Plan}
use Rattle.morph_base.specs.Plans.{op_count}
use Rattle.op_eval.specs.declared.explored.RunEnd.{RunEnd}
use Rattle.op_eval.specs.declared.explored.RunEnd.TheVariants.{Whole, Drained, Spent}
use Rattle.op_eval.specs.Exploring.{RunRules}
use Rattle.steal_explorer.specs.declared.find.Found.{Found}
use Rattle.steal_explorer.specs.declared.find.Found.TheVariants.{Item, Nothing, Retry}
use Rattle.steal_explorer.specs.declared.member.Member.{Member}
use Rattle.steal_explorer.specs.Finding.{Finds}
use Rattle.steal_explorer.specs.Members.{Thief}
use Rattle.steal_explorer.specs.Serving.{Serves}

-- The item that was found is served, if it is one of the plan's operations
abbrev pub After : RunRules → Found → Member → Member → Type 0
After rules (Item x) a b = (x < op_count rules.plan → Serves rules x a b) × (op_count rules.plan ≤ x → b ≡ a)
After rules Nothing a b = b ≡ a
After rules Retry a b = b ≡ a

-- The worker took one turn, in which it found f
pub record Turn (rules : RunRules) (ts : List Thief) (f : Found) (a b : Member) : Type 0 where
  pub found : Member
  pub finds : Finds ts f a found
  pub after : After rules f found b

-- The worker took these turns, the last one first
abbrev pub Turns : RunRules → List Thief → Member → List Found → Member → Type 0
Turns rules ts a [] b = b ≡ a
Turns rules ts a (f ∷ fs) b = (c : Member) × Turns rules ts a fs c × Turn rules ts f c b

-- How many turns in a row found all deques empty, after one more turn
abbrev pub row_then : ℕ → Found → ℕ
row_then row (Item x) = 0
row_then row Nothing = row + 1
row_then row Retry = 0

-- How many of the last turns in a row found all deques empty
abbrev pub row_of : List Found → ℕ
row_of [] = 0
row_of (f ∷ fs) = row_then (row_of fs) f

-- Before each turn fewer than 64 turns in a row had found all deques empty
abbrev pub WentOn : List Found → Type 0
WentOn [] = Unit {0}
WentOn (f ∷ fs) = (row_of fs < 64) × WentOn fs

-- The most turns of a worker: 16 for each operation of the plan, and 64 more
abbrev pub most_turns : Plan → ℕ
most_turns p = 16 * op_count p + 64

-- The worker ended for this cause: Drained if 64 turns in a row found all deques empty, Spent if it took all turns that
-- it may and the last ones did not end it so
abbrev pub EndsTurns : Plan → RunEnd → List Found → Type 0
EndsTurns p Whole fs = ⊥
EndsTurns p Drained fs = (row_of fs ≡ 64) × (length fs ≤ most_turns p)
EndsTurns p Spent fs = (row_of fs < 64) × (length fs ≡ most_turns p)

-- The worker took all its turns, and ended for this cause
pub record RanTurns (rules : RunRules) (ts : List Thief) (a : Member) (end : RunEnd) (b : Member) : Type 0 where
  pub turns : List Found
  pub made : Turns rules ts a turns b
  pub went_on : WentOn turns
  pub ends : EndsTurns rules.plan end turns

-- The worker took all its turns, and then noted why it ended
pub record HasTakenTurns (rules : RunRules) (ts : List Thief) (a b : Member) : Type 0 where
  pub stopped : Member
  pub ran : RanTurns rules ts a b.end stopped
  pub noted : b ≡ record stopped { end = b.end }
