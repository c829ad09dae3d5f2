-- What each worker does at the levels in a run over all of them, in which each level is cut into parts
use Rattle.std.specs.Prelude.{◌≡◌, ℕ, ◌<◌, ◌≤◌, ◌⊎◌, List, length}
use Rattle.morph_base.specs.declared.plan.Plan.{Plan}
use Rattle.op_eval.specs.declared.runner.Runner.{Runner}
use Rattle.op_eval.specs.Exploring.{RunRules}
use Rattle.op_eval.specs.Turns.{IsEnough}
use Rattle.worker_gate.specs.declared.parts.Shares.{Shares}
use Rattle.worker_gate.specs.Parts.{part_at, part_counter, part_items, parted}
use Rattle.worker_gate.specs.Sharing.{shared_from}
use Rattle.worker_gate.specs.Stages.{InStages}
use Rattle.strata_explorer.specs.Levels.{ops_of}
use Rattle.strata_explorer.specs.Passes.{Worked}
use Rattle.strata_explorer.specs.Walks.{WalksAll}

-- The operations of a counter, if each part of a level has one
abbrev pub parted_ops : Plan → (parts counter : ℕ) → List ℕ
parted_ops p = parted (ops_of p)

-- What the worker of a number, from 0 on, did with the operations of a part of a level that has so many. If the level
-- is shared, or if the worker is the first one, it took part until it saw the counter run out. Else it passed the part
-- over
pub record DoesPart (rules : RunRules) (c : ℕ) (ops : List ℕ) (many number : ℕ) (a b : Runner) : Type 0 where
  pub takes_part : (number ≡ 0) ⊎ (shared_from ≤ many)
      → Worked rules c ops a b × WalksAll rules c ops a b × IsEnough c (length ops) b
  pub passes_over : 0 < number → many < shared_from → b ≡ a

module _ (rules : RunRules) (shares : Shares) (number : ℕ) where
  -- The worker made this turn at a level, at the part where it is in that turn, by the counter of the part
  abbrev pub DoesTurn : (level turn : ℕ) → Runner → Runner → Type 0
  DoesTurn level turn =
      DoesPart rules (part_counter shares.parts level (part_at shares number turn))
      (part_items (ops_of rules.plan level) shares.parts (part_at shares number turn))
      (length (ops_of rules.plan level)) number

  -- The worker made all its turns at a level
  abbrev pub DoesLevel : (level : ℕ) → Runner → Runner → Type 0
  DoesLevel level = InStages (DoesTurn level) shares.parts

  -- The worker went over the levels below this one, from the lowest on
  abbrev pub GoesOver : (level : ℕ) → Runner → Runner → Type 0
  GoesOver = InStages DoesLevel
