-- What exploring a batch level by level comes to, under eager and under lazy abort
use Rattle.std.specs.Prelude.{◌≡◌, ◌≢◌, ℕ, ◌*◌, ◌<◌, ◌≤◌, List, All, Contains, length, max, slice_index_or}
use Rattle.morph_base.specs.declared.strategy.Abort.TheVariants.{Eager, Lazy}
use Rattle.op_eval.specs.declared.explored.RunEnd.{RunEnd}
use Rattle.op_eval.specs.declared.explored.RunEnd.TheVariants.{Whole, Spent}
use Rattle.op_eval.specs.declared.runner.Runner.{Runner}
use Rattle.op_eval.specs.Exploring.{RunRules}
use Rattle.worker_gate.specs.declared.parts.Shares.{Shares}
use Rattle.worker_gate.specs.Parts.{AreShares}
use Rattle.strata_explorer.specs.Levels.{counters_for, AreStrata, FollowsPass, HaveReached, Passes}
use Rattle.strata_explorer.specs.Parts.{parted_ops, GoesOver}

module _ (rules : RunRules) where
  -- Passes were made over levels, as many as there are counters used. If the end is Whole, no level comes next, and
  -- each level was passed. If it is Spent, as many passes were made as there are counters for them, and a level comes
  -- next
  pub record HaveMadePasses (start now : List Runner) (end : RunEnd) (counters : ℕ) : Type 0 where
    pub levels : List ℕ
    pub before : List Runner
    pub passes : Passes rules levels start before now
    pub strata : AreStrata rules.plan levels now
    pub counted : counters ≡ length levels
    pub few : length levels ≤ counters_for rules.plan
    pub inside : All (λ l. l < length rules.plan.op_levels.items) levels
    pub last : end ≡ Whole → FollowsPass rules (length rules.plan.op_levels.items) levels before now
    pub whole : end ≡ Whole → (l : ℕ) → l < length rules.plan.op_levels.items → Contains levels l
    pub spent : end ≢ Whole
        → (end ≡ Spent) × (length levels ≡ counters_for rules.plan) × (l : ℕ)
        × (l < length rules.plan.op_levels.items) × FollowsPass rules l levels before now

  -- Each runner went over all levels by itself, from the lowest on. The levels were cut into parts, at most one for
  -- each runner, and each part had a counter of its own, which one of the runners saw run out
  pub record HaveGoneOver (start now : List Runner) (end : RunEnd) (counters : ℕ) : Type 0 where
    pub shares : Shares
    pub are : AreShares shares
    pub most : shares.parts ≤ max 1 (length start)
    pub len : length now ≡ length start
    pub each : (k : ℕ) (d : Runner) → k < length start
        → GoesOver rules shares k (length rules.plan.op_levels.items) (slice_index_or start k d) (slice_index_or now k d)
    pub reached : HaveReached rules.plan counters (parted_ops rules.plan shares.parts) now
    pub counted : counters ≡ length rules.plan.op_levels.items * shares.parts
    pub whole : end ≡ Whole

  -- Under eager abort passes were made, one after the other. Under lazy abort each runner went over all levels
  pub record HasPassed (start now : List Runner) (end : RunEnd) (counters : ℕ) : Type 0 where
    pub eager : rules.abort ≡ Eager → HaveMadePasses start now end counters
    pub lazy : rules.abort ≡ Lazy → HaveGoneOver start now end counters
