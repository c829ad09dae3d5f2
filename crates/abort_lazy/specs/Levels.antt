-- All levels of events, gone over in one start of the workers
use Rattle.std.specs.Prelude.{◌≡◌, ℕ, ◌+◌, ◌-◌, ◌*◌, ◌<◌, ◌≤◌, ◌⊎◌, ◌^◌, length, sum_by}
use Rattle.morph_base.specs.declared.plan.Plan.{Plan}
use Rattle.morph_base.specs.Graphs.{below, IsValidPlan}
use Rattle.op_words.specs.declared.board.Board.{Board}
use Rattle.op_words.specs.Hands.{plan_of, counters_of}
use Rattle.op_eval.specs.declared.runner.Runner.{Runner}
use Rattle.worker_gate.specs.declared.parts.Shares.{Shares}
use Rattle.worker_gate.specs.Parts.{AreShares}
use Rattle.abort_lazy.specs.Runs.{IsSettling, IsSettlingParts, counter_at, events_at, events_of, to_come}

-- The board has the plan, which is valid, and four counters for each level, from this one on. Levels are shared in parts
pub record FitsLevels (b : Board) (p : Plan) (from : ℕ) (s : Shares) : Type 0 where
  pub plan : p ≡ plan_of b
  pub valid : IsValidPlan p
  pub counters : from + 4 * length p.event_levels.items ≤ counters_of b
  pub few : counters_of b < 2 ^ 32
  pub shares : AreShares s

-- The runner can go over all levels: it is before the first one
abbrev pub CanGoOver : Board → Plan → ℕ → Shares → Runner → Type 0
CanGoOver b p from s r = FitsLevels b p from s × IsSettling b p from s.parts 0 r r

-- The counter of this number is that of a lower level, or of the part of this level at which the worker was in one of
-- its first turns, of which there are `turns`
abbrev pub IsCounterPassed : Shares → (number level turns : ℕ) → ℕ → Type 0
IsCounterPassed s number level turns k =
    (k < level * s.parts) ⊎ ((turn : ℕ) × (turn < turns) × (k ≡ counter_at s number level turn))

-- How many events the parts of these turns have
abbrev pub length_at : Plan → Shares → (number level turns : ℕ) → ℕ
length_at p s number level turns = sum_by (λ turn. length (events_at p s number level turn)) (below turns)

-- The worker of this number is amid the level, after this many turns at it. It has room for what the events of the other
-- parts, and of the levels to come, leave
abbrev pub IsAmid : Board → Plan → ℕ → Shares → (number level turns : ℕ) → Runner → Runner → Type 0
IsAmid b p from s number level turns =
    IsSettlingParts b p from s.parts (level + 1) (IsCounterPassed s number level turns)
    (to_come p (level + 1) + (length (events_of p level) - length_at p s number level turns))
