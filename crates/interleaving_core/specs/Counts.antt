-- What a list of steps counts
use Rattle.std.specs.Prelude.{◌≡◌, ℕ, ◌<◌, ◌==◌, ◌&&◌, ◌||◌, Bool, true, false, List, count_by, Some}
use Rattle.morph_base.specs.declared.plan.Plan.{Plan}
use Rattle.morph_base.specs.declared.word.OpState.{OpState}
use Rattle.morph_base.specs.declared.word.OpState.TheVariants.{Blocked, Ready, Claimed, Executed, Failed, Spread, Settled, SettledAborted}
use Rattle.morph_base.specs.Plans.{op_count, final}
use Rattle.morph_base.specs.Clean.{source}
use Rattle.interleaving_core.specs.declared.entry.Record.{Record}
use Rattle.interleaving_core.specs.declared.event.CoreEvent.{CoreEvent}
use Rattle.interleaving_core.specs.declared.event.CoreEvent.TheVariants.{Ready as ReadyStep, Claim, Fetch, Finish, GiveBack, Spread as SpreadStep, RollBack, Decide, Settle}
use Rattle.interleaving_core.specs.Core.{Core, entries_at, has_run, places}

-- The operation of a step, or 0 for a decision, which has none
abbrev pub op_of : CoreEvent → ℕ
op_of (ReadyStep o) = o
op_of (Claim o t) = o
op_of (Fetch o j t x) = o
op_of (Finish o t) = o
op_of (GiveBack o t) = o
op_of (SpreadStep o sibling) = o
op_of (RollBack o j) = o
op_of (Decide i committed) = 0
op_of (Settle o t) = o

-- The test whether a step evaluates an operation
abbrev pub is_finish : CoreEvent → Bool
is_finish (ReadyStep o) = false
is_finish (Claim o t) = false
is_finish (Fetch o j t x) = false
is_finish (Finish o t) = true
is_finish (GiveBack o t) = false
is_finish (SpreadStep o sibling) = false
is_finish (RollBack o j) = false
is_finish (Decide i committed) = false
is_finish (Settle o t) = false

-- The test whether a step spreads a failure to an operation
abbrev pub is_spread : CoreEvent → Bool
is_spread (ReadyStep o) = false
is_spread (Claim o t) = false
is_spread (Fetch o j t x) = false
is_spread (Finish o t) = false
is_spread (GiveBack o t) = false
is_spread (SpreadStep o sibling) = true
is_spread (RollBack o j) = false
is_spread (Decide i committed) = false
is_spread (Settle o t) = false

-- The test whether a step rolls an operation back
abbrev pub is_roll : CoreEvent → Bool
is_roll (ReadyStep o) = false
is_roll (Claim o t) = false
is_roll (Fetch o j t x) = false
is_roll (Finish o t) = false
is_roll (GiveBack o t) = false
is_roll (SpreadStep o sibling) = false
is_roll (RollBack o j) = true
is_roll (Decide i committed) = false
is_roll (Settle o t) = false

-- How many operations the steps evaluated
abbrev pub evaluated : List CoreEvent → ℕ
evaluated es = count_by is_finish es

-- How many operations the steps spread a failure to
abbrev pub spreads : List CoreEvent → ℕ
spreads es = count_by is_spread es

-- How many operations the steps rolled back
abbrev pub rolled : List CoreEvent → ℕ
rolled es = count_by is_roll es

-- The test whether a step gives an operation its next attempt
abbrev pub rises : CoreEvent → Bool
rises e = is_spread e || is_roll e

-- The test whether a step gives operation o its next attempt
abbrev pub rises_at : ℕ → CoreEvent → Bool
rises_at o e = rises e && (op_of e == o)

-- How often operation o was shown at its present attempt: 1 or 0
abbrev pub shown_now : Core → ℕ → ℕ
shown_now c o = entries_at o (c.word o).attempt c.published

-- The test whether a word in this state is settled in a committed event
abbrev pub is_committed : OpState → Bool
is_committed Blocked = false
is_committed Ready = false
is_committed Claimed = false
is_committed Executed = false
is_committed Failed = false
is_committed Spread = false
is_committed Settled = true
is_committed SettledAborted = false

-- Every operation was evaluated at attempt 1, and nothing more was done: all words are executed or failed at that
-- attempt
pub record IsExplored (p : Plan) (b : Core) : Type 0 where
  pub ran : (o : ℕ) → o < op_count p → has_run (b.word o).state ≡ true
  pub first : (o : ℕ) → o < op_count p → (b.word o).attempt ≡ 1

-- An operation that is still at attempt 1 has the fold's values of its sources in its records
pub record AreAgreed (p : Plan) (c : Core) : Type 0 where
  pub each : (o j : ℕ) → o < op_count p → j < places p o → (c.word o).attempt ≡ 1
      → (r : Record) × (c.recorded o j ≡ Some r) × (r.value ≡ source p (final p) o j)
