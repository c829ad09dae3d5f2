-- What was done in a run: the accounts of the batches that were run, and the numbers that are counted from them
use Rattle.std.specs.Prelude.{◌≡◌, ℕ, ◌+◌, ◌*◌, ◌<◌, ◌≤◌, ◌⊎◌, Bool, false, All, List, [], ◌∷◌, ◌++◌, count_by, length, slice_index, sum, sum_by, Option, option_map, IfSome, IsTrue}
use Rattle.morph_base.specs.Limits.{most_workers}
use Rattle.morph_base.specs.declared.limits.TheConstants.{EVENT_OPS}
use Rattle.morph_base.specs.declared.plan.Plan.{Plan}
use Rattle.morph_base.specs.declared.strategy.Abort.TheVariants.{Lazy}
use Rattle.morph_base.specs.declared.strategy.Explore.{Explore}
use Rattle.morph_base.specs.declared.strategy.Explore.TheVariants.{Strata, Steal}
use Rattle.morph_base.specs.declared.strategy.Strategy.{Strategy}
use Rattle.morph_base.specs.Outcomes.{fates}
use Rattle.morph_base.specs.Transactions.{Transaction, by_time}
use Rattle.morph_base.specs.States.{State, opening_state, after_all}
use Rattle.morph_base.specs.Plans.{HasBases, op_count, transactions}
use Rattle.morph_base.specs.Graphs.{IsValidPlan, below}
use Rattle.morph_base.specs.Guesses.{stale_count}
use Rattle.steal_explorer.specs.Dealing.{level_one}
use Rattle.morph_engine.specs.Accounts.{Account, IsAccount, is_committed_by_worker, settled_by}
use Rattle.event_reader.specs.Accepted.{Accepted, accepted}
use Rattle.run_text.specs.Counts.{counted_to}
use Rattle.decision_model.specs.declared.counts.Last.{Last}
use Rattle.run_text.specs.declared.choices.Planning.{Planning}
use Rattle.run_text.specs.declared.choices.Planning.TheVariants.{Fixed}
use Rattle.run_text.specs.declared.tally.Tally.{Tally}
use Rattle.morph_io.specs.Told.{HasRisen}
use Rattle.run_text.specs.Notes.{is_cut}
use Rattle.run_text.specs.Checks.{is_checked}
use Rattle.interleaving_core.specs.Core.{Core, start}
use Rattle.interleaving_core.specs.Orders.{Leads}
use Rattle.run_checker.specs.Answers.{SettlesWholeFold}
use Rattle.morph_cli.specs.Outputs.{Outputs, has_notes, with_both, with_batches, closing_note, AreAudits, IsCutIn, IsCutInBatch, IsAtLast}
use Rattle.morph_cli.specs.Requests.{Request}
use Rattle.morph_cli.specs.Status.{EndsNotes}
use Rattle.morph_cli.specs.Strategies.{strategy_by}
use Rattle.morph_cli.specs.Streams.{Streams}
use Rattle.decision_model.specs.Choices.{last_of, no_last}
use Rattle.run_text.specs.Text.{run_fates, committed_in, aborted_in, end_text}

-- The plan is a valid one of the events of a batch, from the state before it
pub record IsMadeOf (s : State) (batch : List Transaction) (p : Plan) : Type 0 where
  pub valid : IsValidPlan p
  pub events : transactions p ≡ by_time batch
  pub bases : HasBases p s

-- The batches are run one after another from a state, each by the plan and the strategy of its account. `last` is the
-- outcome of the batch before them
unfoldable pub AreRunFrom : Planning → State → (last : Last) → List (List Transaction) → List Account → Type 0
AreRunFrom planning s last [] [] = Unit {0}
AreRunFrom planning s last [] (a ∷ accounts) = ⊥
AreRunFrom planning s last (batch ∷ batches) [] = ⊥
AreRunFrom planning s last (batch ∷ batches) (a ∷ accounts) =
    IsMadeOf s batch a.plan × (a.strategy ≡ strategy_by planning a.plan last) × AreRunFrom planning (after_all s (by_time batch)) (last_of (fates s (by_time batch))) batches accounts

-- The numbers of a batch go together, by the strategy that it was run with
abbrev pub IsSoundAccount : (workers : ℕ) → Account → Type 0
IsSoundAccount workers a = IsAccount a.strategy.explore a.strategy.abort workers a

-- The machine takes the journal of the batch step by step. If the journal is not cut off, it settles each operation,
-- with the fold's value
pub record IsChecked (a : Account) : Type 0 where
  pub state : Core
  pub leads : Leads a.plan 1 start a.journal state
  pub right : is_cut a.plan a.journal ≡ false → SettlesWholeFold a.plan 1 a.journal

-- All batches were run with lazy abort
abbrev pub AreLazy : List Account → Type 0
AreLazy accounts = All (λ a. a.strategy.abort ≡ Lazy) accounts

-- All batches were explored in this way
abbrev pub AreExploredBy : Explore → List Account → Type 0
AreExploredBy explore accounts = All (λ a. a.strategy.explore ≡ explore) accounts

-- The number of operations of committed events that a worker settled
abbrev pub committed_by_workers : Account → ℕ
committed_by_workers a = count_by (is_committed_by_worker a.plan a.by) (below (op_count a.plan))

-- The number of operations of level 1 of a plan, if it is explored by deques, and else 0
abbrev pub dealt_by : Explore → Plan → ℕ
dealt_by Strata p = 0
dealt_by Steal p = length (level_one p)

-- The number of operations of level 1 of a batch's plan, if it was explored by deques, and else 0
abbrev pub dealt_count : Account → ℕ
dealt_count a = dealt_by a.strategy.explore a.plan

-- The tally is that of the batches that were run: the verdicts on their events, and the sums over their accounts. What
-- was left, handed out and stolen is counted up to the greatest number
pub record IsTallyOf (done : List (List Transaction)) (accounts : List Account) (t : Tally) : Type 0 where
  pub batches : t.batches ≡ length done
  pub events : t.events ≡ t.committed + t.aborted
  pub committed : t.committed ≡ committed_in (run_fates done)
  pub aborted : t.aborted ≡ aborted_in (run_fates done)
  pub ops : t.ops ≡ sum_by (λ a. op_count a.plan) accounts
  pub evaluated : t.evaluated ≡ sum_by (λ a. a.counts.evaluated) accounts
  pub spread : t.spread ≡ sum_by (λ a. a.counts.spread) accounts
  pub rolled : t.rolled ≡ sum_by (λ a. a.counts.rolled) accounts
  -- Operations are counted for each worker, and at 0 for the plain finish
  pub settled : (w : ℕ) → w ≤ most_workers → slice_index t.settled_by w ≡ sum_by (λ a. settled_by a.by w) accounts
  pub workers : length t.settled_by ≡ most_workers + 1
  pub left : t.left ≡ counted_to (sum_by (λ a. a.left) accounts)
  pub handed : t.handed ≡ counted_to (sum_by (λ a. a.handed) accounts)
  pub stolen : t.stolen ≡ counted_to (sum_by (λ a. a.stolen) accounts)

-- There are at most twice as many evaluations as operations, at most as many rollbacks, and nothing is spread
pub record IsLazyTally (t : Tally) : Type 0 where
  pub evaluated : t.evaluated ≤ 2 * t.ops
  pub rolled : t.rolled ≤ t.ops
  pub spread : t.spread ≡ 0

-- The laws of a tally that name its batches. Each operation of a committed event that a worker settled was evaluated.
-- Of the batches explored by deques each operation of level 1 was handed out; if there are none, nothing was. If all
-- aborted lazily, the tally is a lazy one. With one worker and lazy abort, the operations rolled back are those with a
-- source whose guess is not its value, each evaluated once more; and by deques each operation is handed out once
pub record FollowsAccounts (workers : ℕ) (accounts : List Account) (t : Tally) : Type 0 where
  pub committed : sum_by committed_by_workers accounts ≤ t.evaluated
  pub dealt : counted_to (sum_by dealt_count accounts) ≤ t.handed
  pub by_strata : AreExploredBy Strata accounts → t.handed ≡ 0
  pub lazy : AreLazy accounts → IsLazyTally t
  pub evaluated : workers ≡ 1 → AreLazy accounts → t.evaluated ≡ t.ops + t.rolled
  pub rolled : workers ≡ 1 → AreLazy accounts → t.rolled ≡ sum_by (λ a. stale_count a.plan) accounts
  pub handed : workers ≡ 1 → AreLazy accounts → AreExploredBy Steal accounts → t.handed ≡ t.ops

-- With one worker nothing is left, it settles all operations, and nothing is stolen
pub record IsBalancedAlone (t : Tally) : Type 0 where
  pub none : t.left ≡ 0
  pub mine : slice_index t.settled_by 1 ≡ t.ops
  pub stolen : t.stolen ≡ 0

-- How the numbers of a tally go together if all batches are run with one strategy. By strata nothing is handed out.
-- With lazy abort the tally is a lazy one. With one worker besides, each operation is evaluated once, and once more if
-- it was rolled back, and by deques each is handed out once
pub record IsBalancedBy (s : Strategy) (workers : ℕ) (t : Tally) : Type 0 where
  pub by_strata : s.explore ≡ Strata → t.handed ≡ 0
  pub lazy : s.abort ≡ Lazy → IsLazyTally t
  pub evaluated : workers ≡ 1 → s.abort ≡ Lazy → t.evaluated ≡ t.ops + t.rolled
  pub handed : workers ≡ 1 → s.abort ≡ Lazy → s.explore ≡ Steal → t.handed ≡ t.ops

-- How the numbers of a tally go together, by how the strategy of each batch is found and by the number of workers,
-- whatever is revealed of the input. Among others, there are at most 8 times as many evaluations and spreads as
-- operations, and 7 times as many spreads and rollbacks, and no more operations are stolen than handed out
pub record IsBalanced (planning : Planning) (workers : ℕ) (t : Tally) : Type 0 where
  pub events : t.committed + t.aborted ≡ t.events
  pub settled : sum t.settled_by ≡ t.ops
  pub inside : (w : ℕ) → workers < w → slice_index t.settled_by w ≡ 0
  pub evaluated : t.evaluated + t.spread ≤ 8 * t.ops
  pub rolled : t.spread + t.rolled ≤ 7 * t.ops
  pub rest : slice_index t.settled_by 0 ≤ EVENT_OPS * t.left
  pub stolen : t.stolen ≤ t.handed
  pub alone : workers ≡ 1 → IsBalancedAlone t
  pub by : (s : Strategy) → planning ≡ Fixed s → IsBalancedBy s workers t

-- What is known of a run by its status. `told` is what it accepts, if that is revealed. The first few accepted batches
-- were run, each by a valid plan from the state before it, and these are counted. Their lines and their notes, each
-- batch's in turn, are what was written, with an audit line in front of the note of some of them if the balances are
-- watched. At 0 and 3 these are all accepted batches, and the end follows. At 4, 6 and 7 nothing follows. At 5 a write
-- failed at the last of these batches or at the end, and everything before it was written whole
pub record RunTold (asked : Request) (told : Option Accepted) (status : ℕ) (t : Tally)
    (old new : Outputs) : Type 0 where
  pub done : List (List Transaction)
  pub rest : List (List Transaction)
  pub accounts : List Account
  pub audits : List Bool
  pub parts : IfSome told (λ all. all.batches ≡ done ++ rest)
  pub ran : AreRunFrom asked.settings.planning opening_state no_last done accounts
  pub audited : AreAudits asked.settings accounts audits
  pub sound : All (IsSoundAccount asked.settings.workers) accounts
  pub checked : IsTrue (is_checked asked.settings.check) → All IsChecked accounts
  pub counts : IsTallyOf done accounts t
  pub founded : FollowsAccounts asked.settings.workers accounts t
  pub balanced : IsBalanced asked.settings.planning asked.settings.workers t
  -- At 0 and 3 the end was written behind the batches, and the tally was noted
  pub whole : (status ≡ 0) ⊎ (status ≡ 3) → (last : IsAtLast told rest)
      × (new ≡ with_both (with_batches old asked done accounts audits) (end_text asked.telling done last.ending)
      (closing_note asked.settings t))
  -- At 4, 6 and 7 reading failed, memory was refused or the input is too long, between two batches
  pub short : (status ≡ 4) ⊎ (status ≡ 6) ⊎ (status ≡ 7) → new ≡ with_batches old asked done accounts audits
  -- At 5 a write failed, at the last of these batches or at the end
  pub cut : status ≡ 5 → IsCutInBatch asked done accounts audits old new
      ⊎ ((last : IsAtLast told rest) × IsCutIn (with_batches old asked done accounts audits)
      (end_text asked.telling done last.ending) (closing_note asked.settings t) new)

-- What is known of a call that read its settings, over the whole input: what its run wrote, and the last line of the
-- notes behind that. A fault of the last line changes nothing: the status is 5 only if a write failed before it
pub record CallTold (asked : Request) (status : ℕ) (t : Tally) (before after : Streams) : Type 0 where
  pub ran : Outputs
  pub run : RunTold asked (option_map (accepted asked.meaning) asked.input) status t before.outputs ran
  pub sink : after.outputs.sink ≡ ran.sink
  -- The notes' count of faults before the last line
  pub before_last : ℕ
  pub cause : status ≡ 5 → HasRisen before.faults.sink after.faults.sink
      ⊎ (IsTrue (has_notes asked.settings) × HasRisen before.faults.notes before_last)
  pub steady : (status ≡ 5 → ⊥) → before_last ≡ before.faults.notes
  pub last : EndsNotes status ran.notes after.outputs.notes before_last after.faults.notes
