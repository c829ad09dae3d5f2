-- What a batch counts: who settled its operations, and how the numbers fit together
use Rattle.std.specs.Prelude.{◌≡◌, ℕ, ◌+◌, ◌*◌, ◌≤◌, ◌==◌, ◌&&◌, Bool, not, List, All, length, count_by, sum_by, slice_index}
use Rattle.morph_base.specs.declared.limits.TheConstants.{EVENT_OPS}
use Rattle.morph_base.specs.declared.plan.Plan.{Plan}
use Rattle.morph_base.specs.declared.strategy.Abort.{Abort}
use Rattle.morph_base.specs.declared.strategy.Abort.TheVariants.{Lazy}
use Rattle.morph_base.specs.declared.strategy.Explore.{Explore}
use Rattle.morph_base.specs.declared.strategy.Explore.TheVariants.{Strata, Steal}
use Rattle.morph_base.specs.declared.strategy.Strategy.{Strategy}
use Rattle.morph_base.specs.Graphs.{below}
use Rattle.morph_base.specs.Guesses.{stale_count}
use Rattle.morph_base.specs.Plans.{op_count, event_of, verdict}
use Rattle.interleaving_core.specs.declared.event.CoreEvent.{CoreEvent}
use Rattle.op_words.specs.declared.answers.Counts.{Counts}
use Rattle.op_words.specs.Closing.{journal_of}
use Rattle.steal_explorer.specs.Dealing.{level_one}
use Rattle.morph_engine.specs.declared.engine.BatchEnd.{BatchEnd}
use Rattle.morph_engine.specs.Caps.{cap_for}

-- The numbers of a batch: its plan and its strategy; for each operation the worker that settled it, or 0 if the plain
-- finish did; how often operations were evaluated, spread and rolled back; how many causes were kept why an event was
-- left to the plain finish; how many operations were handed out to workers and stolen; and the journal, which is empty
-- if none was kept
pub record Account : Type 0 where
  pub plan : Plan
  pub strategy : Strategy
  pub by : List ℕ
  pub counts : Counts
  pub left : ℕ
  pub handed : ℕ
  pub stolen : ℕ
  pub journal : List CoreEvent

-- The numbers of a batch's end
abbrev pub account_of : BatchEnd → Account
account_of e = record {
  plan = e.plan;
  strategy = e.strategy;
  by = e.settled.by.items;
  counts = e.counts;
  left = sum_by (λ list. length list.items) e.left.items;
  handed = e.handed;
  stolen = e.stolen;
  journal = journal_of e.closed;
}

-- How many operations this worker settled
abbrev pub settled_by : List ℕ → ℕ → ℕ
settled_by by worker = count_by (λ t. t == worker) by

-- The test whether the operation is one of a committed event, and a worker settled it
abbrev pub is_committed_by_worker : Plan → List ℕ → ℕ → Bool
is_committed_by_worker p by o = verdict p (event_of p o) && not (slice_index by o == 0)

-- If there is one worker, nothing is left, it settles everything, and nothing is stolen. Under lazy abort it evaluates
-- twice the operations with a source whose guess is not its value, and by deques each operation is handed out once
pub record IsAccountAlone (explore : Explore) (abort : Abort) (a : Account) : Type 0 where
  pub none : a.left ≡ 0
  pub mine : settled_by a.by 1 ≡ op_count a.plan
  pub stolen : a.stolen ≡ 0
  pub evaluated : abort ≡ Lazy → a.counts.evaluated ≡ op_count a.plan + a.counts.rolled
  pub rolled : abort ≡ Lazy → a.counts.rolled ≡ stale_count a.plan
  pub handed : abort ≡ Lazy → explore ≡ Steal → a.handed ≡ op_count a.plan

-- The numbers of a batch fit together, if it was explored in this way, with this abort, and run by this many workers.
-- Only these workers settled operations, or 0 stands for the plain finish. The cap of the abort bounds the counts, and
-- nothing is spread under lazy abort. At most `EVENT_OPS` operations are left for each cause. No more operations are
-- stolen than handed out. By deques at least level 1 is handed out, and by strata nothing
pub record IsAccount (explore : Explore) (abort : Abort) (workers : ℕ) (a : Account) : Type 0 where
  pub each : length a.by ≡ op_count a.plan
  pub inside : All (λ t. t ≤ workers) a.by
  pub evaluated : a.counts.evaluated + a.counts.spread ≤ (cap_for abort + 1) * op_count a.plan
  pub spread : abort ≡ Lazy → a.counts.spread ≡ 0
  pub rolled : a.counts.spread + a.counts.rolled ≤ cap_for abort * op_count a.plan
  pub committed : count_by (is_committed_by_worker a.plan a.by) (below (op_count a.plan)) ≤ a.counts.evaluated
  pub rest : settled_by a.by 0 ≤ EVENT_OPS * a.left
  pub stolen : a.stolen ≤ a.handed
  pub dealt : explore ≡ Steal → length (level_one a.plan) ≤ a.handed
  pub by_strata : explore ≡ Strata → a.handed ≡ 0
  pub alone : workers ≡ 1 → IsAccountAlone explore abort a
