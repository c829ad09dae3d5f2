-- What is counted of the batches of a run, one batch at a time
use Rattle.std.specs.Prelude.{◌≡◌, ℕ, ◌+◌, ◌-◌, ◌<◌, ◌≤◌, ◌^◌, List, length, min, replicate, slice_index, sum}
use Rattle.morph_base.specs.Limits.{most_workers}
use Rattle.morph_base.specs.Outcomes.{Fate}
use Rattle.morph_base.specs.Plans.{event_count, op_count}
use Rattle.morph_engine.specs.Accounts.{Account, settled_by}
use Rattle.run_text.specs.declared.tally.Tally.{Tally}
use Rattle.run_text.specs.Text.{committed_in, aborted_in}

-- The tally of a run of no batch
abbrev pub no_tally : Tally
no_tally = record {
  batches = 0;
  events = 0;
  committed = 0;
  aborted = 0;
  ops = 0;
  evaluated = 0;
  spread = 0;
  rolled = 0;
  settled_by = replicate (most_workers + 1) 0;
  left = 0;
  handed = 0;
  stolen = 0;
}

-- The number n, or the greatest number that is counted, 2^64 - 1
abbrev pub counted_to : ℕ → ℕ
counted_to n = min n (2 ^ 64 - 1)

-- The numbers of a tally that do not stop have room for one more batch, by its account
pub record HasRoom (t : Tally) (a : Account) : Type 0 where
  pub batches : t.batches + 1 < 2 ^ 64
  pub events : t.events + event_count a.plan < 2 ^ 64
  pub counts : t.committed + t.aborted + event_count a.plan < 2 ^ 64
  pub ops : t.ops + op_count a.plan < 2 ^ 64
  pub evaluated : t.evaluated + a.counts.evaluated < 2 ^ 64
  pub spread : t.spread + a.counts.spread < 2 ^ 64
  pub rolled : t.rolled + a.counts.rolled < 2 ^ 64
  pub workers : length t.settled_by ≡ most_workers + 1
  pub settled : sum t.settled_by + length a.by < 2 ^ 64

-- One more batch was counted, by its account and the fates of its events. The causes that were left, and the operations
-- that were handed out and stolen, are counted up to the greatest number
pub record CountsBatch (old new : Tally) (a : Account) (fs : List Fate) : Type 0 where
  pub batches : new.batches ≡ old.batches + 1
  pub events : new.events ≡ old.events + length fs
  pub committed : new.committed ≡ old.committed + committed_in fs
  pub aborted : new.aborted ≡ old.aborted + aborted_in fs
  pub both : new.committed + new.aborted ≡ old.committed + old.aborted + length fs
  pub ops : new.ops ≡ old.ops + op_count a.plan
  pub evaluated : new.evaluated ≡ old.evaluated + a.counts.evaluated
  pub spread : new.spread ≡ old.spread + a.counts.spread
  pub rolled : new.rolled ≡ old.rolled + a.counts.rolled
  -- Operations are counted for each worker, and at 0 for the plain finish, and for all of them together
  pub settled : (w : ℕ) → w ≤ most_workers
      → slice_index new.settled_by w ≡ slice_index old.settled_by w + settled_by a.by w
  pub settled_all : sum new.settled_by ≡ sum old.settled_by + length a.by
  pub workers : length new.settled_by ≡ most_workers + 1
  pub left : new.left ≡ counted_to (old.left + a.left)
  pub handed : new.handed ≡ counted_to (old.handed + a.handed)
  pub stolen : new.stolen ≡ counted_to (old.stolen + a.stolen)
  -- The number of operations fits
  pub fits : new.ops < 2 ^ 64
