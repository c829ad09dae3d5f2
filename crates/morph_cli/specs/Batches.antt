-- Inside the crate: the result of a batch that was run, and what was seen of the balances beside it
use Rattle.std.specs.Prelude.{◌≡◌, ℕ, ◌⊎◌, List, [], ◌∷◌, ◌++◌, length, Option, Some, None, IfSome, IsTrue, Result, Ok, Err}
use Rattle.morph_base.specs.declared.batch.Batch.{Batch}
use Rattle.morph_base.specs.declared.key.Layout.{Layout}
use Rattle.morph_base.specs.declared.plan.Plan.{Plan}
use Rattle.morph_base.specs.Flat.{Kept, contents}
use Rattle.morph_base.specs.Transactions.{transactions_of, by_time}
use Rattle.morph_base.specs.States.{State, fold_batch}
use Rattle.morph_base.specs.Outcomes.{fates}
use Rattle.morph_base.specs.Plans.{IsSettledOf, PlanKeysIn}
use Rattle.decision_model.specs.declared.counts.Last.{Last}
use Rattle.morph_engine.specs.declared.engine.BatchEnd.{BatchEnd}
use Rattle.morph_engine.specs.Accounts.{account_of}
use Rattle.morph_engine.specs.Fates.{settled_fates}
use Rattle.decision_model.specs.Choices.{last_of}
use Rattle.run_text.specs.declared.choices.Settings.{Settings}
use Rattle.run_text.specs.declared.tally.Tally.{Tally}
use Rattle.run_text.specs.Counts.{CountsBatch}
use Rattle.run_text.specs.Checks.{is_checked}
use Rattle.run_text.specs.Reports.{report_of}
use Rattle.run_text.specs.Text.{told_lines}
use Rattle.snapshot_reader.specs.declared.viewer.Total.{Total}
use Rattle.snapshot_reader.specs.Batches.{after_plans}
use Rattle.snapshot_reader.specs.Steady.{Posted}
use Rattle.version_table.specs.Totals.{total_of}
use Rattle.morph_cli.specs.declared.fault.Fault.{Fault}
use Rattle.morph_cli.specs.declared.fault.Fault.TheVariants.{Read, Write, OutOfMemory as NoMemory, TooLong}
use Rattle.morph_cli.specs.Outputs.{Outputs, audit_of, own_note, with_both, IsCutIn}
use Rattle.morph_cli.specs.Strategies.{strategy_by}
use Rattle.morph_cli.specs.Tallies.{IsMadeOf, IsSoundAccount, IsChecked}

-- A batch was run on these values as the settings ask for: the fates of its events, its plan, what was settled, its
-- strategy and its account, whose journal was checked if journals are. `last` is the outcome of the batch before it
pub record IsEndOf (s : Settings) (last : Last) (before : Kept) (batch : Batch) (end : BatchEnd) : Type 0 where
  pub fates_are : settled_fates end.plan end.settled ≡ fates (contents before) (by_time (transactions_of batch))
  pub made : IsMadeOf (contents before) (transactions_of batch) end.plan
  pub keys : PlanKeysIn end.plan before.layout
  pub settled : IsSettledOf end.plan end.settled
  pub strategy : end.strategy ≡ strategy_by s.planning end.plan last
  pub account : IsSoundAccount s.workers (account_of end)
  pub checked : IsTrue (is_checked s.check) → IsChecked (account_of end)

-- What a viewer saw are the balances after all batches that were published: how many these are, and the sum of the
-- first table. If nothing is published, nothing is seen
abbrev pub IsSeen : Option Posted → Total → Type 0
IsSeen None total = ⊥
IsSeen (Some posted) total =
    (total.number ≡ length posted.plans) × (total.total ≡ total_of (after_plans posted.plans) 0 posted.layout.size)

-- What is published once one more batch is
abbrev pub with_plan : Plan → Posted → Posted
with_plan plan posted = record posted { plans = posted.plans ++ plan ∷ [] }

-- What is published once one more batch is, if anything is published at all
abbrev pub also_posted : Plan → Option Posted → Option Posted
also_posted plan None = None
also_posted plan (Some posted) = Some (with_plan plan posted)

-- The balances that are shown are those of the state s, after this many batches
pub record IsShown (layout : Layout) (batches : ℕ) (s : State) (posted : Posted) : Type 0 where
  pub layout_is : posted.layout ≡ layout
  pub count : length posted.plans ≡ batches
  pub state : after_plans posted.plans ≡ s

-- A point of a run between two batches: the outcome of the last batch, the values, what is published of them, the
-- tally, and what was written
pub record RunPoint : Type 0 where
  pub last : Last
  pub values : Kept
  pub posted : Option Posted
  pub tally : Tally
  pub outputs : Outputs

-- The point with these parts
abbrev pub run_point : Last → (values : Kept) → Option Posted → Tally → Outputs → RunPoint
run_point last values posted tally outputs =
    record { last = last; values = values; posted = posted; tally = tally; outputs = outputs }

-- A batch was run and counted from a point on: how it was run, and what was seen beside it
pub record IsBatchTaken (s : Settings) (batch : Batch) (before : RunPoint) (t : Tally) : Type 0 where
  pub end : BatchEnd
  pub audit : Option Total
  pub ran : IsEndOf s before.last before.values batch end
  pub seen : IfSome audit (IsSeen before.posted)
  pub adds : CountsBatch before.tally t (account_of end) (settled_fates end.plan end.settled)

-- The lines of a batch that was run
abbrev pub lines_of_batch : Settings → BatchEnd → List ℕ
lines_of_batch s end = told_lines (report_of s) (settled_fates end.plan end.settled)

-- What the notes have of a batch: what was seen beside it, and what is noted of the batch itself
abbrev pub note_of_batch : Settings → (number : ℕ) → Option Total → BatchEnd → List ℕ
note_of_batch s number audit end = audit_of audit ++ own_note s number (account_of end)

-- The batch was taken whole: it was written and noted, and the values are those after it
pub record IsTakenWhole (s : Settings) (batch : Batch) (before after : RunPoint) : Type 0 where
  pub taken : IsBatchTaken s batch before after.tally
  pub state : contents after.values ≡ fold_batch batch (contents before.values)
  pub written : after.outputs ≡ with_both before.outputs (lines_of_batch s taken.end)
      (note_of_batch s after.tally.batches taken.audit taken.end)

-- What a call did that writes a batch which was run. Either all of it was written and the batch was published, or a
-- write failed, and a part of it was written, or memory was refused to publish it
abbrev pub TellsBatch : {T : Type 0} → Result T Fault → Settings → BatchEnd → Option Total → (before after : RunPoint)
    → Type 0
TellsBatch (Ok done) s end audit before after =
    (after.outputs ≡ with_both before.outputs (lines_of_batch s end) (note_of_batch s after.tally.batches audit end))
    × (after.last ≡ last_of (settled_fates end.plan end.settled)) × (after.posted ≡ also_posted end.plan before.posted)
TellsBatch (Err Write) s end audit before after =
    IsCutIn before.outputs (lines_of_batch s end) (note_of_batch s after.tally.batches audit end) after.outputs
TellsBatch (Err NoMemory) s end audit before after =
    after.outputs ≡ with_both before.outputs (lines_of_batch s end) (note_of_batch s after.tally.batches audit end)
TellsBatch (Err Read) s end audit before after = ⊥
TellsBatch (Err TooLong) s end audit before after = ⊥

-- What a call did that takes a batch. Either all was done and the batch was published, or a write failed, and a part of
-- it was written, or memory was refused: to run it, and then nothing was done, or to publish it, and then all else was
abbrev pub TakesBatch : {T : Type 0} → Result T Fault → Settings → Batch → (before after : RunPoint) → Type 0
TakesBatch (Ok done) s batch before after =
    (whole : IsTakenWhole s batch before after)
    × (after.last ≡ last_of (settled_fates whole.taken.end.plan whole.taken.end.settled))
    × (after.posted ≡ also_posted whole.taken.end.plan before.posted)
TakesBatch (Err Write) s batch before after =
    (taken : IsBatchTaken s batch before after.tally) × IsCutIn before.outputs (lines_of_batch s taken.end)
    (note_of_batch s after.tally.batches taken.audit taken.end) after.outputs
TakesBatch (Err NoMemory) s batch before after =
    ((after.outputs ≡ before.outputs) × (after.tally ≡ before.tally)) ⊎ IsTakenWhole s batch before after
TakesBatch (Err Read) s batch before after = ⊥
TakesBatch (Err TooLong) s batch before after = ⊥
