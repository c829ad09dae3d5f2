-- Inside the crate: the unfinished batch of a reader
use Rattle.std.specs.Prelude.{◌≡◌, ℕ, ◌+◌, ◌<◌, ◌≤◌, List, [], ◌∷◌, ◌++◌, length, Option, Some, None}
use Rattle.std.specs.List.{All}
use Rattle.morph_base.specs.declared.key.Layout.{Layout}
use Rattle.morph_base.specs.Transactions.{Transaction, IsBatchOf, HasKeysIn, HasHigh, transactions_of}
use Rattle.event_reader.specs.declared.cause.Cause.{Cause}
use Rattle.event_reader.specs.declared.pending.Pending.{Pending}
use Rattle.event_reader.specs.declared.pending.LineEffect.{LineEffect}
use Rattle.event_reader.specs.declared.pending.LineEffect.TheVariants.{GoesOn, Closes as ClosesBatch, Refuses as RefusesLine}
use Rattle.event_reader.specs.declared.version.Version.{Version}
use Rattle.event_reader.specs.Versions.{greatest_of}
use Rattle.event_reader.specs.Times.{is_among}
use Rattle.event_reader.specs.Lines.{Reading, with_line}
use Rattle.event_reader.specs.Steps.{Rules, Adds, Refuses, latest_with, has_time, joining}
use Rattle.event_reader.specs.Accepted.{RefusedAt, accepted_from, with_batch}

-- The events of the unfinished batch, as transactions
abbrev pub batch_of : Pending → List Transaction
batch_of pending = transactions_of pending.batch

-- What is noted beside the events is right: their timestamps, and the greatest timestamp of all batches once this one
-- is closed too
pub record Notes (closed : ℕ) (pending : Pending) : Type 0 where
  pub times : (t : ℕ) → is_among pending.times t ≡ has_time (batch_of pending) t
  pub latest : pending.latest ≡ latest_with (batch_of pending) closed

-- The events are a valid batch, with their keys in the layout, and with the greatest value of the version
pub record IsSoundBatch (version : Version) (layout : Layout) (batch : List Transaction) : Type 0 where
  pub valid : IsBatchOf batch
  pub keys : All (HasKeysIn layout) batch
  pub limits : All (HasHigh (greatest_of version)) batch

-- What lines are of: the version of the input, and the layout of its keys
pub record InputForm : Type 0 where
  pub version : Version
  pub layout : Layout

-- The unfinished batch has one more event
pub record HasMore (most closed : ℕ) (old : Pending) (e : Transaction) (new : Pending) : Type 0 where
  pub joins : joining most closed (batch_of old) e ≡ Adds e
  pub events : batch_of new ≡ batch_of old ++ e ∷ []
  pub notes : Notes closed new

-- An event joins the batch, or is refused with the first cause that applies of late, twice and full
abbrev pub Joins : (most closed : ℕ) → (old : Pending) → Transaction → (new : Pending) → Option Cause → Type 0
Joins most closed old e new None = HasMore most closed old e new
Joins most closed old e new (Some cause) = joining most closed (batch_of old) e ≡ Refuses cause

-- After the line the batch goes on, with at most one more event
pub record GoesOnAfter (rules : Rules) (form : InputForm) (closed : ℕ) (old : Pending) (line : List ℕ)
    (new : Pending) : Type 0 where
  pub leads : (n : ℕ) (r : Reading)
      → accepted_from rules n closed (batch_of old) (with_line line r) ≡ accepted_from rules (n + 1) closed (batch_of new) r
  pub notes : Notes closed new
  pub sound : IsSoundBatch form.version form.layout (batch_of new)
  pub more : length (batch_of new) ≤ length (batch_of old) + 1

-- The line closes the batch, which has an event
pub record ClosedBy (rules : Rules) (closed : ℕ) (old : Pending) (line : List ℕ) (new : Pending) : Type 0 where
  pub leads : (n : ℕ) (r : Reading)
      → accepted_from rules n closed (batch_of old) (with_line line r) ≡ with_batch (batch_of old) (accepted_from rules (n + 1) old.latest [] r)
  pub same : new ≡ old
  pub some : 0 < length (batch_of old)

-- What a line does to the unfinished batch, whatever lines follow it
abbrev pub TakesLine : Rules → InputForm → (closed : ℕ) → (old : Pending) → (line : List ℕ) → (new : Pending)
    → LineEffect → Type 0
TakesLine rules form closed old line new GoesOn = GoesOnAfter rules form closed old line new
TakesLine rules form closed old line new ClosesBatch = ClosedBy rules closed old line new
TakesLine rules form closed old line new (RefusesLine cause) =
    (n : ℕ) (r : Reading) → accepted_from rules n closed (batch_of old) (with_line line r) ≡ record { batches = []; ending = RefusedAt (n + 1) cause }
