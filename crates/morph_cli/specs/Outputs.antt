-- What stands in the sink and in the notes, by the order of the writes: the lines of a batch, its audit line and its
-- own line in the notes, then those of the next batch, and at the end the closing or the refused text, and then the
-- tally
use Rattle.std.specs.Prelude.{◌≡◌, ℕ, ◌+◌, ◌⊎◌, ◌||◌, Bool, true, false, All, List, [], ◌∷◌, ◌++◌, length, Option, Some, None, IfSome, Result, Ok, Err}
use Rattle.morph_base.specs.Transactions.{Transaction, by_time}
use Rattle.morph_engine.specs.Accounts.{Account}
use Rattle.morph_base.specs.Outcomes.{fates}
use Rattle.morph_base.specs.States.{State, opening_state, after_all}
use Rattle.morph_io.specs.Told.{behind}
use Rattle.morph_io.specs.SinkWrites.{AppendsPart}
use Rattle.event_reader.specs.Accepted.{Accepted, Ending, CutOff}
use Rattle.run_text.specs.declared.choices.Settings.{Settings}
use Rattle.run_text.specs.Text.{event_lines, told_lines, run_state}
use Rattle.run_text.specs.declared.tally.Tally.{Tally}
use Rattle.run_text.specs.Notes.{noted, audit_note, batch_note, check_notes, closing_notes}
use Rattle.run_text.specs.Checks.{is_checked}
use Rattle.snapshot_reader.specs.declared.viewer.Total.{Total}
use Rattle.version_table.specs.Totals.{total_of}
use Rattle.morph_cli.specs.Requests.{Request}

-- The bytes that the sink and the notes reveal to have been written to them
pub record Outputs : Type 0 where
  pub sink : Option (List ℕ)
  pub notes : Option (List ℕ)

-- The outputs of this sink and these notes
abbrev pub outputs_of : (sink notes : Option (List ℕ)) → Outputs
outputs_of sink notes = record { sink = sink; notes = notes }

-- The outputs after a text was written to the sink, and then a note to the notes
abbrev pub with_both : Outputs → (text note : List ℕ) → Outputs
with_both old text note = outputs_of (behind old.sink text) (behind old.notes note)

-- One of the two writes failed: either a part of the text was written and nothing of the note, or the whole text and a
-- part of the note. Something is missing of what was cut
abbrev pub IsCutIn : Outputs → (text note : List ℕ) → Outputs → Type 0
IsCutIn old text note new =
    (AppendsPart old.sink text new.sink × (new.notes ≡ old.notes)) ⊎ ((new.sink ≡ behind old.sink text) × AppendsPart old.notes note new.notes)

-- The text and the note were written, if the call's answer is a success, and else one of the two writes failed
abbrev pub WritesBoth : {T E : Type 0} → Result T E → Outputs → (text note : List ℕ) → Outputs → Type 0
WritesBoth (Ok done) old text note new = new ≡ with_both old text note
WritesBoth (Err fault) old text note new = IsCutIn old text note new

-- The test whether a batch is mentioned in the notes: if they are on, the balances are watched, or journals are checked
abbrev pub has_notes : Settings → Bool
has_notes s = s.notes || (s.watch || is_checked s.check)

-- The audit line of what was seen; nothing if nothing was seen
abbrev pub audit_of : Option Total → List ℕ
audit_of None = []
audit_of (Some seen) = audit_note seen.number seen.total

-- The audit line of a batch, if it has one: how many batches are before it, and the sum of the first table in the state
-- before it
abbrev pub audit_before : (size : ℕ) → State → (before : ℕ) → (audited : Bool) → List ℕ
audit_before size s before true = audit_note before (total_of s 0 size)
audit_before size s before false = []

-- The line of a batch, if the notes are on, and then the outcome of its journal, if journals are checked
abbrev pub own_note : Settings → (number : ℕ) → Account → List ℕ
own_note s number a = noted s.notes (batch_note number a.plan a.strategy) ++ check_notes s.check number a.plan a.journal

-- What the notes have of a batch: its audit line, if it has one, and then what is noted of the batch itself
abbrev pub note_of : Settings → State → (before : ℕ) → (audited : Bool) → Account → List ℕ
note_of s state before audited a = audit_before s.size state before audited ++ own_note s (before + 1) a

-- What the notes have of batches that are run one after another from a state, with `before` batches before them
unfoldable pub notes_from : Settings → State → (before : ℕ) → List (List Transaction) → List Account
    → (audits : List Bool) → List ℕ
notes_from s state before [] accounts audits = []
notes_from s state before (batch ∷ batches) [] audits = []
notes_from s state before (batch ∷ batches) (a ∷ accounts) [] = []
notes_from s state before (batch ∷ batches) (a ∷ accounts) (audited ∷ audits) =
    note_of s state before audited a ++ notes_from s (after_all state (by_time batch)) (before + 1) batches accounts audits

-- For each of the batches that were run, `audits` says whether it has an audit line. None has one if the balances are
-- not watched
pub record AreAudits (s : Settings) (accounts : List Account) (audits : List Bool) : Type 0 where
  pub each : length audits ≡ length accounts
  pub unwatched : s.watch ≡ false → All (λ audited. audited ≡ false) audits

-- The outputs after batches that were run with these accounts were written and noted, whole
abbrev pub with_batches : Outputs → Request → List (List Transaction) → List Account → (audits : List Bool) → Outputs
with_batches old asked batches accounts audits =
    with_both old (event_lines asked.telling.report batches) (notes_from asked.settings opening_state 0 batches accounts audits)

-- What the notes have at the end: the tally, if they are on
abbrev pub closing_note : Settings → Tally → List ℕ
closing_note s t = noted s.notes (closing_notes s.workers t)

-- A write failed at the last of the batches that were run. Those before it were written and noted whole
pub record IsCutInBatch (asked : Request) (done : List (List Transaction)) (accounts : List Account)
    (audits : List Bool) (old new : Outputs) : Type 0 where
  pub before : List (List Transaction)
  pub before_accounts : List Account
  pub before_audits : List Bool
  pub batch : List Transaction
  pub account : Account
  pub audited : Bool
  pub done_is : done ≡ before ++ batch ∷ []
  pub accounts_is : accounts ≡ before_accounts ++ account ∷ []
  pub audits_is : audits ≡ before_audits ++ audited ∷ []
  pub cut : IsCutIn (with_batches old asked before before_accounts before_audits)
      (told_lines asked.telling.report (fates (run_state before) (by_time batch)))
      (note_of asked.settings (run_state before) (length before) audited account) new

-- The end of the input or a refused line was reached, and no batch is left
pub record IsAtLast (told : Option Accepted) (rest : List (List Transaction)) : Type 0 where
  pub ending : Ending
  pub ends : IfSome told (λ all. all.ending ≡ ending)
  pub reached : ending ≡ CutOff → ⊥
  pub none_left : rest ≡ []
