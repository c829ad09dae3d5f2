-- Inside the crate: what counts and writes the results of batches that are run while the next ones are read
use Rattle.std.specs.Prelude.{◌≡◌, ℕ, ◌+◌, ◌*◌, ◌≤◌, ◌⊎◌, Bool, true, false, List, [], length, sum, None, IsTrue}
use Rattle.morph_base.specs.Limits.{most_workers}
use Rattle.morph_base.specs.declared.limits.TheConstants.{EVENT_OPS, EVENTS}
use Rattle.morph_engine.specs.Accounts.{account_of}
use Rattle.morph_engine.specs.Fates.{settled_fates}
use Rattle.morph_io.specs.Told.{HasRisen}
use Rattle.batch_pipe.specs.declared.items.Ran.{Ran}
use Rattle.run_text.specs.declared.choices.Settings.{Settings}
use Rattle.run_text.specs.declared.tally.Tally.{Tally}
use Rattle.run_text.specs.Checks.{is_checked}
use Rattle.run_text.specs.Counts.{CountsBatch}
use Rattle.morph_cli.specs.Batches.{lines_of_batch, note_of_batch}
use Rattle.morph_cli.specs.Outputs.{Outputs, with_both, IsCutIn}

-- A teller between two batches: its settings, what is not yet written, the tally, what stands in the outputs, and the
-- counts of faults
pub record TellerView : Type 0 where
  pub settings : Settings
  pub out : List ℕ
  pub tally : Tally
  pub outputs : Outputs
  pub sink_faults : ℕ
  pub notes_faults : ℕ

-- The teller with these parts
abbrev pub teller_view : Settings → (out : List ℕ) → Tally → Outputs → (sink_faults notes_faults : ℕ) → TellerView
teller_view settings out tally outputs sink_faults notes_faults = record {
  settings = settings;
  out = out;
  tally = tally;
  outputs = outputs;
  sink_faults = sink_faults;
  notes_faults = notes_faults;
}

-- The tally is of fewer batches than this number, each as large as a batch can be
pub record IsTallyBefore (number : ℕ) (t : Tally) : Type 0 where
  pub batches : t.batches + 1 ≤ number
  pub events : t.events ≤ EVENTS * t.batches
  pub both : t.committed + t.aborted ≡ t.events
  pub ops : t.ops ≤ EVENT_OPS * EVENTS * t.batches
  pub evaluated : t.evaluated + t.spread ≤ 8 * t.ops
  pub rolled : t.spread + t.rolled ≤ 7 * t.ops
  pub settled : sum t.settled_by ≡ t.ops
  pub workers : length t.settled_by ≡ most_workers + 1

-- The teller can count and write the batch with this number next: all before it is written, no journal is checked, and
-- its tally is of the batches before
pub record CanTell (number : ℕ) (v : TellerView) : Type 0 where
  pub empty : v.out ≡ []
  pub unchecked : is_checked v.settings.check ≡ false
  pub few : IsTallyBefore number v.tally

-- The lines and the note of a batch were written, or one of the two writes failed
abbrev pub WritesRan : (all : Bool) → Outputs → (text note : List ℕ) → Outputs → Type 0
WritesRan true old text note new = new ≡ with_both old text note
WritesRan false old text note new = IsCutIn old text note new

-- The teller counted the batch, and wrote its lines and its note. If not `all`, one of the writes failed, and its
-- count of faults rose
pub record TellsRan (old : TellerView) (ran : Ran) (all : Bool) (new : TellerView) : Type 0 where
  pub settings : new.settings ≡ old.settings
  pub adds : CountsBatch old.tally new.tally (account_of ran.end) (settled_fates ran.end.plan ran.end.settled)
  pub written : WritesRan all old.outputs (lines_of_batch old.settings ran.end)
      (note_of_batch old.settings new.tally.batches None ran.end) new.outputs
  pub empty : all ≡ true → new.out ≡ []
  pub sink_faults : old.sink_faults ≤ new.sink_faults
  pub notes_faults : old.notes_faults ≤ new.notes_faults
  pub steady : all ≡ true → (new.sink_faults ≡ old.sink_faults) × (new.notes_faults ≡ old.notes_faults)
  pub cause : all ≡ false → HasRisen old.sink_faults new.sink_faults
      ⊎ (IsTrue old.settings.notes × HasRisen old.notes_faults new.notes_faults)
