-- Inside the crate: what a run of an application does, from its first read to its last write
use Rattle.std.specs.Prelude.{◌≡◌, ◌≤◌, ◌⊎◌, option_map, IfSome, IsErrOf, IsTrue, Result}
use Rattle.event_reader.specs.Accepted.{accepted_within}
use Rattle.morph_io.specs.Told.{HasRisen}
use Rattle.run_text.specs.declared.choices.Settings.{Settings}
use Rattle.run_text.specs.declared.tally.Tally.{Tally}
use Rattle.morph_cli.specs.declared.fault.Fault.{Fault}
use Rattle.morph_cli.specs.declared.fault.Fault.TheVariants.{Read, Write}
use Rattle.morph_cli.specs.declared.run.Finish.{Finish}
use Rattle.morph_cli.specs.Headline.{input_limit}
use Rattle.morph_cli.specs.Outputs.{has_notes}
use Rattle.morph_cli.specs.Requests.{Request}
use Rattle.morph_cli.specs.Runs.{EndsSo}
use Rattle.morph_cli.specs.Status.{status_of}
use Rattle.morph_cli.specs.Streams.{FaultCounts, Streams}
use Rattle.morph_cli.specs.Tallies.{RunTold}

-- How the counts of faults go on in a run with this answer. None falls. The source's rises if a read failed, and, if
-- nothing is read ahead, only then. Of the outputs one rises if a write failed, and none rises otherwise. That of the
-- notes rises only if they are written to
pub record FaultsGoOn (s : Settings) (answer : Result Finish Fault) (before after : FaultCounts) : Type 0 where
  pub source : before.source ≤ after.source
  pub sink : before.sink ≤ after.sink
  pub notes : before.notes ≤ after.notes
  pub read : IsErrOf answer Read → HasRisen before.source after.source
  pub unread : s.ahead ≡ 0 → (IsErrOf answer Read → ⊥) → after.source ≡ before.source
  pub write : IsErrOf answer Write
      → HasRisen before.sink after.sink ⊎ (IsTrue (has_notes s) × HasRisen before.notes after.notes)
  pub steady : (IsErrOf answer Write → ⊥) → (after.sink ≡ before.sink) × (after.notes ≡ before.notes)

-- A run that was asked for did all that it had to, up to this answer: how it ends by its input, what it counted and
-- wrote, and which faults there were
pub record RunDoes (asked : Request) (answer : Result Finish Fault) (t : Tally) (before after : Streams) : Type 0 where
  pub ends : IfSome asked.input (λ input.
      EndsSo asked.meaning asked.telling input_limit input after.left before.outputs.sink answer after.outputs.sink)
  pub told : RunTold asked (option_map (accepted_within asked.meaning input_limit) asked.input) (status_of answer) t
      before.outputs after.outputs
  pub faults : FaultsGoOn asked.settings answer before.faults after.faults
