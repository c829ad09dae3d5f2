-- What a run is asked for
use Rattle.std.specs.Prelude.{ℕ, List, Option}
use Rattle.event_reader.specs.Steps.{Meaning}
use Rattle.run_text.specs.declared.choices.Settings.{Settings}
use Rattle.run_text.specs.Text.{Telling}
use Rattle.morph_cli.specs.Apps.{input_of, meaning_of, telling_for, telling_of}

-- What a run is asked for: what a line says, how the run is reported, its settings, and its input, if that is revealed
pub record Request : Type 0 where
  pub meaning : Meaning
  pub telling : Telling
  pub settings : Settings
  pub input : Option (List ℕ)

-- What a run of an application is asked for, by what its lines say and by its tables
abbrev pub request_of : (event_of : (size : ℕ) → Meaning) → (tables : ℕ) → (name : ℕ → List ℕ) → Settings
    → (input : Option (List ℕ)) → Request
request_of event_of tables name s input = record {
  meaning = event_of s.size;
  telling = telling_for s tables name;
  settings = s;
  input = input;
}

-- What a run of the application that the settings name is asked for
abbrev pub request_in : Settings → (left : Option (List ℕ)) → Request
request_in s left = record {
  meaning = meaning_of s;
  telling = telling_of s;
  settings = s;
  input = input_of s left;
}
