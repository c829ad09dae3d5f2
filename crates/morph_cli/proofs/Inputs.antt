-- How a run ends by the application and by whose input it is.
use Rattle.std.proofs.Common.{◌≡◌, ℕ, arith, List, Option, Some, None, Result, Ok, Err, refl, sym, subst}
use Rattle.std.specs.Prelude.{IsErrOf}
use Rattle.event_reader.specs.Steps.{Meaning}
use Rattle.event_reader.specs.Accepted.{Ended, accepted_within}
use Rattle.event_reader.specs.GeneratedText.{generated_text}
use Rattle.morph_cli.specs.declared.fault.Fault.{Fault}
use Rattle.morph_cli.specs.declared.fault.Fault.TheVariants.{Read, Write, OutOfMemory, TooLong}
use Rattle.morph_cli.specs.declared.run.Finish.{Finish}
use Rattle.morph_cli.specs.declared.run.Finish.TheVariants.{Complete, Refused}
use Rattle.run_text.specs.declared.choices.App.{App}
use Rattle.run_text.specs.declared.choices.Generated.{Generated}
use Rattle.run_text.specs.declared.choices.Settings.{Settings}
use Rattle.morph_cli.specs.Apps.{drawn_in, event_in, input_by, left_by, name_in, tables_in}
use Rattle.morph_cli.specs.Requests.{request_in, request_of}
use Rattle.morph_cli.specs.RunContract.{RunDoes}
use Rattle.morph_cli.specs.Streams.{FaultCounts, Streams, fault_counts, streams_of}
use Rattle.morph_cli.specs.Runs.{EndsSo, EndsMade}
use Rattle.run_text.specs.declared.tally.Tally.{Tally}
use Rattle.run_text.specs.Text.{Telling}

module _ (meaning : Meaning) (telling : Telling) (limit : ℕ) (input : List ℕ) (left left' old new : Option (List ℕ)) where
  -- what is left of the input matters where reading fails alone
  pub left_apart : (r : Result Finish Fault) → (IsErrOf r Read → ⊥) → EndsSo meaning telling limit input left old r new → EndsSo meaning telling limit input left' old r new
  left_apart (Ok Complete) reads ends = ends
  left_apart (Ok Refused) reads ends = ends
  left_apart (Err Read) reads ends = absurd (reads refl)
  left_apart (Err Write) reads ends = ends
  left_apart (Err OutOfMemory) reads ends = ends
  left_apart (Err TooLong) reads ends = ends

  -- an input all of whose lines are accepted within the limit
  pub made_ends : (r : Result Finish Fault) → (IsErrOf r Read → ⊥) → (accepted_within meaning limit input).ending ≡ Ended →
      EndsSo meaning telling limit input left old r new → EndsMade r
  made_ends (Ok Complete) reads ended ends = tt
  made_ends (Ok Refused) reads ended (line, cause, at, appended) = absurd (cc)
  made_ends (Err Read) reads ended ends = absurd (reads refl)
  made_ends (Err Write) reads ended ends = tt
  made_ends (Err OutOfMemory) reads ended ends = tt
  made_ends (Err TooLong) reads ended ends = let cut = ends.0 in absurd (cc)

-- what a run does, by whose input it is
pub does_source : {r : Result Finish Fault} {t : Tally} (event_of : ℕ → Meaning) (tables : ℕ) (name : ℕ → List ℕ) (s : Settings) (text : ℕ → ℕ → List ℕ) (before : Streams)
    (left sink notes : Option (List ℕ)) (faults : FaultCounts) → s.generated ≡ None → RunDoes (request_of event_of tables name s before.left) r t before (streams_of left sink notes faults)
    → RunDoes (request_of event_of tables name s (input_by s.generated text before.left)) r t before (streams_of (left_by s.generated left) sink notes faults)
does_source {r} {t} event_of tables name s text before left sink notes faults none does =
    subst (λ o. RunDoes (request_of event_of tables name s (input_by o text before.left)) r t before (streams_of (left_by o left) sink notes faults)) (sym none) does

pub does_made : {r : Result Finish Fault} {t : Tally} (event_of : ℕ → Meaning) (tables : ℕ) (name : ℕ → List ℕ) (s : Settings) (text : ℕ → ℕ → List ℕ) (g : Generated)
    (left sink sink' notes notes' : Option (List ℕ)) (k m m' n n' : ℕ) → s.generated ≡ Some g
    → RunDoes (request_of event_of tables name s (Some (text g.seed g.events))) r t (streams_of None sink notes (fault_counts 0 m n)) (streams_of None sink' notes' (fault_counts 0 m' n'))
    → RunDoes (request_of event_of tables name s (input_by s.generated text left)) r t (streams_of left sink notes (fault_counts k m n)) (streams_of (left_by s.generated left) sink' notes' (fault_counts k m' n'))
does_made {r} {t} event_of tables name s text g left sink sink' notes notes' k m m' n n' some does =
    subst (λ o. RunDoes (request_of event_of tables name s (input_by o text left)) r t (streams_of left sink notes (fault_counts k m n)) (streams_of (left_by o left) sink' notes' (fault_counts k m' n'))) (sym some)
    (record {
      ends = does.ends;
      told = does.told;
      faults = record {
        source = omega arith;
        sink = does.faults.sink;
        notes = does.faults.notes;
        read = λ failed. absurd (let risen = does.faults.read failed in omega (arith, risen (omega arith)));
        unread = λ none other. refl;
        write = does.faults.write;
        steady = does.faults.steady;
      };
    })

-- and by the application
abbrev DoesIn : Settings → Option (List ℕ) → Result Finish Fault → Tally → (before after : Streams) → App → Type 0
DoesIn s left r t before after app =
    RunDoes (request_of (event_in app) (tables_in app) (name_in app) s (input_by s.generated (generated_text (drawn_in app s.size)) left)) r t before after

pub does_in_app : {r : Result Finish Fault} {t : Tally} {before after : Streams} (s : Settings) (left : Option (List ℕ)) (app : App) → s.app ≡ app → DoesIn s left r t before after app
    → RunDoes (request_in s left) r t before after
does_in_app {r} {t} {before} {after} s left app is does = subst (DoesIn s left r t before after) (sym is) does
