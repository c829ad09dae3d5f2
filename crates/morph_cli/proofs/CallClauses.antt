-- What is said of the whole call, from what is said of the run.
use Rattle.std.proofs.Common.{◌≡◌, ◌≤◌, ◌⊎◌, ◌∙◌, arith, inl, inr, ℕ, List, Option, Some, None, Result, Ok, Err, refl, sym, ap, subst}
use Rattle.std.specs.Prelude.{option_map, IfSome, IsErrOf, IsTrue}
use Rattle.event_reader.specs.declared.limits.TheConstants.{INPUT_BYTES}
use Rattle.morph_cli.specs.declared.fault.Fault.{Fault}
use Rattle.morph_cli.specs.declared.fault.Fault.TheVariants.{Read, Write, OutOfMemory, TooLong}
use Rattle.morph_cli.specs.declared.run.Finish.{Finish}
use Rattle.morph_cli.specs.declared.run.Finish.TheVariants.{Complete, Refused}
use Rattle.run_text.specs.declared.choices.Settings.{Settings}
use Rattle.run_text.specs.declared.tally.Tally.{Tally}
use Rattle.morph_cli.specs.RunContract.{RunDoes}
use Rattle.morph_cli.specs.Runs.{EndsSo, EndsMade}
use Rattle.morph_cli.specs.Status.{EndsNotes, status_of, IsMadeStatus}
use Rattle.event_reader.specs.Accepted.{accepted, accepted_within}
use Rattle.morph_cli.specs.Outputs.{has_notes}
use Rattle.morph_cli.specs.Requests.{Request}
use Rattle.morph_cli.specs.Streams.{Streams, streams_of}
use Rattle.morph_cli.specs.Tallies.{IsBalanced, RunTold, CallTold}
use Rattle.morph_io.specs.Told.{HasRisen}
use Rattle.morph_cli.proofs.NoteLaws.{risen_before}
use Rattle.morph_cli.specs.Headline.{Headline, Completes}
use Rattle.morph_cli.proofs.Headlines.{headline, completes, told_all}

-- what holds of the settings holds of what the words ask for
pub asked_so : (P : Settings → Type 0) {asked : Option Settings} {s : Settings} → asked ≡ Some s → P s → IfSome asked P
asked_so P is holds = subst (λ o. IfSome o P) (sym is) holds

-- a status of a failed write
is_write : (r : Result Finish Fault) → status_of r ≡ 5 → IsErrOf r Write
is_write (Ok Complete) five = absurd (omega (arith, five))
is_write (Ok Refused) five = absurd (omega (arith, five))
is_write (Err Read) five = absurd (omega (arith, five))
is_write (Err Write) five = refl
is_write (Err OutOfMemory) five = absurd (omega (arith, five))
is_write (Err TooLong) five = absurd (omega (arith, five))

-- over whatever application and input
module _ {asked : Request} {r : Result Finish Fault} {t : Tally} {before after : Streams} (status : ℕ) (status_is : status ≡ status_of r) (does : RunDoes asked r t before after) where
  pub headline_so : IfSome asked.input (λ input. Headline asked.meaning asked.telling INPUT_BYTES input after.left before.outputs.sink after.outputs.sink status)
  headline_so = by_input asked.input does.ends
    where
      by_input : (o : Option (List ℕ)) → IfSome o (λ input. EndsSo asked.meaning asked.telling INPUT_BYTES input after.left before.outputs.sink r after.outputs.sink)
          → IfSome o (λ input. Headline asked.meaning asked.telling INPUT_BYTES input after.left before.outputs.sink after.outputs.sink status)
      by_input None ends = tt
      by_input (Some input) ends = rw status_is (headline asked.meaning asked.telling INPUT_BYTES input after.left before.outputs.sink after.outputs.sink r ends)

  pub completes_so : (HasRisen before.faults.source after.faults.source → ⊥) → (status ≡ 5 → ⊥) → IfSome asked.input (λ input. Completes asked.meaning INPUT_BYTES input status)
  completes_so no_read no_write = by_input asked.input does.ends
    where
      by_input : (o : Option (List ℕ)) → IfSome o (λ input. EndsSo asked.meaning asked.telling INPUT_BYTES input after.left before.outputs.sink r after.outputs.sink)
          → IfSome o (λ input. Completes asked.meaning INPUT_BYTES input status)
      by_input None ends = tt
      by_input (Some input) ends =
          rw status_is (completes asked.meaning asked.telling INPUT_BYTES input after.left before.outputs.sink after.outputs.sink r ends
          (λ is. no_read (does.faults.read is)) (λ is. no_write (status_is ∙ ap status_of is)))

  -- what is told of the call, over the whole input
  pub told_so : {t' : Tally} (left notes : Option (List ℕ)) (last : ℕ) → t' ≡ t → EndsNotes (status_of r) after.outputs.notes notes after.faults.notes last
      → CallTold asked status t' before (streams_of left after.outputs.sink notes (record after.faults { notes = last }))
  told_so left notes last same ends = record {
    ran = after.outputs;
    run = rw (status_is, same) (by_input asked.input does.ends does.told);
    sink = refl;
    before_last = after.faults.notes;
    cause = λ five. does.faults.write (is_write r (sym status_is ∙ five));
    steady = λ other. (does.faults.steady (λ is. other (status_is ∙ ap status_of is))).1;
    last = rw status_is ends;
  }
    where
      by_input : (o : Option (List ℕ)) → IfSome o (λ input. EndsSo asked.meaning asked.telling INPUT_BYTES input after.left before.outputs.sink r after.outputs.sink)
          → RunTold asked (option_map (accepted_within asked.meaning INPUT_BYTES) o) (status_of r) t before.outputs after.outputs
          → RunTold asked (option_map (accepted asked.meaning) o) (status_of r) t before.outputs after.outputs
      by_input None ends told = told
      by_input (Some input) ends told = told_all asked INPUT_BYTES input after.left r t before.outputs after.outputs ends told

  pub write_so : (last : ℕ) → after.faults.notes ≤ last → status ≡ 5
      → HasRisen before.faults.sink after.faults.sink ⊎ (IsTrue (has_notes asked.settings) × HasRisen before.faults.notes last)
  write_so last later five = by_cause (does.faults.write (is_write r (sym status_is ∙ five)))
    where
      by_cause : HasRisen before.faults.sink after.faults.sink ⊎ (IsTrue (has_notes asked.settings) × HasRisen before.faults.notes after.faults.notes)
          → HasRisen before.faults.sink after.faults.sink ⊎ (IsTrue (has_notes asked.settings) × HasRisen before.faults.notes last)
      by_cause (inl sunk) = inl sunk
      by_cause (inr noted) = inr (noted.0, risen_before before.faults.notes after.faults.notes last later noted.1)

  pub balanced_so : {t' : Tally} → t' ≡ t → IsBalanced asked.settings.planning asked.settings.workers t'
  balanced_so same = rw same does.told.balanced

  pub steady_so : (status ≡ 5 → ⊥) → after.faults.sink ≡ before.faults.sink
  steady_so other = (does.faults.steady (λ is. other (status_is ∙ ap status_of is))).0

  pub unread_so : asked.settings.ahead ≡ 0 → (status ≡ 4 → ⊥) → after.faults.source ≡ before.faults.source
  unread_so none other = does.faults.unread none (λ is. other (status_is ∙ ap status_of is))

-- the status of a run over an input that the program makes
made_status : (r : Result Finish Fault) → EndsMade r → IsMadeStatus (status_of r)
made_status (Ok Complete) made = inl refl
made_status (Ok Refused) made = absurd made
made_status (Err Read) made = absurd made
made_status (Err Write) made = inr (inl refl)
made_status (Err OutOfMemory) made = inr (inr refl)
made_status (Err TooLong) made = absurd made

pub made_so : {P Q : Type 0} (r : Result Finish Fault) (status : ℕ) → status ≡ status_of r → (P → Q × EndsMade r) → P → Q × IsMadeStatus status
made_so r status is made some = let m = made some in (m.0, rw is (made_status r m.1))
