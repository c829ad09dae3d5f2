-- How the counts of faults go on in a run, by what ended it.
use Rattle.std.proofs.Common.{◌≡◌, ◌⊎◌, inl, inr, ℕ, ◌<◌, ◌≤◌, List, Result, Err, refl, sym, ap, subst, ◌∙◌, arith}
use Rattle.std.specs.Prelude.{IsErrOf, IsTrue}
use Rattle.morph_io.specs.Told.{HasRisen}
use Rattle.event_reader.specs.declared.fault.ReaderFault.{ReaderFault}
use Rattle.event_reader.specs.declared.fault.ReaderFault.TheVariants.{ReadFault, TooLong as LongInput, OutOfMemory as NoMemory}
use Rattle.event_reader.specs.declared.limits.TheConstants.{INPUT_BYTES}
use Rattle.event_reader.specs.Steps.{Meaning}
use Rattle.run_text.specs.declared.choices.Settings.{Settings}
use Rattle.run_text.specs.declared.tally.Tally.{Tally}
use Rattle.run_text.specs.Counts.{no_tally}
use Rattle.morph_cli.specs.declared.fault.Fault.{Fault}
use Rattle.morph_cli.specs.declared.fault.Fault.TheVariants.{Read, Write, OutOfMemory as RunMemory}
use Rattle.morph_cli.specs.declared.run.Finish.{Finish}
use Rattle.morph_cli.specs.Faults.{fault_of}
use Rattle.morph_cli.specs.Outputs.{has_notes}
use Rattle.morph_cli.specs.Requests.{request_of}
use Rattle.morph_cli.specs.RunContract.{FaultsGoOn, RunDoes}
use Rattle.morph_cli.specs.Streams.{FaultCounts, Streams, fault_counts}
use Rattle.morph_cli.proofs.RunPoints.{course_of, ends_at_once, told_at_once}
use Rattle.morph_cli.proofs.TakenBatches.{error_same}

-- the counts are still those of the start
pub counts_still : {k k' m m' n n' : ℕ} {f : FaultCounts} → k' ≡ k → m' ≡ m → n' ≡ n → fault_counts k m n ≡ f → fault_counts k' m' n' ≡ f
counts_still {k} {k'} {m} {m'} {n} {n'} source sink notes is =
    ap (λ k. fault_counts k m' n') source ∙ ap (λ m. fault_counts k m n') sink ∙ ap (fault_counts k m) notes ∙ is

module _ (s : Settings) where
  -- no fault came before the call that ended the run
  pub faults_since : {r : Result Finish Fault} {f f' g : FaultCounts} → f' ≡ f → FaultsGoOn s r f' g → FaultsGoOn s r f g
  faults_since {r} {f} {f'} {g} is goes = subst (λ h. FaultsGoOn s r h g) is goes

  -- no fault came at all
  pub faults_none : {r : Result Finish Fault} {f g : FaultCounts} → g ≡ f → (IsErrOf r Read → ⊥) → (IsErrOf r Write → ⊥) → FaultsGoOn s r f g
  faults_none {r} {f} {g} is reads writes = rw is record {
    source = omega arith;
    sink = omega arith;
    notes = omega arith;
    read = λ failed. absurd (reads failed);
    unread = λ none other. refl;
    write = λ failed. absurd (writes failed);
    steady = λ other. (refl, refl);
  }

  -- the reader gave a fault
  pub faults_reader : {T : Type 0} {r : Result Finish Fault} {k k' m n : ℕ} (e : ReaderFault) → r ≡ Err (fault_of e) → k ≤ k'
      → ((IsErrOf {T = T} (Err e) ReadFault → ⊥) → k' ≡ k) → (IsErrOf {T = T} (Err e) ReadFault → HasRisen k k')
      → FaultsGoOn s r (fault_counts k m n) (fault_counts k' m n)
  faults_reader {T} {r} {k} {k'} {m} {n} e is falls steady cause =
      subst (λ x. FaultsGoOn s x (fault_counts k m n) (fault_counts k' m n)) (sym is) (by_fault e steady cause)
    where
      by_fault : (e : ReaderFault) → ((IsErrOf {T = T} (Err e) ReadFault → ⊥) → k' ≡ k) → (IsErrOf {T = T} (Err e) ReadFault → HasRisen k k')
          → FaultsGoOn s (Err (fault_of e)) (fault_counts k m n) (fault_counts k' m n)
      by_fault ReadFault steady cause = record {
        source = falls;
        sink = omega arith;
        notes = omega arith;
        read = λ failed. cause refl;
        unread = λ none other. absurd (other refl);
        write = λ failed. absurd (cc);
        steady = λ other. (refl, refl);
      }
      by_fault LongInput steady cause = faults_none (ap (λ k. fault_counts k m n) (steady (λ failed. absurd (cc)))) (λ failed. absurd (cc)) (λ failed. absurd (cc))
      by_fault NoMemory steady cause = faults_none (ap (λ k. fault_counts k m n) (steady (λ failed. absurd (cc)))) (λ failed. absurd (cc)) (λ failed. absurd (cc))

  -- taking a batch gave a fault
  pub faults_batch : {T : Type 0} {r : Result Finish Fault} {k m m' n n' : ℕ} (e : Fault) → r ≡ Err e → (IsErrOf r Read → ⊥) → m ≤ m' → n ≤ n'
      → ((IsErrOf {T = T} (Err e) Write → ⊥) → (m' ≡ m) × (n' ≡ n))
      → (IsErrOf {T = T} (Err e) Write → HasRisen m m' ⊎ (IsTrue (has_notes s) × HasRisen n n'))
      → FaultsGoOn s r (fault_counts k m n) (fault_counts k m' n')
  faults_batch e is reads sink notes steady cause = record {
    source = omega arith;
    sink = sink;
    notes = notes;
    read = λ failed. absurd (reads failed);
    unread = λ none other. refl;
    write = λ failed. cause (error_same e Write (sym is ∙ failed));
    steady = λ other. steady (λ failed. other (is ∙ error_same e Write failed));
  }

  -- writing the end of the input failed
  pub faults_write : {P : Type 0} {r : Result Finish Fault} {k m m' n n' : ℕ} (so : P → IsTrue (has_notes s)) → r ≡ Err Write → m ≤ m' → n ≤ n'
      → HasRisen m m' ⊎ (P × HasRisen n n') → FaultsGoOn s r (fault_counts k m n) (fault_counts k m' n')
  faults_write {P} {r} {k} {m} {m'} {n} {n'} so is sink notes cause = record {
    source = omega arith;
    sink = sink;
    notes = notes;
    read = λ failed. absurd (let both = sym is ∙ failed in cc);
    unread = λ none other. refl;
    write = λ failed. by_cause cause;
    steady = λ other. absurd (other is);
  }
    where
      by_cause : HasRisen m m' ⊎ (P × HasRisen n n') → HasRisen m m' ⊎ (IsTrue (has_notes s) × HasRisen n n')
      by_cause (inl risen) = inl risen
      by_cause (inr risen) = inr (so risen.0, risen.1)

  -- the end of a run that reads ahead: its source may have failed before
  pub faults_ahead : {P : Type 0} {r : Result Finish Fault} {k k' m m' n n' : ℕ} (so : P → IsTrue (has_notes s)) → 0 < s.ahead → k ≤ k'
      → (IsErrOf r Read → HasRisen k k') → m ≤ m' → n ≤ n' → (IsErrOf r Write → HasRisen m m' ⊎ (P × HasRisen n n'))
      → ((IsErrOf r Write → ⊥) → (m' ≡ m) × (n' ≡ n)) → FaultsGoOn s r (fault_counts k m n) (fault_counts k' m' n')
  faults_ahead {P} {r} {k} {k'} {m} {m'} {n} {n'} so ahead source read sink notes cause steady = record {
    source = source;
    sink = sink;
    notes = notes;
    read = read;
    unread = λ none other. absurd (omega (arith, ahead, none));
    write = λ failed. by_cause (cause failed);
    steady = steady;
  }
    where
      by_cause : HasRisen m m' ⊎ (P × HasRisen n n') → HasRisen m m' ⊎ (IsTrue (has_notes s) × HasRisen n n')
      by_cause (inl risen) = inl risen
      by_cause (inr risen) = inr (so risen.0, risen.1)

-- memory was refused before the first batch
pub does_at_once : {App : Type 0} {r : Result Finish Fault} (event_of : App → ℕ → Meaning) (tables : ℕ) (name : ℕ → List ℕ) (app : App) (s : Settings) (t : Tally) (before : Streams)
    → r ≡ Err RunMemory → t ≡ no_tally → RunDoes (request_of (event_of app) tables name s before.left) r t before before
does_at_once event_of tables name app s t before is none = record {
  ends = ends_at_once (course_of event_of tables name app s INPUT_BYTES before.left before.outputs) before.left t is none;
  told = told_at_once (course_of event_of tables name app s INPUT_BYTES before.left before.outputs) t is none;
  faults = faults_none s refl (λ failed. absurd (let both = sym is ∙ failed in cc)) (λ failed. absurd (let both = sym is ∙ failed in cc));
}
