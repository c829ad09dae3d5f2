-- What is said of the program, from what is said of the call.
use Rattle.std.proofs.Common.{◌≡◌, ◌⊎◌, inl, inr, ℕ, List, [], ◌++◌, Option, Some, None, Result, Ok, Err, refl, ap, sym, ◌∙◌, subst, arith}
use Rattle.std.proofs.lemmas.List.Elements.{All-nil}
use Rattle.std.specs.Prelude.{IsSome, IfSome, IfOk, IsTrue}
use Rattle.morph_base.specs.Transactions.{Transaction}
use Rattle.morph_io.specs.declared.source.ReadFailed.{ReadFailed}
use Rattle.morph_io.specs.Told.{behind, behind_nil}
use Rattle.event_reader.specs.Accepted.{Accepted, accepted_within}
use Rattle.run_text.specs.declared.choices.Settings.{Settings}
use Rattle.run_text.specs.declared.tally.Tally.{Tally}
use Rattle.run_text.specs.Counts.{no_tally}
use Rattle.run_text.specs.Settings.{settings_of}
use Rattle.run_text.specs.Text.{event_lines}
use Rattle.morph_cli.specs.declared.fault.Fault.TheVariants.{OutOfMemory}
use Rattle.morph_cli.specs.Apps.{input_of, left_by, meaning_of, telling_of}
use Rattle.morph_cli.specs.Headline.{Headline, Completes, input_limit}
use Rattle.morph_cli.specs.Outputs.{Outputs, has_notes, outputs_of, with_batches, notes_from}
use Rattle.morph_cli.specs.Requests.{Request, request_in}
use Rattle.morph_cli.specs.Streams.{Streams, streams_of}
use Rattle.morph_cli.specs.Status.{IsMadeStatus, EndsNotes}
use Rattle.morph_cli.specs.Tallies.{RunTold, CallTold, IsChecked}
use Rattle.morph_cli.specs.Calls.{IsReadBy}
use Rattle.morph_cli.proofs.ReaderCalls.{unread_by}
use Rattle.morph_cli.proofs.Headlines.{headline}
use Rattle.morph_cli.proofs.NoteLaws.{no_audits}
use Rattle.morph_cli.proofs.RunTexts.{nothing_told}
use Rattle.morph_cli.proofs.TallyLaws.{tallied_start}

pub at_ok : {T E : Type 0} (r : Result T E) (x : T) → r ≡ Ok x → (P : T → Type 0) → P x → IfOk r P
at_ok r x is P holds = subst (λ r. IfOk r P) (sym is) holds

abbrev pub HeadlineBy : (words : List (List ℕ)) → (told left old new : Option (List ℕ)) → (status : ℕ) → Type 0
HeadlineBy words told left old new status =
    IfSome (settings_of words) (λ s. IfSome (input_of s told) (λ input. Headline (meaning_of s) (telling_of s) input_limit input (left_by s.generated left) old new status))

abbrev pub UsageBy : (words : List (List ℕ)) → (status : ℕ) → Type 0
UsageBy words status = (status ≡ 2 → settings_of words ≡ None) × (settings_of words ≡ None → (status ≡ 2) ⊎ (status ≡ 6))

abbrev pub CompletesBy : (told : Option (List ℕ)) → (words : List (List ℕ)) → (status : ℕ) → Type 0
CompletesBy told words status = IfSome (settings_of words) (λ s. IfSome (input_of s told) (λ input. Completes (meaning_of s) input_limit input status))

abbrev pub WriteBy : (Sunk Noted : Type 0) → (words : List (List ℕ)) → (status : ℕ) → Type 0
WriteBy Sunk Noted words status = IfSome (settings_of words) (λ s. status ≡ 5 → Sunk ⊎ (IsTrue (has_notes s) × Noted))

abbrev pub UnreadBy : (Same : Type 0) → (words : List (List ℕ)) → (status : ℕ) → Type 0
UnreadBy Same words status = IfSome (settings_of words) (λ s. s.ahead ≡ 0 → (status ≡ 4 → ⊥) → Same)

abbrev pub AsksBy : {S : Type 0} → (left_of : S → Option (List ℕ)) → (reads : S → ℕ → Result ℕ ReadFailed → S → Type 0) → (source source' : S) → (words : List (List ℕ)) → (status : ℕ) → Type 0
AsksBy left_of reads source source' words status = IfSome (settings_of words) (λ s. s.ahead ≡ 0 → IsReadBy left_of reads (meaning_of s) source source')

abbrev pub MadeBy : (Same : Type 0) → (words : List (List ℕ)) → (status : ℕ) → Type 0
MadeBy Same words status = IfSome (settings_of words) (λ s. IsSome s.generated → Same × IsMadeStatus status)

abbrev pub RunBy : (left : Option (List ℕ)) → (before after : Streams) → (words : List (List ℕ)) → (status : ℕ) → Type 0
RunBy left before after words status = IfSome (settings_of words) (λ s. (t : Tally) × CallTold (request_in s left) status t before after)

abbrev pub UntouchedBy : {S K : Type 0} → (source source' : S) → (sink sink' : K) → (old new : Option (List ℕ)) → (faults faults' : ℕ) → (words : List (List ℕ)) → (status : ℕ) → Type 0
UntouchedBy source source' sink sink' old new faults faults' words status =
    settings_of words ≡ None → (source' ≡ source) × (sink' ≡ sink) × EndsNotes status old new faults faults'

-- what holds of the words that the call was given, and of its status, holds of those of the arguments, and of the program's
pub along : (P : List (List ℕ) → ℕ → Type 0) (words words' : List (List ℕ)) (status status' : ℕ) → words ≡ words' → status' ≡ status → P words status → P words' status'
along P words words' status status' same is holds = subst (λ w. P w status') same (subst (λ n. P words n) (sym is) holds)

for_some : {A : Type 0} (P : A → Type 0) (o : Option A) → ((x : A) → P x) → IfSome o P
for_some P None holds = tt
for_some P (Some x) holds = holds x

-- without memory for the words the status is 6, whatever they are
pub usage_along : (words words' : List (List ℕ)) (status status' : ℕ) → words ≡ words' → status' ≡ status →
    (status ≡ 2 → settings_of words ≡ None) × (settings_of words ≡ None → status ≡ 2) → UsageBy words' status'
usage_along words words' status status' same is holds = along UsageBy words words' status status' same is (holds.0, λ none. inl (holds.1 none))

-- the tally of a call is some tally
pub some_tally : (left : Option (List ℕ)) (before after : Streams) (words : List (List ℕ)) (status : ℕ) (t : Tally)
    → IfSome (settings_of words) (λ s. CallTold (request_in s left) status t before after) → RunBy left before after words status
some_tally left before after words status t holds = by_settings (settings_of words) holds
  where
    by_settings : (o : Option Settings) → IfSome o (λ s. CallTold (request_in s left) status t before after) → IfSome o (λ s. (t : Tally) × CallTold (request_in s left) status t before after)
    by_settings None holds = tt
    by_settings (Some s) holds = (t, holds)

-- nothing was read or written for want of memory
pub no_memory : (words : List (List ℕ)) (told old : Option (List ℕ)) (status : ℕ) → status ≡ 6 → HeadlineBy words told told old old status
no_memory words told old status is = by_settings (settings_of words)
  where
    by_input : (s : Settings) (o : Option (List ℕ)) → IfSome o (λ input. Headline (meaning_of s) (telling_of s) input_limit input (left_by s.generated told) old old status)
    by_input s None = tt
    by_input s (Some input) =
        subst (λ n. Headline (meaning_of s) (telling_of s) input_limit input (left_by s.generated told) old old n) (sym is)
        (headline (meaning_of s) (telling_of s) input_limit input (left_by s.generated told) old old (Err OutOfMemory)
        (record {
          done = [];
          rest = (accepted_within (meaning_of s) input_limit input).batches;
          parts = refl;
          appended = sym (behind_nil old) ∙ ap (behind old) (nothing_told (telling_of s).report);
        }))

    by_settings : (o : Option Settings) → IfSome o (λ s. IfSome (input_of s told) (λ input. Headline (meaning_of s) (telling_of s) input_limit input (left_by s.generated told) old old status))
    by_settings None = tt
    by_settings (Some s) = by_input s (input_of s told)

pub no_memory_completes : (told : Option (List ℕ)) (words : List (List ℕ)) (status : ℕ) → status ≡ 6 → CompletesBy told words status
no_memory_completes told words status is =
    for_some (λ s. IfSome (input_of s told) (λ input. Completes (meaning_of s) input_limit input status)) (settings_of words)
    (λ s. for_some (λ input. Completes (meaning_of s) input_limit input status) (input_of s told)
    (λ input. record { done = λ few ended. inr is; refused = λ line cause refused. inr is; long = λ long. inr is }))

pub no_memory_write : (Sunk Noted : Type 0) (words : List (List ℕ)) (status : ℕ) → status ≡ 6 → WriteBy Sunk Noted words status
no_memory_write Sunk Noted words status is =
    for_some (λ s. status ≡ 5 → Sunk ⊎ (IsTrue (has_notes s) × Noted)) (settings_of words) (λ s five. absurd (omega (arith, is, five)))

pub no_memory_unread : (Same : Type 0) (words : List (List ℕ)) (status : ℕ) → Same → UnreadBy Same words status
no_memory_unread Same words status same = for_some (λ s. s.ahead ≡ 0 → (status ≡ 4 → ⊥) → Same) (settings_of words) (λ s none other. same)

pub no_memory_asks : {S : Type 0} (left_of : S → Option (List ℕ)) (reads : S → ℕ → Result ℕ ReadFailed → S → Type 0) (source : S) (words : List (List ℕ)) (status : ℕ) → AsksBy left_of reads source source words status
no_memory_asks left_of reads source words status =
    for_some (λ s. s.ahead ≡ 0 → IsReadBy left_of reads (meaning_of s) source source) (settings_of words) (λ s none. unread_by left_of reads (meaning_of s) source)

pub no_memory_made : (Same : Type 0) (words : List (List ℕ)) (status : ℕ) → status ≡ 6 → Same → MadeBy Same words status
no_memory_made Same words status is same = for_some (λ s. IsSome s.generated → Same × IsMadeStatus status) (settings_of words) (λ s made. (same, inr (inr is)))

-- no batch was run
nothing_written : (asked : Request) (old : Outputs) → old ≡ with_batches old asked [] [] []
unfolding notes_from
nothing_written asked old =
    ap (λ sink. outputs_of sink old.notes) (sym (behind_nil old.sink) ∙ ap (behind old.sink) (nothing_told asked.telling.report))
    ∙ ap (outputs_of (behind old.sink (event_lines asked.telling.report []))) (sym (behind_nil old.notes))

abbrev batches_of : Option Accepted → List (List Transaction)
batches_of None = []
batches_of (Some all) = all.batches

are_left : (told : Option Accepted) → IfSome told (λ all. all.batches ≡ [] ++ batches_of told)
are_left None = tt
are_left (Some all) = refl

told_unrun : (asked : Request) (told : Option Accepted) (old : Outputs) → RunTold asked told 6 no_tally old old
told_unrun asked told old =
    let tallied = tallied_start asked.settings.planning asked.settings.workers no_tally refl in
    record {
      done = [];
      rest = batches_of told;
      accounts = [];
      audits = [];
      parts = are_left told;
      ran = tallied.ran;
      audited = no_audits asked.settings;
      sound = tallied.sound;
      checked = λ on. All-nil IsChecked;
      counts = tallied.counts;
      founded = tallied.founded;
      balanced = tallied.balanced;
      whole = λ is. elim is [ inl none ↦ absurd (omega (arith, none)) | inr refused ↦ absurd (omega (arith, refused)) ];
      short = λ is. nothing_written asked old;
      cut = λ five. absurd (omega (arith, five));
    }

pub no_memory_notes : (old new : Option (List ℕ)) (faults faults' status : ℕ) → status ≡ 6 → EndsNotes 6 old new faults faults' → EndsNotes status old new faults faults'
no_memory_notes old new faults faults' status is noted = subst (λ n. EndsNotes n old new faults faults') (sym is) noted

pub no_memory_run : (left : Option (List ℕ)) (before : Streams) (notes : Option (List ℕ)) (last : ℕ) (words : List (List ℕ)) (status : ℕ) → status ≡ 6 → EndsNotes 6 before.outputs.notes notes before.faults.notes last
    → RunBy left before (streams_of before.left before.outputs.sink notes (record before.faults { notes = last })) words status
no_memory_run left before notes last words status is noted =
    let after : Streams = streams_of before.left before.outputs.sink notes (record before.faults { notes = last }) in
    for_some (λ s. (t : Tally) × CallTold (request_in s left) status t before after) (settings_of words)
    (λ s. (
      no_tally,
      subst (λ n. CallTold (request_in s left) n no_tally before after) (sym is)
          (record {
            ran = before.outputs;
            run = told_unrun (request_in s left) _ before.outputs;
            sink = refl;
            before_last = before.faults.notes;
            cause = λ five. absurd (omega (arith, five));
            steady = λ other. refl;
            last = noted;
          }),
    ))
