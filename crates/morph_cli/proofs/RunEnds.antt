-- How a run ends, by the answer that ends it.
use Rattle.std.proofs.Common.{◌≡◌, ◌⊎◌, inl, inr, ℕ, ◌+◌, ◌-◌, ◌<◌, Bool, false, List, [], ◌∷◌, ◌++◌, length, Option, Some, None, Result, Ok, Err, refl, ap, sym, subst, ◌∙◌, arith}
use Rattle.std.specs.Prelude.{is_some, option_map, All, IfSome, IsTrue}
use Rattle.std.proofs.lemmas.List.Elements.{All-nil}
use Rattle.morph_base.specs.Transactions.{Transaction, by_time}
use Rattle.morph_base.specs.States.{State, opening_state, after_all}
use Rattle.morph_base.specs.Outcomes.{Fate, fates}
use Rattle.morph_io.specs.Told.{ahead, behind, AppendsPrefix}
use Rattle.event_reader.specs.declared.cause.Cause.{Cause}
use Rattle.event_reader.specs.Steps.{Meaning}
use Rattle.event_reader.specs.Lines.{front, within}
use Rattle.event_reader.specs.Accepted.{Accepted, Ending, Ended, RefusedAt, CutOff, with_batch, accepted_within}
use Rattle.event_reader.specs.declared.past.Past.{Past}
use Rattle.event_reader.specs.Reader.{LinesView, new_reader, accepted_by, accepted_after, accepted_next, TakesBytes}
use Rattle.morph_engine.specs.Accounts.{Account}
use Rattle.run_text.specs.Checks.{is_checked}
use Rattle.run_text.specs.declared.choices.Settings.{Settings}
use Rattle.run_text.specs.declared.tally.Tally.{Tally}
use Rattle.morph_cli.specs.declared.fault.Fault.{Fault}
use Rattle.morph_cli.specs.declared.fault.Fault.TheVariants.{Read, Write, OutOfMemory, TooLong}
use Rattle.morph_cli.specs.declared.run.Finish.{Finish}
use Rattle.morph_cli.specs.declared.run.Finish.TheVariants.{Complete, Refused}
use Rattle.snapshot_reader.specs.declared.viewer.Total.{Total}
use Rattle.morph_cli.specs.Outputs.{Outputs, note_of, closing_note, with_both, with_batches, AreAudits, IsCutIn, IsAtLast}
use Rattle.morph_cli.specs.Requests.{Request}
use Rattle.morph_cli.specs.Runs.{EndsSo}
use Rattle.morph_cli.specs.Status.{status_of}
use Rattle.run_text.specs.Counts.{CountsBatch, no_tally}
use Rattle.morph_cli.specs.Strategies.{strategy_by}
use Rattle.morph_cli.specs.Tallies.{IsMadeOf, IsSoundAccount, RunTold, IsChecked}
use Rattle.run_text.specs.Text.{Telling, event_lines, told_lines, run_state, end_text}
use Rattle.morph_cli.proofs.NoteLaws.{IsNoted, notes_of, noted_nothing, noted_more, IsAudit, told_note, told_note_is, no_audits, audits_more, as_many, checked_more}
use Rattle.morph_cli.proofs.RunTexts.{RunsOn, IsLast, fronts, runs_start, runs_batch, runs_ended, runs_done, runs_cut, runs_short, runs_cut_in_batch, whole_more, told_more, last_is}
use Rattle.morph_cli.proofs.TakenBytes.{TakesOn, takes_failed}
use Rattle.morph_cli.proofs.TallyLaws.{Tallied, last_after, tallied_start, tallied_more}
use Rattle.morph_cli.proofs.OutputLaws.{both_is, both_as, cut_as}

-- what is given of a run: what the application's lines say, how many ids each of its tables has, how many bytes of the input are read, how the run is
-- told, its settings, the input, and what stood in the outputs before
pub record Course (App : Type 0) : Type 0 where
  pub event_of : App → ℕ → Meaning
  pub app : App
  pub size : ℕ
  pub limit : ℕ
  pub telling : Telling
  pub settings : Settings
  pub input : Option (List ℕ)
  pub old : Outputs

-- a status of a run that was cut off
by_fault : (e : Fault) → (status_of (Err e) ≡ 0) ⊎ (status_of (Err e) ≡ 3) → ⊥
by_fault Read (inl is) = absurd (omega (arith, is))
by_fault Read (inr is) = absurd (omega (arith, is))
by_fault Write (inl is) = absurd (omega (arith, is))
by_fault Write (inr is) = absurd (omega (arith, is))
by_fault OutOfMemory (inl is) = absurd (omega (arith, is))
by_fault OutOfMemory (inr is) = absurd (omega (arith, is))
by_fault TooLong (inl is) = absurd (omega (arith, is))
by_fault TooLong (inr is) = absurd (omega (arith, is))

by_write : (e : Fault) → status_of (Err e) ≡ 5 → e ≡ Write
by_write Read is = absurd (omega (arith, is))
by_write Write is = refl
by_write OutOfMemory is = absurd (omega (arith, is))
by_write TooLong is = absurd (omega (arith, is))

write_not_short : (status : ℕ) → status ≡ 5 → (status ≡ 4) ⊎ (status ≡ 6) ⊎ (status ≡ 7) → ⊥
write_not_short status a (inl b) = absurd (omega (arith, a, b))
write_not_short status a (inr (inl b)) = absurd (omega (arith, a, b))
write_not_short status a (inr (inr b)) = absurd (omega (arith, a, b))

whole_not_short : (status : ℕ) → (status ≡ 0) ⊎ (status ≡ 3) → (status ≡ 4) ⊎ (status ≡ 6) ⊎ (status ≡ 7) → ⊥
whole_not_short status (inl a) (inl b) = absurd (omega (arith, a, b))
whole_not_short status (inl a) (inr (inl b)) = absurd (omega (arith, a, b))
whole_not_short status (inl a) (inr (inr b)) = absurd (omega (arith, a, b))
whole_not_short status (inr a) (inl b) = absurd (omega (arith, a, b))
whole_not_short status (inr a) (inr (inl b)) = absurd (omega (arith, a, b))
whole_not_short status (inr a) (inr (inr b)) = absurd (omega (arith, a, b))

whole_not_write : (status : ℕ) → (status ≡ 0) ⊎ (status ≡ 3) → status ≡ 5 → ⊥
whole_not_write status (inl a) b = absurd (omega (arith, a, b))
whole_not_write status (inr a) b = absurd (omega (arith, a, b))

-- the batches that are still to come
abbrev still : Option Accepted → List (List Transaction)
still None = []
still (Some rest) = rest.batches

parts_are : (all now : Option Accepted) (done : List (List Transaction)) → all ≡ option_map (fronts done) now → IfSome all (λ a. a.batches ≡ done ++ still now)
parts_are None None done is = tt
parts_are None (Some rest) done is = tt
parts_are (Some a) None done is = absurd (cc)
parts_are (Some a) (Some rest) done is = cc

-- at the end no batch is left
abbrev pub IsOver : Ending → Accepted → Type 0
IsOver ending rest = rest ≡ record { batches = []; ending = ending }

last_parts : (all now : Option Accepted) (done : List (List Transaction)) (ending : Ending) → all ≡ option_map (fronts done) now → IfSome now (IsOver ending) →
    IfSome all (λ a. a.batches ≡ done ++ [])
last_parts None now done ending is over = tt
last_parts (Some a) None done ending is over = absurd (cc)
last_parts (Some a) (Some rest) done ending is over =
    let before : a.batches ≡ done ++ rest.batches = cc in before ∙ ap (λ (r : Accepted). done ++ r.batches) over

last_ending : (all now : Option Accepted) (done : List (List Transaction)) (ending : Ending) → all ≡ option_map (fronts done) now → IfSome now (IsOver ending) →
    IfSome all (λ a. a.ending ≡ ending)
last_ending None now done ending is over = tt
last_ending (Some a) None done ending is over = absurd (cc)
last_ending (Some a) (Some rest) done ending is over =
    let before : a.ending ≡ rest.ending = cc in before ∙ ap (λ (r : Accepted). r.ending) over

module _ {App : Type 0} where
  abbrev pub meaning_in : Course App → Meaning
  meaning_in c = c.event_of c.app c.size

  abbrev pub accepted_in : Course App → Option Accepted
  accepted_in c = option_map (accepted_within (meaning_in c) c.limit) c.input

  abbrev pub asked_in : Course App → Request
  asked_in c = record { meaning = meaning_in c; telling = c.telling; settings = c.settings; input = c.input }

  -- how the run ends, and what is told of it
  abbrev pub Ends : Course App → (left : Option (List ℕ)) → Result Finish Fault → Outputs → Type 0
  Ends c left x new = IfSome c.input (λ input. EndsSo (meaning_in c) c.telling c.limit input left c.old.sink x new.sink)

  abbrev pub IsTold : Course App → (status : ℕ) → Tally → Outputs → Type 0
  IsTold c status t new = RunTold (asked_in c) (accepted_in c) status t c.old new

  -- between two batches of a run: some batches were done, and `now` are those that are still to come
  pub record Goes (c : Course App) (now : Option Accepted) (new : Outputs) (s : State) (tally : Tally) : Type 0 where
    pub done : List (List Transaction)
    pub accounts : List Account
    pub tallied : Tallied c.settings.planning c.settings.workers done accounts tally
    pub runs : RunsOn c.telling (accepted_in c) now c.old.sink new.sink s tally done
    pub audits : List Bool
    pub checked : IsTrue (is_checked c.settings.check) → All IsChecked accounts
    pub audited : AreAudits c.settings accounts audits
    pub noted : IsNoted c.settings done accounts audits c.old.notes new.notes

  -- the strategy of a batch behind these is the one that was asked for, or chosen
  abbrev pub IsChosen : Course App → (done : List (List Transaction)) → Account → Type 0
  IsChosen c done a = a.strategy ≡ strategy_by c.settings.planning a.plan (last_after done)

  -- what a new reader has to give
  pub given_at_start : (event_of : App → ℕ → Meaning) (app : App) (size limit : ℕ) (told : Option (List ℕ)) →
      option_map (accepted_within (event_of app size) limit) told ≡ accepted_by event_of (new_reader app size limit) told
  unfolding ahead
  given_at_start event_of app size limit None = refl
  given_at_start event_of app size limit (Some input) =
      ap (λ n. Some (accepted_after event_of (new_reader app size limit) (within n input))) {x = limit} {y = 0 + (limit - 0)} (omega arith)

  -- nothing was done yet
  unfoldable pub goes_start : (c : Course App) (now : Option Accepted) (s : State) (tally : Tally) → accepted_in c ≡ now → s ≡ opening_state → tally ≡ no_tally →
      Goes c now c.old s tally
  goes_start c now s tally given opening none = record {
    done = [];
    accounts = [];
    tallied = tallied_start c.settings.planning c.settings.workers tally none;
    runs = subst (λ all. RunsOn c.telling (accepted_in c) all c.old.sink c.old.sink s tally []) given
        (runs_start c.telling (accepted_in c) c.old.sink s tally opening (ap (λ (t : Tally). t.committed) none) (ap (λ (t : Tally). t.aborted) none));
    audits = [];
    checked = λ on. All-nil IsChecked;
    audited = no_audits c.settings;
    noted = noted_nothing c.settings c.old.notes;
  }

  -- a batch was run, and counted
  pub tallied_batch : (c : Course App) (now : Option Accepted) (new : Outputs) (s : State) (tally tally' : Tally) (batch : List Transaction) (told : List Fate)
      (a : Account) → (goes : Goes c now new s tally) → told ≡ fates s (by_time batch) → CountsBatch tally tally' a told → IsSoundAccount c.settings.workers a → IsMadeOf s batch a.plan → IsChosen c goes.done a → 0 < length told →
      Tallied c.settings.planning c.settings.workers (goes.done ++ batch ∷ []) (goes.accounts ++ a ∷ []) tally'
  tallied_batch c now new s tally tally' batch told a goes told_is adds sound made chosen events =
      tallied_more c.settings.planning c.settings.workers goes.done goes.accounts tally tally' batch a told goes.tallied adds sound (subst (λ q. IsMadeOf q batch a.plan) goes.runs.state made) chosen
      (told_more goes.done batch s told goes.runs.state told_is) events

  -- a batch was done
  unfoldable pub goes_batch : (c : Course App) (now next : Option Accepted) (new newer : Outputs) (s t : State) (tally tally' : Tally) (batch : List Transaction)
      (told : List Fate) (a : Account) (audit : Option Total) → (goes : Goes c now new s tally) → 0 < length batch → now ≡ option_map (with_batch batch) next →
      t ≡ after_all s (by_time batch) → told ≡ fates s (by_time batch) → newer ≡ with_both new (told_lines c.telling.report told) (told_note c.settings tally'.batches audit a) →
      IsAudit c.settings s tally.batches audit a → CountsBatch tally tally' a told → IsSoundAccount c.settings.workers a → IsMadeOf s batch a.plan → IsChosen c goes.done a → 0 < length told → Goes c next newer t tally'
  goes_batch c now next new newer s t tally tally' batch told a audit goes some was state told_is written seen adds sound made chosen events = record {
    done = goes.done ++ batch ∷ [];
    accounts = goes.accounts ++ a ∷ [];
    tallied = tallied_batch c now new s tally tally' batch told a goes told_is adds sound made chosen events;
    runs = runs_batch c.telling _ _ _ c.old.sink new.sink newer.sink s t tally tally' goes.done batch told goes.runs was some state told_is
        (ap (λ (o : Outputs). o.sink) written) adds.committed adds.aborted;
    audits = goes.audits ++ is_some audit ∷ [];
    checked = checked_more c.settings goes.accounts a goes.checked seen.checked;
    audited = audits_more c.settings goes.accounts goes.audits a (is_some audit) goes.audited seen.unwatched;
    noted = noted_more c.settings goes.done goes.accounts goes.audits batch a (is_some audit) s c.old.notes new.notes newer.notes (as_many goes.tallied) goes.audited goes.runs.state goes.noted
        (ap (λ (o : Outputs). o.notes) written ∙ ap (behind new.notes) (told_note_is c.settings s tally.batches tally'.batches audit a adds.batches seen)
        ∙ ap (λ n. behind new.notes (note_of c.settings s n (is_some audit) a)) goes.tallied.counts.batches);
  }

  -- ---- how the run ends

  -- over an input that is told
  over_input : (c : Course App) (P : List ℕ → Type 0) → ((input : List ℕ) → c.input ≡ Some input → P input) → IfSome c.input P
  over_input c P holds = by_input c.input holds
    where
      by_input : (o : Option (List ℕ)) → ((input : List ℕ) → o ≡ Some input → P input) → IfSome o P
      by_input None holds = tt
      by_input (Some input) holds = holds input refl

  runs_over : (c : Course App) (now : Option Accepted) (new : Outputs) (s : State) (tally : Tally) (input : List ℕ) → c.input ≡ Some input →
      (goes : Goes c now new s tally) →
      RunsOn c.telling (Some (accepted_within (meaning_in c) c.limit input)) now c.old.sink new.sink s tally goes.done
  runs_over c now new s tally input is goes =
      subst (λ told. RunsOn c.telling (option_map (accepted_within (meaning_in c) c.limit) told) now c.old.sink new.sink s tally goes.done) is goes.runs

  -- the answer in place of what it is
  ends_as : (c : Course App) (left : Option (List ℕ)) (new : Outputs) (x y : Result Finish Fault) → x ≡ y → Ends c left y new → Ends c left x new
  ends_as c left new x y is ends = subst (λ z. Ends c left z new) (sym is) ends

  -- the closing text was written
  pub ends_complete : {c : Course App} {now : Option Accepted} {new : Outputs} {s : State} {tally : Tally} (left' : Option (List ℕ)) (newer : Outputs) (text note : List ℕ) →
      Goes c now new s tally → IfSome now (IsOver Ended) → IsLast c.telling s tally Ended text →
      newer ≡ with_both new text note → Ends c left' (Ok Complete) newer
  ends_complete {c} {now} {new} {s} {tally} left' newer text note goes over last written =
      over_input c (λ input. EndsSo (meaning_in c) c.telling c.limit input left' c.old.sink (Ok Complete) newer.sink) (λ input is.
      runs_done c.telling _ _ c.old.sink new.sink newer.sink s tally goes.done Ended text (runs_over c now new s tally input is goes) over last (ap (λ (o : Outputs). o.sink) written))

  -- the refused text was written
  pub ends_refused : {c : Course App} {now : Option Accepted} {new : Outputs} {s : State} {tally : Tally} (left' : Option (List ℕ)) (newer : Outputs) (line : ℕ) (cause : Cause)
      (text note : List ℕ) → Goes c now new s tally → IfSome now (IsOver (RefusedAt line cause)) → IsLast c.telling s tally (RefusedAt line cause) text →
      newer ≡ with_both new text note → Ends c left' (Ok Refused) newer
  ends_refused {c} {now} {new} {s} {tally} left' newer line cause text note goes over last written =
      over_input c (λ input. EndsSo (meaning_in c) c.telling c.limit input left' c.old.sink (Ok Refused) newer.sink) (λ input is.
      let d = runs_done c.telling _ _ c.old.sink new.sink newer.sink s tally goes.done (RefusedAt line cause) text (runs_over c now new s tally input is goes) over last
      (ap (λ (o : Outputs). o.sink) written) in (line, cause, d.0, d.1))

  -- reading failed
  pub ends_read : (c : Course App) (now : Option Accepted) (new : Outputs) (s : State) (tally : Tally) (left left' : Option (List ℕ)) (past : Past) (lines : LinesView) →
      (goes : Goes c now new s tally) → TakesOn (meaning_in c) c.input left past lines goes.done → lines.ended ≡ false →
      TakesBytes left left' (λ got. accepted_next (meaning_in c) past lines (front (lines.kept ++ got)) ≡ record { batches = []; ending = CutOff }) → Ends c left' (Err Read) new
  ends_read c now new s tally left left' past lines goes takes unended took =
      over_input c (λ input. EndsSo (meaning_in c) c.telling c.limit input left' c.old.sink (Err Read) new.sink) (λ input is.
      takes_failed c.telling (meaning_in c) input left left' c.old.sink new.sink past lines goes.done
      (subst (λ told. TakesOn (meaning_in c) told left past lines goes.done) is takes) unended took goes.runs.appended)

  -- the input is too long
  pub ends_long : (c : Course App) (now : Option Accepted) (new : Outputs) (s : State) (tally : Tally) (left' : Option (List ℕ)) →
      Goes c now new s tally → IfSome now (IsOver CutOff) → Ends c left' (Err TooLong) new
  ends_long c now new s tally left' goes over =
      over_input c (λ input. EndsSo (meaning_in c) c.telling c.limit input left' c.old.sink (Err TooLong) new.sink) (λ input is.
      let runs = runs_over c now new s tally input is goes in
      let whole = runs_ended c.telling _ _ c.old.sink new.sink s tally goes.done CutOff runs over in
      (ap (λ (a : Accepted). a.ending) whole, runs.appended ∙ ap (λ (a : Accepted). behind c.old.sink (event_lines c.telling.report a.batches)) (sym whole)))

  -- memory was refused, before or between batches
  pub ends_memory : {c : Course App} {now : Option Accepted} {new : Outputs} {s : State} {tally : Tally} {x : Result Finish Fault} (left' : Option (List ℕ)) →
      x ≡ Err OutOfMemory → Goes c now new s tally → Ends c left' x new
  ends_memory {c} {now} {new} {s} {tally} {x} left' failed goes =
      ends_as c left' new x (Err OutOfMemory) failed
      (over_input c (λ input. EndsSo (meaning_in c) c.telling c.limit input left' c.old.sink (Err OutOfMemory) new.sink) (λ input is.
      runs_short c.telling _ _ c.old.sink new.sink s tally goes.done (runs_over c now new s tally input is goes)))

  -- writing failed at the end
  pub ends_cut : {c : Course App} {now : Option Accepted} {new : Outputs} {s : State} {tally : Tally} {x : Result Finish Fault} (left' : Option (List ℕ)) (newer : Outputs)
      (ending : Ending) (text : List ℕ) → x ≡ Err Write → Goes c now new s tally → IfSome now (IsOver ending) →
      IsLast c.telling s tally ending text → AppendsPrefix new.sink text newer.sink → Ends c left' x newer
  ends_cut {c} {now} {new} {s} {tally} {x} left' newer ending text failed goes over last cut =
      ends_as c left' newer x (Err Write) failed
      (over_input c (λ input. EndsSo (meaning_in c) c.telling c.limit input left' c.old.sink (Err Write) newer.sink) (λ input is.
      runs_cut c.telling _ _ c.old.sink new.sink newer.sink s tally goes.done ending text (runs_over c now new s tally input is goes) over last cut))

  -- writing failed in a batch
  pub ends_batch_cut : {c : Course App} {now : Option Accepted} {new : Outputs} {s : State} {tally : Tally} {x : Result Finish Fault}
      (next : Option Accepted) (left' : Option (List ℕ)) (newer : Outputs) (batch : List Transaction) (told : List Fate) → x ≡ Err Write → Goes c now new s tally →
      0 < length batch → now ≡ option_map (with_batch batch) next → told ≡ fates s (by_time batch) →
      AppendsPrefix new.sink (told_lines c.telling.report told) newer.sink → Ends c left' x newer
  ends_batch_cut {c} {now} {new} {s} {tally} {x} next left' newer batch told failed goes some was told_is cut =
      ends_as c left' newer x (Err Write) failed
      (over_input c (λ input. EndsSo (meaning_in c) c.telling c.limit input left' c.old.sink (Err Write) newer.sink) (λ input is.
      runs_cut_in_batch c.telling _ _ _ c.old.sink new.sink newer.sink s tally goes.done batch told (runs_over c now new s tally input is goes) was some told_is cut))

  -- ---- what is told of the run

  -- what was written so far
  wrote : (c : Course App) (now : Option Accepted) (new : Outputs) (s : State) (tally : Tally) (goes : Goes c now new s tally) →
      new ≡ with_batches c.old (asked_in c) goes.done goes.accounts goes.audits
  wrote c now new s tally goes =
      both_is new (behind c.old.sink (event_lines c.telling.report goes.done)) (behind c.old.notes (notes_of c.settings goes.done goes.accounts goes.audits)) goes.runs.appended goes.noted

  -- the run was cut off between two batches
  pub told_short : {c : Course App} {now : Option Accepted} {new : Outputs} {s : State} {tally : Tally} {x : Result Finish Fault} (e : Fault) → x ≡ Err e → (e ≡ Write → ⊥) →
      Goes c now new s tally → IsTold c (status_of x) tally new
  told_short {c} {now} {new} {s} {tally} {x} e failed other goes = subst (λ y. IsTold c (status_of y) tally new) (sym failed) (record {
    done = goes.done;
    rest = still now;
    accounts = goes.accounts;
    audits = goes.audits;
    audited = goes.audited;
    parts = parts_are (accepted_in c) now goes.done goes.runs.whole;
    ran = goes.tallied.ran;
    sound = goes.tallied.sound;
    checked = goes.checked;
    counts = goes.tallied.counts;
    founded = goes.tallied.founded;
    balanced = goes.tallied.balanced;
    whole = λ is. absurd (by_fault e is);
    short = λ is. wrote c now new s tally goes;
    cut = λ is. absurd (other (by_write e is));
  })

  -- a write failed in a batch that was run
  pub told_in_batch : {c : Course App} {now : Option Accepted} {new : Outputs} {s : State} {tally tally' : Tally} {x : Result Finish Fault}
      {a : Account} {told : List Fate} (next : Option Accepted) (newer : Outputs) (batch : List Transaction) (audit : Option Total) → x ≡ Err Write → (goes : Goes c now new s tally) →
      now ≡ option_map (with_batch batch) next → 0 < length batch → told ≡ fates s (by_time batch) →
      CountsBatch tally tally' a told → IsSoundAccount c.settings.workers a → IsMadeOf s batch a.plan → IsChosen c goes.done a → 0 < length told →
      IsAudit c.settings s tally.batches audit a → IsCutIn new (told_lines c.telling.report told) (told_note c.settings tally'.batches audit a) newer → IsTold c (status_of x) tally' newer
  told_in_batch {c} {now} {new} {s} {tally} {tally'} {x} {a} {told} next newer batch audit failed goes was some told_is adds sound made chosen events seen cut =
      let tallied = tallied_batch c now new s tally tally' batch told a goes told_is adds sound made chosen events in
      subst (λ y. IsTold c (status_of y) tally' newer) (sym failed) (record {
        done = goes.done ++ batch ∷ [];
        rest = still next;
        accounts = goes.accounts ++ a ∷ [];
        audits = goes.audits ++ is_some audit ∷ [];
        audited = audits_more c.settings goes.accounts goes.audits a (is_some audit) goes.audited seen.unwatched;
        parts = parts_are (accepted_in c) next (goes.done ++ batch ∷ [])
            (whole_more (accepted_in c) now next goes.done batch goes.runs.whole was some);
        ran = tallied.ran;
        sound = tallied.sound;
        checked = checked_more c.settings goes.accounts a goes.checked seen.checked;
        counts = tallied.counts;
        founded = tallied.founded;
        balanced = tallied.balanced;
        whole = λ is. absurd (by_fault Write is);
        short = λ is. absurd (write_not_short 5 refl is);
        cut = λ is. inl (record {
          before = goes.done;
          before_accounts = goes.accounts;
          before_audits = goes.audits;
          batch = batch;
          account = a;
          audited = is_some audit;
          done_is = refl;
          accounts_is = refl;
          audits_is = refl;
          cut = cut_as new (with_batches c.old (asked_in c) goes.done goes.accounts goes.audits) (told_lines c.telling.report told)
              (told_lines c.telling.report (fates (run_state goes.done) (by_time batch))) (told_note c.settings tally'.batches audit a)
              (note_of c.settings (run_state goes.done) (length goes.done) (is_some audit) a) newer
              (wrote c now new s tally goes)
              (ap (told_lines c.telling.report) (told_is ∙ ap (λ q. fates q (by_time batch)) goes.runs.state))
              (told_note_is c.settings s tally.batches tally'.batches audit a adds.batches seen
              ∙ ap (λ q. note_of c.settings q tally.batches (is_some audit) a) goes.runs.state
              ∙ ap (λ n. note_of c.settings (run_state goes.done) n (is_some audit) a) goes.tallied.counts.batches) cut;
        });
      })

  -- the end was reached
  abbrev at_last : (c : Course App) (now : Option Accepted) (new : Outputs) (s : State) (tally : Tally) (ending : Ending) → (ending ≡ CutOff → ⊥) →
      (goes : Goes c now new s tally) → IfSome now (IsOver ending) → IsAtLast (accepted_in c) []
  at_last c now new s tally ending reached goes over = record {
    ending = ending;
    ends = last_ending (accepted_in c) now goes.done ending goes.runs.whole over;
    reached = reached;
    none_left = refl;
  }

  -- the text at the end is that of the batches that were done
  text_is : (c : Course App) (now : Option Accepted) (new : Outputs) (s : State) (tally : Tally) (ending : Ending) (text : List ℕ) →
      (goes : Goes c now new s tally) → IsLast c.telling s tally ending text → text ≡ end_text c.telling goes.done ending
  text_is c now new s tally ending text goes last = last_is c.telling s tally goes.done ending text goes.runs.state goes.runs.committed goes.runs.aborted last

  -- the text and the tally were written there
  pub told_at_end : {c : Course App} {now : Option Accepted} {new : Outputs} {s : State} {tally : Tally} (newer : Outputs) (status : ℕ) (ending : Ending) (text : List ℕ) →
      (status ≡ 0) ⊎ (status ≡ 3) → (ending ≡ CutOff → ⊥) → Goes c now new s tally → IfSome now (IsOver ending) →
      IsLast c.telling s tally ending text → newer ≡ with_both new text (closing_note c.settings tally) → IsTold c status tally newer
  told_at_end {c} {now} {new} {s} {tally} newer status ending text ends reached goes over last written = record {
    done = goes.done;
    rest = [];
    accounts = goes.accounts;
    audits = goes.audits;
    audited = goes.audited;
    parts = last_parts (accepted_in c) now goes.done ending goes.runs.whole over;
    ran = goes.tallied.ran;
    sound = goes.tallied.sound;
    checked = goes.checked;
    counts = goes.tallied.counts;
    founded = goes.tallied.founded;
    balanced = goes.tallied.balanced;
    whole = λ is. (
      at_last c now new s tally ending reached goes over,
      both_as new (with_batches c.old (asked_in c) goes.done goes.accounts goes.audits) text (end_text c.telling goes.done ending) (closing_note c.settings tally) (closing_note c.settings tally) newer
          (wrote c now new s tally goes) (text_is c now new s tally ending text goes last) refl written,
    );
    short = λ is. absurd (whole_not_short status ends is);
    cut = λ is. absurd (whole_not_write status ends is);
  }

  -- a write failed there
  pub told_cut_at_end : {c : Course App} {now : Option Accepted} {new : Outputs} {s : State} {tally : Tally} {x : Result Finish Fault} (newer : Outputs) (ending : Ending) (text : List ℕ) →
      x ≡ Err Write → (ending ≡ CutOff → ⊥) → Goes c now new s tally → IfSome now (IsOver ending) →
      IsLast c.telling s tally ending text → IsCutIn new text (closing_note c.settings tally) newer → IsTold c (status_of x) tally newer
  told_cut_at_end {c} {now} {new} {s} {tally} {x} newer ending text failed reached goes over last cut = subst (λ y. IsTold c (status_of y) tally newer) (sym failed) (record {
    done = goes.done;
    rest = [];
    accounts = goes.accounts;
    audits = goes.audits;
    audited = goes.audited;
    parts = last_parts (accepted_in c) now goes.done ending goes.runs.whole over;
    ran = goes.tallied.ran;
    sound = goes.tallied.sound;
    checked = goes.checked;
    counts = goes.tallied.counts;
    founded = goes.tallied.founded;
    balanced = goes.tallied.balanced;
    whole = λ is. absurd (by_fault Write is);
    short = λ is. absurd (write_not_short 5 refl is);
    cut = λ is. inr (
      at_last c now new s tally ending reached goes over,
      cut_as new (with_batches c.old (asked_in c) goes.done goes.accounts goes.audits) text (end_text c.telling goes.done ending) (closing_note c.settings tally) (closing_note c.settings tally) newer
          (wrote c now new s tally goes) (text_is c now new s tally ending text goes last) refl cut,
    );
  })
