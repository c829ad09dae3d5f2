-- The steps of a run: a batch more, the end, and where it may be cut off.
use Rattle.std.proofs.Common.{cond, ◌≡◌, ℕ, ◌+◌, ◌<◌, List, [], ◌∷◌, ◌++◌, length, Option, Some, None, refl, ap, subst, sym, ◌∙◌, arith, append-nil, append_assoc}
use Rattle.std.specs.Prelude.{option_map, IfSome, not}
use Rattle.std.proofs.lemmas.List.Sums.{sum_by-append}
use Rattle.std.proofs.lemmas.List.Concat.{flat_map-append}
use Rattle.morph_base.specs.Transactions.{Transaction, by_time}
use Rattle.morph_base.specs.States.{State, opening_state, after, after_all}
use Rattle.morph_base.specs.Outcomes.{Fate, fate, fates}
use Rattle.morph_base.proofs.StateLaws.{after_all-append, after_all-nil}
use Rattle.morph_base.proofs.PlainLaws.{fates-nil}
use Rattle.morph_io.specs.Told.{behind, behind_nil, behind_behind, AppendsPrefix}
use Rattle.morph_io.proofs.BufferPuts.{prefix_more}
use Rattle.event_reader.specs.Accepted.{Accepted, Ending, Ended, RefusedAt, CutOff, with_batch}
use Rattle.run_text.specs.declared.tally.Tally.{Tally}
use Rattle.run_text.specs.declared.report.Report.{Report}
use Rattle.run_text.specs.declared.report.Report.TheVariants.{Whole, Summary}
use Rattle.run_text.specs.Text.{Telling, in_order, run_state, run_fates, event_lines, told_lines, event_line, committed_in, aborted_in, told_values, counts_line, closing_text, end_text, whole_text, refused_text}
use Rattle.morph_cli.specs.Runs.{AppendsBatches}

-- a prefix of what comes after some bytes
prefix_after : (old new newer : Option (List ℕ)) (front text : List ℕ) → new ≡ behind old front → AppendsPrefix new text newer → AppendsPrefix old (front ++ text) newer
prefix_after old new newer front text appended cut = record {
  done = front ++ cut.done;
  rest = cut.rest;
  parts = ap (λ l. front ++ l) cut.parts ∙ sym (append_assoc front cut.done cut.rest);
  appended = cut.appended ∙ ap (λ w. behind w cut.done) appended ∙ behind_behind old front cut.done;
}

-- batches that were done, in front of those that are still to come
abbrev pub fronts : List (List Transaction) → Accepted → Accepted
fronts done all = record { batches = done ++ all.batches; ending = all.ending }

-- between two batches: what was done of what is there, the state and the tally after it, and what was appended
pub record RunsOn (telling : Telling) (before now : Option Accepted) (old new : Option (List ℕ)) (s : State) (tally : Tally) (done : List (List Transaction)) : Type 0 where
  pub whole : before ≡ option_map (fronts done) now
  pub state : s ≡ run_state done
  pub appended : new ≡ behind old (event_lines telling.report done)
  pub committed : tally.committed ≡ committed_in (run_fates done)
  pub aborted : tally.aborted ≡ aborted_in (run_fates done)

pub option_map-same : {X : Type 0} (f : X → X) → ((x : X) → f x ≡ x) → (o : Option X) → option_map f o ≡ o
option_map-same f same None = refl
option_map-same f same (Some x) = ap Some (same x)

pub option_map-twice : {X Y Z : Type 0} (g : Y → Z) (f : X → Y) (h : X → Z) → ((x : X) → g (f x) ≡ h x) → (o : Option X) → option_map g (option_map f o) ≡ option_map h o
option_map-twice g f h same None = refl
option_map-twice g f h same (Some x) = ap Some (same x)

fates-append : (s : State) (es fs : List Transaction) → fates s (es ++ fs) ≡ fates s es ++ fates (after_all s es) fs
unfolding fates after_all
fates-append s [] fs = refl
fates-append s (e ∷ es) fs = ap (λ l. fate s e ∷ l) (fates-append (after s e) es fs)

-- one batch more of what is done
in_order-more : (done : List (List Transaction)) (batch : List Transaction) → in_order (done ++ batch ∷ []) ≡ in_order done ++ by_time batch
in_order-more done batch = flat_map-append by_time done (batch ∷ []) ∙ ap (λ l. in_order done ++ l) (append-nil (by_time batch))

run_state-more : (done : List (List Transaction)) (batch : List Transaction) → run_state (done ++ batch ∷ []) ≡ after_all (run_state done) (by_time batch)
run_state-more done batch = ap (after_all opening_state) (in_order-more done batch) ∙ after_all-append opening_state (in_order done) (by_time batch)

pub run_fates-more : (done : List (List Transaction)) (batch : List Transaction) → run_fates (done ++ batch ∷ []) ≡ run_fates done ++ fates (run_state done) (by_time batch)
run_fates-more done batch = ap (fates opening_state) (in_order-more done batch) ∙ fates-append opening_state (in_order done) (by_time batch)

-- what becomes of its events, from the state before it
pub told_more : (done : List (List Transaction)) (batch : List Transaction) (s : State) (told : List Fate) → s ≡ run_state done → told ≡ fates s (by_time batch) →
    run_fates (done ++ batch ∷ []) ≡ run_fates done ++ told
told_more done batch s told state told_is =
    run_fates-more done batch ∙ ap (λ l. run_fates done ++ l) (sym (told_is ∙ ap (λ r. fates r (by_time batch)) state))

-- what is told of some events and of more; of none, nothing
told_lines-append : (report : Report) (fs gs : List Fate) → told_lines report (fs ++ gs) ≡ told_lines report fs ++ told_lines report gs
told_lines-append Whole fs gs = flat_map-append event_line fs gs
told_lines-append Summary fs gs = refl

told_lines-nil : (report : Report) → [] ≡ told_lines report []
told_lines-nil Whole = refl
told_lines-nil Summary = refl

pub nothing_told : (report : Report) → [] ≡ event_lines report []
nothing_told report = told_lines-nil report ∙ ap (told_lines report) (sym (fates-nil opening_state))

event_lines-more : (telling : Telling) (done : List (List Transaction)) (batch : List Transaction) →
    event_lines telling.report (done ++ batch ∷ []) ≡ event_lines telling.report done ++ told_lines telling.report (fates (run_state done) (by_time batch))
event_lines-more telling done batch = ap (told_lines telling.report) (run_fates-more done batch) ∙ told_lines-append telling.report (run_fates done) (fates (run_state done) (by_time batch))

-- more batches behind what is done
pub event_lines-front : (telling : Telling) (done more : List (List Transaction)) → (rest : List ℕ) × (event_lines telling.report (done ++ more) ≡ event_lines telling.report done ++ rest)
event_lines-front telling done more = (
  told_lines telling.report (fates (run_state done) (in_order more)),
  ap (λ es. told_lines telling.report (fates opening_state es)) (flat_map-append by_time done more)
      ∙ ap (told_lines telling.report) (fates-append opening_state (in_order done) (in_order more))
      ∙ told_lines-append telling.report (run_fates done) (fates (run_state done) (in_order more)),
)

pub runs_start : (telling : Telling) (before : Option Accepted) (old : Option (List ℕ)) (s : State) (tally : Tally) → s ≡ opening_state → tally.committed ≡ 0 → tally.aborted ≡ 0 →
    RunsOn telling before before old old s tally []
runs_start telling before old s tally opening zero none = record {
  whole = sym (option_map-same (fronts []) (λ a. refl) before);
  state = opening ∙ sym (after_all-nil opening_state);
  appended = sym (behind_nil old) ∙ ap (behind old) (nothing_told telling.report);
  committed = zero ∙ ap committed_in (sym (fates-nil opening_state));
  aborted = none ∙ ap aborted_in (sym (fates-nil opening_state));
}

pub with_batch-fronts : (done : List (List Transaction)) (batch : List Transaction) (all : Accepted) → 0 < length batch →
    fronts done (with_batch batch all) ≡ fronts (done ++ batch ∷ []) all
with_batch-fronts done [] all some = absurd (omega arith)
with_batch-fronts done (e ∷ es) all some =
    let at : List (List Transaction) → Accepted = λ l. record { batches = l; ending = all.ending } in
    ap at (sym (append_assoc done ((e ∷ es) ∷ []) all.batches))

-- what is there, after one batch more
pub whole_more : (before now next : Option Accepted) (done : List (List Transaction)) (batch : List Transaction) → before ≡ option_map (fronts done) now →
    now ≡ option_map (with_batch batch) next → 0 < length batch → before ≡ option_map (fronts (done ++ batch ∷ [])) next
whole_more before now next done batch whole was some =
    whole ∙ ap (option_map (fronts done)) was
    ∙ option_map-twice (fronts done) (with_batch batch) (fronts (done ++ batch ∷ [])) (λ all. with_batch-fronts done batch all some) next

pub runs_batch : (telling : Telling) (before now next : Option Accepted) (old new newer : Option (List ℕ)) (s t : State) (tally tally' : Tally)
    (done : List (List Transaction)) (batch : List Transaction) (told : List Fate) → RunsOn telling before now old new s tally done →
    now ≡ option_map (with_batch batch) next → 0 < length batch → t ≡ after_all s (by_time batch) → told ≡ fates s (by_time batch) →
    newer ≡ behind new (told_lines telling.report told) → tally'.committed ≡ tally.committed + committed_in told → tally'.aborted ≡ tally.aborted + aborted_in told →
    RunsOn telling before next old newer t tally' (done ++ batch ∷ [])
runs_batch telling before now next old new newer s t tally tally' done batch told runs was some state fates_are appended committed aborted =
    let told_is : told ≡ fates (run_state done) (by_time batch) = fates_are ∙ ap (λ r. fates r (by_time batch)) runs.state in
    let all_told = sym (told_more done batch s told runs.state fates_are) in
    record {
      whole = whole_more before now next done batch runs.whole was some;
      state = state ∙ ap (λ r. after_all r (by_time batch)) runs.state ∙ sym (run_state-more done batch);
      appended = appended ∙ ap (λ w. behind w (told_lines telling.report told)) runs.appended ∙ behind_behind old (event_lines telling.report done) (told_lines telling.report told)
          ∙ ap (λ l. behind old (event_lines telling.report done ++ told_lines telling.report l)) told_is ∙ ap (behind old) (sym (event_lines-more telling done batch));
      committed = committed ∙ ap (λ n. n + committed_in told) runs.committed ∙ sym (sum_by-append (λ (f : Fate). cond f.committed 1 0) (run_fates done) told) ∙ ap committed_in all_told;
      aborted = aborted ∙ ap (λ n. n + aborted_in told) runs.aborted ∙ sym (sum_by-append (λ (f : Fate). cond (not f.committed) 1 0) (run_fates done) told) ∙ ap aborted_in all_told;
    }

-- what is told of the whole input, where something is told of what is still to come
told_of : (all : Accepted) (now : Option Accepted) (done : List (List Transaction)) → Some all ≡ option_map (fronts done) now →
    (rest : Accepted) × (now ≡ Some rest) × (all ≡ fronts done rest)
told_of all None done whole = absurd (cc)
told_of all (Some rest) done whole = (rest, refl, cc)

-- the run is at the end of what is there
pub runs_ended : (telling : Telling) (all : Accepted) (now : Option Accepted) (old new : Option (List ℕ)) (s : State) (tally : Tally) (done : List (List Transaction)) (ending : Ending) →
    RunsOn telling (Some all) now old new s tally done → IfSome now (λ rest. rest ≡ record { batches = []; ending = ending }) →
    all ≡ record { batches = done; ending = ending }
runs_ended telling all now old new s tally done ending runs at_end =
    let t = told_of all now done runs.whole in
    let last : t.0 ≡ record { batches = []; ending = ending } = rw t.1 at at_end in
    let done_with : List (List Transaction) → Accepted = λ l. record { batches = l; ending = ending } in
    t.2 ∙ ap (fronts done) last ∙ ap done_with (append-nil done)

-- the closing text that was written is that of the run
closing_is : (telling : Telling) (s : State) (tally : Tally) (done : List (List Transaction)) → s ≡ run_state done →
    tally.committed ≡ committed_in (run_fates done) → tally.aborted ≡ aborted_in (run_fates done) →
    told_values telling.report telling.layout telling.name s ++ counts_line tally.committed tally.aborted ≡ closing_text telling (run_state done) (run_fates done)
closing_is telling s tally done state committed aborted =
    ap (λ r. told_values telling.report telling.layout telling.name r ++ counts_line tally.committed tally.aborted) state
    ∙ ap (λ n. told_values telling.report telling.layout telling.name (run_state done) ++ counts_line n tally.aborted) committed
    ∙ ap (λ n. told_values telling.report telling.layout telling.name (run_state done) ++ counts_line (committed_in (run_fates done)) n) aborted

-- what stands at the end of a run that is done
abbrev pub IsLast : Telling → State → Tally → Ending → List ℕ → Type 0
IsLast telling s tally Ended text = text ≡ told_values telling.report telling.layout telling.name s ++ counts_line tally.committed tally.aborted
IsLast telling s tally (RefusedAt number cause) text = text ≡ refused_text number cause
IsLast telling s tally CutOff text = text ≡ []

pub last_is : (telling : Telling) (s : State) (tally : Tally) (done : List (List Transaction)) (ending : Ending) (text : List ℕ) →
    s ≡ run_state done → tally.committed ≡ committed_in (run_fates done) → tally.aborted ≡ aborted_in (run_fates done) →
    IsLast telling s tally ending text → text ≡ end_text telling done ending
last_is telling s tally done Ended text state committed aborted is = is ∙ closing_is telling s tally done state committed aborted
last_is telling s tally done (RefusedAt number cause) text state committed aborted is = is
last_is telling s tally done CutOff text state committed aborted is = is

-- the end was written: all is as it has to be
pub runs_done : (telling : Telling) (all : Accepted) (now : Option Accepted) (old new newer : Option (List ℕ)) (s : State) (tally : Tally)
    (done : List (List Transaction)) (ending : Ending) (text : List ℕ) → RunsOn telling (Some all) now old new s tally done →
    IfSome now (λ rest. rest ≡ record { batches = []; ending = ending }) → IsLast telling s tally ending text →
    newer ≡ behind new text → (all.ending ≡ ending) × (newer ≡ behind old (whole_text telling all))
runs_done telling all now old new newer s tally done ending text runs at_end last written =
    let whole = runs_ended telling all now old new s tally done ending runs at_end in
    let text_is = last_is telling s tally done ending text runs.state runs.committed runs.aborted last in (
      ap (λ (a : Accepted). a.ending) whole,
      written ∙ ap (λ w. behind w text) runs.appended ∙ behind_behind old (event_lines telling.report done) text
          ∙ ap (λ t. behind old (event_lines telling.report done ++ t)) text_is ∙ ap (λ a. behind old (whole_text telling a)) (sym whole),
    )

-- the end was cut off: a prefix of all was written
pub runs_cut : (telling : Telling) (all : Accepted) (now : Option Accepted) (old new newer : Option (List ℕ)) (s : State) (tally : Tally)
    (done : List (List Transaction)) (ending : Ending) (text : List ℕ) → RunsOn telling (Some all) now old new s tally done →
    IfSome now (λ rest. rest ≡ record { batches = []; ending = ending }) → IsLast telling s tally ending text →
    AppendsPrefix new text newer → AppendsPrefix old (whole_text telling all) newer
runs_cut telling all now old new newer s tally done ending text runs at_end last cut =
    let whole = runs_ended telling all now old new s tally done ending runs at_end in
    let text_is = last_is telling s tally done ending text runs.state runs.committed runs.aborted last in
    subst (λ l. AppendsPrefix old l newer) (ap (λ t. event_lines telling.report done ++ t) text_is ∙ ap (whole_text telling) (sym whole))
    (prefix_after old new newer (event_lines telling.report done) text runs.appended cut)

-- the batches done are some first ones of all
pub runs_short : (telling : Telling) (all : Accepted) (now : Option Accepted) (old new : Option (List ℕ)) (s : State) (tally : Tally) (done : List (List Transaction)) →
    RunsOn telling (Some all) now old new s tally done → AppendsBatches telling.report all.batches old new
runs_short telling all now old new s tally done runs =
    let t = told_of all now done runs.whole in record {
      done = done;
      rest = t.0.batches;
      parts = ap (λ (a : Accepted). a.batches) t.2;
      appended = runs.appended;
    }

-- the lines of a batch were cut off
pub runs_cut_in_batch : (telling : Telling) (all : Accepted) (now next : Option Accepted) (old new newer : Option (List ℕ)) (s : State) (tally : Tally)
    (done : List (List Transaction)) (batch : List Transaction) (told : List Fate) → RunsOn telling (Some all) now old new s tally done →
    now ≡ option_map (with_batch batch) next → 0 < length batch → told ≡ fates s (by_time batch) →
    AppendsPrefix new (told_lines telling.report told) newer → AppendsPrefix old (whole_text telling all) newer
runs_cut_in_batch telling all now next old new newer s tally done batch told runs was some told_is cut =
    let whole = whole_more (Some all) now next done batch runs.whole was some in
    let t = told_of all next (done ++ batch ∷ []) whole in
    let rest = event_lines-front telling (done ++ batch ∷ []) t.0.batches in
    let lines_are : event_lines telling.report done ++ told_lines telling.report told ≡ event_lines telling.report (done ++ batch ∷ []) =
    ap (λ l. event_lines telling.report done ++ told_lines telling.report l) (told_is ∙ ap (λ r. fates r (by_time batch)) runs.state) ∙ sym (event_lines-more telling done batch) in
    let ended : List ℕ = end_text telling all.batches all.ending in
    let all_lines : event_lines telling.report all.batches ≡ (event_lines telling.report done ++ told_lines telling.report told) ++ rest.0 =
    ap (λ (a : Accepted). event_lines telling.report a.batches) t.2 ∙ rest.1 ∙ ap (λ l. l ++ rest.0) (sym lines_are) in
    prefix_more old newer (event_lines telling.report done ++ told_lines telling.report told) (rest.0 ++ ended) (whole_text telling all)
    (ap (λ l. l ++ ended) all_lines ∙ append_assoc (event_lines telling.report done ++ told_lines telling.report told) rest.0 ended)
    (prefix_after old new newer (event_lines telling.report done) (told_lines telling.report told) runs.appended cut)
