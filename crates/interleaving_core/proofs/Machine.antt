-- Every step keeps a sound state sound, and so does every list of steps from the start.
use Rattle.std.proofs.Common.{◌≡◌, ℕ, ◌+◌, ◌*◌, ◌<◌, ◌≤◌, Bool, true, false, cond, List, [], ◌∷◌, length, get_or, refl, sym, ap, ◌∙◌, subst, inl, inr, arith, Option, Some, None, not-suc-le-zero, length-append}
use Rattle.std.specs.Prelude.{Contains, All, count_by, filter, ◌==◌}
use Rattle.std.proofs.lemmas.Bool.{false≢true, cases_lt, ne_eqb, eq-eqb}
use Rattle.std.proofs.lemmas.List.Sums.{length-filter, sum_by-cons}
use Rattle.std.proofs.lemmas.List.Elements.{Contains-get_or, All-filter}
use Rattle.std.proofs.lemmas.Option.{same_Some, none-some}
use Rattle.morph_base.specs.Limits.{most_attempts}
use Rattle.morph_base.specs.declared.plan.Plan.{Plan}
use Rattle.morph_base.specs.declared.word.OpState.{OpState}
use Rattle.morph_base.specs.declared.word.OpState.TheVariants.{Blocked, Ready, Claimed, Executed, Failed, Spread, Settled, SettledAborted}
use Rattle.morph_base.specs.Plans.{IsPlan, op_count, event_of, origin_at}
use Rattle.morph_base.specs.Words.{is_settled}
use Rattle.interleaving_core.specs.declared.entry.Record.{Record}
use Rattle.interleaving_core.specs.declared.entry.Entry.{Entry}
use Rattle.interleaving_core.specs.declared.entry.Settling.{Settling}
use Rattle.interleaving_core.specs.declared.event.CoreEvent.{CoreEvent}
use Rattle.interleaving_core.specs.declared.event.CoreEvent.TheVariants.{Ready as ReadyStep, Claim, Fetch, Finish, GiveBack, Spread as SpreadStep, RollBack, Decide, Settle}
use Rattle.interleaving_core.specs.Core.{Core, start, is_shown, has_run, entries_at, settlings_at, places, IsSettledAs}
use Rattle.interleaving_core.specs.Steps.{May, after, settling, Run}
use Rattle.interleaving_core.specs.Soundness.{IsSoundAt, IsSettledRight, IsAbortedRight, IsSound}
use Rattle.interleaving_core.specs.Growth.{Grows}
use Rattle.interleaving_core.specs.Schedules.{RestsOnAborted, IsFold, IsSettledOnce, HasFewAttempts, TellsSteps, settles, shows}
use Rattle.interleaving_core.proofs.Basics.{count_some, count_none, count_more, entries-none}
use Rattle.interleaving_core.proofs.Parts.{blocked_range, blocked_sound}
use Rattle.interleaving_core.proofs.Sources.{settled_right}
use Rattle.interleaving_core.proofs.Claiming.{ready_grows, ready_keeps, claiming_grows, claiming_keeps, giving_back_grows, giving_back_keeps}
use Rattle.interleaving_core.proofs.Fetching.{fetching_grows, fetching_keeps}
use Rattle.interleaving_core.proofs.Finishing.{finishing_grows, finishing_keeps}
use Rattle.interleaving_core.proofs.Retrying.{spreading_grows, spreading_keeps, rolling_back_grows, rolling_back_keeps}
use Rattle.interleaving_core.proofs.Deciding.{deciding_grows, deciding_keeps}
use Rattle.interleaving_core.proofs.Settlement.{committing_grows, committing_keeps, aborting_grows, aborting_keeps}
use Rattle.interleaving_core.proofs.Counting.{length-classes, count_by-filter}

-- ---- the start

pub start_sound : (p : Plan) (cap : ℕ) → cap < most_attempts → IsSound p cap start
start_sound p cap small_cap = record {
  each_op = λ o lt.
      blocked_sound p cap start o 1 (blocked_range p cap small_cap 1 (omega arith) (omega arith))
      (record { once = λ a. omega arith; below = λ e inside op_is. absurd (not-suc-le-zero inside.1); not_yet = λ is. refl; shown = λ is. absurd (false≢true is) })
      (record { count = refl; by_word = λ x inside op_is. absurd (not-suc-le-zero inside.1) })
      (λ j r below is. absurd (none-some r is));
  each_claim = λ t h is. absurd (none-some h is);
  decided = λ i d is. absurd (none-some d is);
  entries = λ e inside. absurd (not-suc-le-zero inside.1);
  settlings = λ x inside. absurd (not-suc-le-zero inside.1);
}

-- ---- one step

module _ (p : Plan) (cap : ℕ) (valid : IsPlan p) (small_cap : cap < most_attempts) (c : Core) (sound : IsSound p cap c) where
  pub step_keeps : (e : CoreEvent) → May p cap c e → IsSound p cap (after p c e)
  step_keeps (ReadyStep o) may = ready_keeps p cap valid small_cap c sound o may
  step_keeps (Claim o t) may = claiming_keeps p cap valid small_cap c sound o t may
  step_keeps (Fetch o j t x) may = fetching_keeps p cap valid small_cap c sound o j t x may
  step_keeps (Finish o t) may = finishing_keeps p cap valid small_cap c sound o t may
  step_keeps (GiveBack o t) may = giving_back_keeps p cap valid small_cap c sound o t may
  step_keeps (SpreadStep o sibling) may = spreading_keeps p cap valid small_cap c sound o sibling may
  step_keeps (RollBack o j) may = rolling_back_keeps p cap valid small_cap c sound o j may
  step_keeps (Decide i committed) may = deciding_keeps p cap valid small_cap c sound i committed may
  step_keeps (Settle o t) may =
      elim may.as_decided [
        | inl commits ↦
            subst (λ d. IsSound p cap (settling p c o t d)) (sym commits.decided) (committing_keeps p cap valid small_cap c sound o t may.in_range may.worker commits)
        | inr aborts ↦
            subst (λ d. IsSound p cap (settling p c o t d)) (sym aborts.decided) (aborting_keeps p cap valid small_cap c sound o t may.in_range may.worker aborts)
      ]

  pub step_grows : (e : CoreEvent) → May p cap c e → Grows p c (after p c e)
  step_grows (ReadyStep o) may = ready_grows p cap valid small_cap c sound o may
  step_grows (Claim o t) may = claiming_grows p cap valid small_cap c sound o t may
  step_grows (Fetch o j t x) may = fetching_grows p cap valid small_cap c sound o j t x may
  step_grows (Finish o t) may = finishing_grows p cap valid small_cap c sound o t may
  step_grows (GiveBack o t) may = giving_back_grows p cap valid small_cap c sound o t may
  step_grows (SpreadStep o sibling) may = spreading_grows p cap valid small_cap c sound o sibling may
  step_grows (RollBack o j) may = rolling_back_grows p cap valid small_cap c sound o j may
  step_grows (Decide i committed) may = deciding_grows p cap valid small_cap c sound i committed may
  step_grows (Settle o t) may =
      elim may.as_decided [
        | inl commits ↦
            subst (λ d. Grows p c (settling p c o t d)) (sym commits.decided) (committing_grows p cap valid small_cap c sound o t may.in_range may.worker commits)
        | inr aborts ↦
            subst (λ d. Grows p c (settling p c o t d)) (sym aborts.decided) (aborting_grows p cap valid small_cap c sound o t may.in_range may.worker aborts)
      ]

-- ---- every list of steps

pub run_sound : (p : Plan) (cap : ℕ) → IsPlan p → cap < most_attempts → (es : List CoreEvent) (c : Core) → Run p cap es c → IsSound p cap c
run_sound p cap valid small_cap [] c run = subst (IsSound p cap) (sym run) (start_sound p cap small_cap)
run_sound p cap valid small_cap (e ∷ es) c run =
    subst (IsSound p cap) (sym run.3) (step_keeps p cap valid small_cap run.0 (run_sound p cap valid small_cap es run.0 run.1) e run.2)

-- ---- what a sound state comes to

module _ (p : Plan) (cap : ℕ) (valid : IsPlan p) (c : Core) (sound : IsSound p cap c) where
  pub rests_on_none : (o : ℕ) → o < op_count p → RestsOnAborted p c o → ⊥
  rests_on_none o lt rests =
      elim rests [
        | inl one ↦
            let right : IsSettledRight p c o (c.word o) = (sound.each_op o lt).settled one.state_is in
            let agrees = right.records one.place one.in_places in
            let same : agrees.0 ≡ one.kept = same_Some agrees.0 one.kept (sym agrees.1 ∙ one.is_kept) in
            one.unlike (right.sources one.place one.in_places, sym agrees.2 ∙ ap (λ (r : Record). r.value) same)
        | inr carried ↦
            let right : IsAbortedRight p c o (c.word o) = (sound.each_op o lt).aborted carried.state_is in
            carried.unlike (right.target, sym right.carries)
      ]

  pub is_fold : IsFold p c
  is_fold = record {
    values = settled_right p cap valid c sound;
    verdicts = λ i committed is. let right = sound.decided i committed is in (right.0, sym right.1);
  }

  pub settled_once : IsSettledOnce p c
  settled_once = record {
    once = λ o.
        elim (cases_lt o (op_count p)) [
          | inl lt ↦ subst (λ n. n ≤ 1) (sym (sound.each_op o lt).booked.count) (at_most_one (is_settled (c.word o).state))
          | inr above ↦
              let none : settlings_at o c.settlings ≡ 0 =
              count_none (λ x. x.op == o) c.settlings (λ x inside. ne_eqb x.op o (λ same. let below = sound.settlings x inside in absurd (omega arith))) in
              omega arith
        ];
    by_word = λ x inside.
        let lt : x.op < op_count p = sound.settlings x inside in
        let booked = (sound.each_op x.op lt).booked in
        let some : 1 ≤ settlings_at x.op c.settlings = count_some (λ y. y.op == x.op) c.settlings x inside (eq-eqb x.op x.op refl) in
        (lt, one_only (is_settled (c.word x.op).state) (subst (λ n. 1 ≤ n) booked.count some), booked.by_word x inside refl);
  }
    where
      at_most_one : (b : Bool) → cond b 1 0 ≤ 1
      at_most_one true = omega arith
      at_most_one false = omega arith

      one_only : (b : Bool) → 1 ≤ cond b 1 0 → b ≡ true
      one_only true some = refl
      one_only false some = absurd (omega arith)

  -- an entry is of an operation of the plan, at one of its attempts
  pub entry_attempts : (e : Entry) → Contains c.published e → (e.op < op_count p) × (1 ≤ e.attempt) × (e.attempt ≤ cap + 1)
  entry_attempts e inside =
      let lt : e.op < op_count p = (sound.entries e inside).0 in
      let here : IsSoundAt p cap c e.op (c.word e.op) = sound.each_op e.op lt in
      let below = here.published.below e inside refl in
      let most = here.range.most in
      (lt, below.0, omega (arith, below.1))

  shown_once : (o a : ℕ) → entries_at o a c.published ≤ 1
  shown_once o a =
      elim (cases_lt o (op_count p)) [
        | inl lt ↦ (sound.each_op o lt).published.once a
        | inr above ↦
            let none : entries_at o a c.published ≡ 0 =
            entries-none o a c.published (λ e inside op_is. let below = (sound.entries e inside).0 in absurd (omega arith)) in
            omega arith
      ]

  few_shown : (o : ℕ) → count_by (λ e. e.op == o) c.published ≤ cap + 1
  few_shown o =
      let own : List Entry = filter (λ e. e.op == o) c.published in
      let all : All (λ e. (1 ≤ e.attempt) × (e.attempt < 1 + (cap + 1))) c.published =
      λ k d lt. let found = entry_attempts (get_or c.published k d) (Contains-get_or c.published k d lt) in (found.1, omega (arith, found.2)) in
      let short : length own ≤ (cap + 1) * 1 =
      length-classes (λ e. e.attempt) 1 1 (cap + 1) own (All-filter (λ e. e.op == o) (λ e. (1 ≤ e.attempt) × (e.attempt < 1 + (cap + 1))) c.published all)
      (λ a. subst (λ n. n ≤ 1) (sym (count_by-filter (λ e. e.op == o) (λ e. e.attempt == a) c.published)) (shown_once o a)) in
      let counted : length own ≡ count_by (λ e. e.op == o) c.published = length-filter (λ e. e.op == o) c.published in
      omega arith

  -- at the last attempt a shown word has the values of settled sources alone
  last_settled : (o j : ℕ) (r : Record) → o < op_count p → is_shown (c.word o).state ≡ true → (c.word o).attempt ≡ cap + 1 → j < places p o
      → c.recorded o j ≡ Some r → IsSettledAs c (origin_at p o j) r.value
  last_settled o j r lt shown at_last below is = of_state (c.word o).state refl shown
    where
      of_state : (st : OpState) → (c.word o).state ≡ st → is_shown st ≡ true → IsSettledAs c (origin_at p o j) r.value
      of_state Blocked same is_one = absurd (false≢true is_one)
      of_state Ready same is_one = absurd (false≢true is_one)
      of_state Claimed same is_one = absurd (false≢true is_one)
      of_state Executed same is_one = (sound.each_op o lt).last (ap has_run same) at_last j r below is
      of_state Failed same is_one = (sound.each_op o lt).last (ap has_run same) at_last j r below is
      of_state Spread same is_one = let range = (sound.each_op o lt).range.spread same in absurd (omega (arith, range.1))
      of_state Settled same is_one =
          let right : IsSettledRight p c o (c.word o) = (sound.each_op o lt).settled same in
          let agrees = right.records j below in
          (right.sources j below, sym agrees.2 ∙ ap (λ (k : Record). k.value) (same_Some agrees.0 r (sym agrees.1 ∙ is)))
      of_state SettledAborted same is_one = absurd (false≢true is_one)

  pub few_attempts : HasFewAttempts p cap c
  few_attempts = record {
    once = shown_once;
    attempts = entry_attempts;
    few = few_shown;
    last = last_settled;
    all =
        length-classes (λ e. e.op) 0 (cap + 1) (op_count p) c.published
        (λ k d lt. let found = entry_attempts (get_or c.published k d) (Contains-get_or c.published k d lt) in (omega arith, omega (arith, found.0))) few_shown;
  }

  -- the settlings are at most as many as the operations
  pub few_settlings : length c.settlings ≤ op_count p
  few_settlings =
      let short : length c.settlings ≤ op_count p * 1 =
      length-classes (λ x. x.op) 0 1 (op_count p) c.settlings
      (λ k d lt. let found = sound.settlings (get_or c.settlings k d) (Contains-get_or c.settlings k d lt) in (omega arith, omega (arith, found))) settled_once.once in
      omega arith

-- ---- the lists tell the steps

pub run_tells : (p : Plan) (cap : ℕ) (es : List CoreEvent) (c : Core) → Run p cap es c → TellsSteps es c
run_tells p cap [] c run = record { settlings = λ o. ap (λ (d : Core). settlings_at o d.settlings) run; entries = ap (λ (d : Core). length d.published) run }
run_tells p cap (e ∷ es) c run =
    let before : TellsSteps es run.0 = run_tells p cap es run.0 run.1 in
    record {
      settlings = λ o.
          ap (λ (d : Core). settlings_at o d.settlings) run.3 ∙ settled_more run.0 e run.2 o ∙ ap (λ n. n + cond (settles o e) 1 0) (before.settlings o)
          ∙ omega arith ∙ sym (sum_by-cons (λ x. cond (settles o x) 1 0) e es);
      entries =
          ap (λ (d : Core). length d.published) run.3 ∙ shown_more run.0 e ∙ ap (λ n. n + cond (shows e) 1 0) before.entries
          ∙ omega arith ∙ sym (sum_by-cons (λ x. cond (shows x) 1 0) e es);
    }
  where
    no_more : (n : ℕ) → n ≡ n + 0
    no_more n = omega arith

    settled_more : (b : Core) (x : CoreEvent) → May p cap b x → (o : ℕ) → settlings_at o (after p b x).settlings ≡ settlings_at o b.settlings + cond (settles o x) 1 0
    settled_more b (ReadyStep i) may o = no_more (settlings_at o b.settlings)
    settled_more b (Claim i t) may o = no_more (settlings_at o b.settlings)
    settled_more b (Fetch i j t x) may o = no_more (settlings_at o b.settlings)
    settled_more b (Finish i t) may o = no_more (settlings_at o b.settlings)
    settled_more b (GiveBack i t) may o = no_more (settlings_at o b.settlings)
    settled_more b (SpreadStep i sibling) may o = no_more (settlings_at o b.settlings)
    settled_more b (RollBack i j) may o = no_more (settlings_at o b.settlings)
    settled_more b (Decide i committed) may o = no_more (settlings_at o b.settlings)
    settled_more b (Settle i t) may o =
        let x : Settling = record { op = i; by = t } in
        elim may.as_decided [
          | inl commits ↦
              ap (λ d. settlings_at o (settling p b i t d).settlings) commits.decided ∙ count_more (λ y. y.op == o) b.settlings x
          | inr aborts ↦ ap (λ d. settlings_at o (settling p b i t d).settlings) aborts.decided ∙ count_more (λ y. y.op == o) b.settlings x
        ]

    shown_more : (b : Core) (x : CoreEvent) → length (after p b x).published ≡ length b.published + cond (shows x) 1 0
    shown_more b (ReadyStep i) = no_more (length b.published)
    shown_more b (Claim i t) = no_more (length b.published)
    shown_more b (Fetch i j t x) = no_more (length b.published)
    shown_more b (Finish i t) = length-append b.published _
    shown_more b (GiveBack i t) = no_more (length b.published)
    shown_more b (SpreadStep i sibling) = length-append b.published _
    shown_more b (RollBack i j) = no_more (length b.published)
    shown_more b (Decide i committed) = no_more (length b.published)
    shown_more b (Settle i t) = not_shown (b.decision (event_of p i))
      where
        not_shown : (d : Option Bool) → length (settling p b i t d).published ≡ length b.published + 0
        not_shown None = no_more (length b.published)
        not_shown (Some true) = no_more (length b.published)
        not_shown (Some false) = no_more (length b.published)
