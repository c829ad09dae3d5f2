-- How many operations are rolled back where exploration ended before any settling, and nothing is spread.
use Rattle.std.proofs.Common.{◌≡◌, ◌≢◌, ◌⊎◌, ℕ, zero, suc, ◌+◌, ◌<◌, ◌≤◌, Bool, true, false, cond, not, ◌&&◌, eqb, List, [], ◌∷◌, ◌++◌, length, get_or, refl, sym, ap, ◌∙◌, subst, inl, inr, arith, Option, Some, None, map, take, get_or-take, length-take, not-suc-le-zero, zero-lt-suc}
use Rattle.std.specs.Prelude.{Contains, count_by, slice_index, ◌==◌, unwrap_or}
use Rattle.std.proofs.lemmas.Bool.{false≢true, eq-eqb, ne_eqb, eqb-true, and_from, and_parts}
use Rattle.std.proofs.lemmas.List.Sums.{sum_by-cons}
use Rattle.std.proofs.lemmas.List.Folds.{list_any_at, list_any_none}
use Rattle.std.proofs.lemmas.List.Elements.{All-from_get_or}
use Rattle.morph_base.specs.Limits.{most_attempts}
use Rattle.morph_base.specs.declared.plan.Plan.{Plan}
use Rattle.morph_base.specs.declared.plan.Origin.{Origin}
use Rattle.morph_base.specs.declared.plan.Origin.TheVariants.{Base, Op as Written}
use Rattle.morph_base.specs.declared.word.OpState.{OpState}
use Rattle.morph_base.specs.declared.word.OpState.TheVariants.{Blocked, Ready, Claimed, Executed, Failed, Spread, Settled, SettledAborted}
use Rattle.morph_base.specs.declared.word.OpWord.{OpWord}
use Rattle.morph_base.specs.Functions.{value_of}
use Rattle.morph_base.specs.Plans.{IsPlan, op_count, op_at, origin_at, origins_of, final}
use Rattle.morph_base.specs.Clean.{from, source, outcome}
use Rattle.morph_base.specs.Words.{is_settled}
use Rattle.morph_base.specs.Guesses.{IsGuess, guess, is_stale, stale_count}
use Rattle.morph_base.proofs.GuessLaws.{guess_alone}
use Rattle.morph_base.proofs.OutcomeLaws.{source_precedes, keys_fit}
use Rattle.morph_base.proofs.KnownLaws.{known_source}
use Rattle.interleaving_core.specs.declared.entry.Record.{Record}
use Rattle.interleaving_core.specs.declared.entry.Entry.{Entry}
use Rattle.interleaving_core.specs.declared.event.CoreEvent.{CoreEvent}
use Rattle.interleaving_core.specs.declared.event.CoreEvent.TheVariants.{Ready as ReadyStep, Claim, Fetch, Finish, GiveBack, Spread as SpreadStep, RollBack, Decide, Settle}
use Rattle.interleaving_core.specs.Core.{Core, ended, entry_of, has_run, is_shown, places, IsSettledIn, value_in, IsVersion}
use Rattle.interleaving_core.specs.Steps.{May, MayRollBack, after, Run}
use Rattle.interleaving_core.specs.Soundness.{IsSound, IsSoundAt, HasRecords}
use Rattle.interleaving_core.specs.Growth.{Grows}
use Rattle.interleaving_core.proofs.Basics.{count_some}
use Rattle.interleaving_core.proofs.Sources.{sources_are, settled_right}
use Rattle.interleaving_core.proofs.Machine.{run_sound, step_keeps, step_grows}
use Rattle.interleaving_core.specs.Counts.{op_of, rises, rises_at, spreads, rolled, IsExplored, AreAgreed}
use Rattle.interleaving_core.proofs.Bounds.{attempt-after, run_attempts, few_rises, rises_sum, count_either, no_spread, sum_equal}

-- ---- two elements that pass a test that one at most passes

pub one_only : {X : Type 0} (q : X → Bool) (xs : List X) (x y : X) → count_by q xs ≤ 1 → Contains xs x → Contains xs y → q x ≡ true → q y ≡ true → x ≡ y
one_only q [] x y few first second one two = absurd (not-suc-le-zero first.1)
one_only {X} q (z ∷ xs) x y few first second one two = at first.0 first.1 first.2 second.0 second.1 second.2 (λ f s. one_only q xs x y later f s one two)
  where
    whole : count_by q (z ∷ xs) ≡ cond (q z) 1 0 + count_by q xs
    whole = sum_by-cons (λ t. cond (q t) 1 0) z xs

    passes : q z ≡ true → (t : X) → Contains xs t → q t ≡ true → ⊥
    passes here t found is =
        let more : 1 ≤ count_by q xs = count_some q xs t found is in
        let now : count_by q (z ∷ xs) ≡ suc zero + count_by q xs = whole ∙ ap (λ b. cond b 1 0 + count_by q xs) here in
        absurd (omega arith)

    later : count_by q xs ≤ 1
    later = omega (arith, whole, few)

    lt-from : (n : ℕ) → suc n < suc (length xs) → n < length xs
    lt-from n less = omega arith

    at : (j : ℕ) → j < length (z ∷ xs) → get_or (z ∷ xs) j x ≡ x → (k : ℕ) → k < length (z ∷ xs) → get_or (z ∷ xs) k y ≡ y → (Contains xs x → Contains xs y → x ≡ y) → x ≡ y
    at zero lt is zero less same rest = sym is ∙ same
    at zero lt is (suc k) less same rest = absurd (passes (ap q is ∙ one) y (k, lt-from k less, same) two)
    at (suc j) lt is zero less same rest = absurd (passes (ap q same ∙ two) x (j, lt-from j lt, is) one)
    at (suc j) lt is (suc k) less same rest = rest (j, lt-from j lt, is) (k, lt-from k less, same)

-- ---- after exploration each record is a guess

pub run_shown : (s : OpState) → has_run s ≡ true → is_shown s ≡ true
run_shown Blocked is = is
run_shown Ready is = is
run_shown Claimed is = is
run_shown Executed is = refl
run_shown Failed is = refl
run_shown Spread is = refl
run_shown Settled is = refl
run_shown SettledAborted is = is

run_open : (s : OpState) → has_run s ≡ true → is_settled s ≡ true → ⊥
run_open Blocked ran settled = false≢true ran
run_open Ready ran settled = false≢true ran
run_open Claimed ran settled = false≢true ran
run_open Executed ran settled = false≢true settled
run_open Failed ran settled = false≢true settled
run_open Spread ran settled = false≢true ran
run_open Settled ran settled = false≢true ran
run_open SettledAborted ran settled = false≢true ran

ended-value : (a : ℕ) (xs : List ℕ) (r : Option ℕ) (d : ℕ) → slice_index xs 0 ≡ d → (ended a xs r).value ≡ unwrap_or r d
ended-value a xs None d first = first
ended-value a xs (Some v) d first = refl

module _ (p : Plan) (cap : ℕ) (valid : IsPlan p) (b : Core) (sound : IsSound p cap b) (explored : IsExplored p b) where
  abbrev pub g : ℕ → ℕ
  g o = (b.word o).value

  -- a version of a source is its word's value
  pub version_guess : (o j x : ℕ) → o < op_count p → j < places p o → IsVersion b (origin_at p o j) x → from g (origin_at p o j) ≡ x
  version_guess o j x lt below is = at (origin_at p o j) refl is
    where
      at : (q : Origin) → origin_at p o j ≡ q → IsVersion b q x → from g q ≡ x
      at (Base v) same version = version
      at (Written s) same version =
          let in_range : s < op_count p = (source_precedes p o j s valid lt below same).in_range in
          elim version [
            | inl settled ↦ absurd (run_open (b.word s).state (explored.ran s in_range) settled.0)
            | inr shown ↦
                let here : IsSoundAt p cap b s (b.word s) = sound.each_op s in_range in
                let e : Entry = shown.entry in
                let bounds = here.published.below e shown.inside shown.op_is in
                let one : (b.word s).attempt ≡ 1 = explored.first s in_range in
                let q : Entry → Bool = λ x. (x.op == s) && (x.attempt == 1) in
                let own : Contains b.published (entry_of s (b.word s)) = here.published.shown (run_shown (b.word s).state (explored.ran s in_range)) in
                let low = bounds.0 in
                let high = bounds.1 in
                let same_entry : entry_of s (b.word s) ≡ e =
                one_only q b.published (entry_of s (b.word s)) e (here.published.once 1) own shown.inside (and_from (eqb s s) (eqb (b.word s).attempt 1) (eq-eqb s s refl) (eq-eqb (b.word s).attempt 1 one))
                (and_from (eqb e.op s) (eqb e.attempt 1) (eq-eqb e.op s shown.op_is) (eq-eqb e.attempt 1 (omega arith))) in
                ap (λ (t : Entry). t.value) same_entry ∙ shown.value_is
          ]

  -- the values are guesses, and so are the records
  values_guess : IsGuess p g
  values_guess = record { at = λ o lt. made o lt }
    where
      made : (o : ℕ) → o < op_count p → g o ≡ unwrap_or (outcome p g o) (source p g o 0)
      made o lt =
          let here : IsSoundAt p cap b o (b.word o) = sound.each_op o lt in
          let run = here.follows.run (explored.ran o lt) in
          let xs : List ℕ = run.0 in
          let kept : HasRecords p (b.recorded o) o xs (b.word o).attempt = run.1 in
          let each : (j : ℕ) → j < places p o → get_or xs j 0 ≡ source p g o j =
          λ j below. sym (version_guess o j (slice_index xs j) lt below ((here.records j (record { value = slice_index xs j; attempt = (b.word o).attempt }) below (kept.each j below)).version)) in
          let values : map (from g) (origins_of p o) ≡ xs = sources_are p g o xs valid lt kept.len each in
          ap (λ (w : OpWord). w.value) run.2 ∙ ended-value (b.word o).attempt xs (value_of (op_at p o).op xs) (source p g o 0) (each 0 (zero-lt-suc _))
          ∙ ap (λ zs. unwrap_or (value_of (op_at p o).op zs) (source p g o 0)) (sym values)

  pub records_guess : (o j : ℕ) (r : Record) → o < op_count p → j < places p o → b.recorded o j ≡ Some r → r.value ≡ from (guess p) (origin_at p o j)
  records_guess o j r lt below is =
      let here : IsSoundAt p cap b o (b.word o) = sound.each_op o lt in
      sym (version_guess o j r.value lt below ((here.records j r below is).version)) ∙ at (origin_at p o j) refl
    where
      at : (q : Origin) → origin_at p o j ≡ q → from g q ≡ from (guess p) q
      at (Base v) same = refl
      at (Written s) same = guess_alone p g s valid values_guess (source_precedes p o j s valid lt below same).in_range

-- ---- from a state on

-- the steps of a list, the last one first, lead from b to c
abbrev pub RunFrom : Plan → ℕ → Core → List CoreEvent → Core → Type 0
RunFrom p cap b [] c = c ≡ b
RunFrom p cap b (e ∷ es) c = (m : Core) × RunFrom p cap b es m × May p cap m e × (c ≡ after p m e)

pub run_split : (p : Plan) (cap : ℕ) (es fs : List CoreEvent) (c : Core) → Run p cap (es ++ fs) c → (b : Core) × Run p cap fs b × RunFrom p cap b es c
run_split p cap [] fs c run = (c, run, refl)
run_split p cap (e ∷ es) fs c run = let rest = run_split p cap es fs run.0 run.1 in (rest.0, rest.1, (run.0, rest.2, run.2, run.3))

pub one_small : 1 < most_attempts
one_small = omega arith

module _ (p : Plan) (valid : IsPlan p) (b : Core) (begun : IsSound p 1 b) (explored : IsExplored p b) where
  pub record IsSince (c : Core) : Type 0 where
    pub sound : IsSound p 1 c
    pub entries : (e : Entry) → Contains b.published e → Contains c.published e
    -- an operation at attempt 1 has the records that it had
    pub records : (o j : ℕ) → o < op_count p → (c.word o).attempt ≡ 1 → c.recorded o j ≡ b.recorded o j
    -- and another was rolled back, since a source's guess was not its value
    pub stale : (o : ℕ) → o < op_count p → ((c.word o).attempt ≡ 1) ⊎ (is_stale p o ≡ true)

  -- a record that differs from its settled source makes the operation stale
  stale_place : (o j : ℕ) → o < op_count p → j < places p o → from (guess p) (origin_at p o j) ≢ from (final p) (origin_at p o j) → is_stale p o ≡ true
  stale_place o j lt below differs =
      let n : ℕ = places p o in
      let origins : List Origin = (op_at p o).origins in
      let fits : n ≤ length origins = keys_fit p o valid lt in
      let taken : length (take n origins) ≡ n = length-take n origins ∙ omega arith in
      let inside : j < length (take n origins) = subst (λ m. j < m) (sym taken) below in
      list_any_at (λ q. not (from (guess p) q == from (final p) q)) (take n origins) j (Base 0) inside
      (ap (λ q. not (from (guess p) q == from (final p) q)) (get_or-take n origins j (Base 0) below)
      ∙ ap not (ne_eqb (from (guess p) (origin_at p o j)) (from (final p) (origin_at p o j)) differs))

  fresh_places : (o : ℕ) → o < op_count p → ((j : ℕ) → j < places p o → from (guess p) (origin_at p o j) ≡ from (final p) (origin_at p o j)) → is_stale p o ≡ false
  fresh_places o lt same =
      let n : ℕ = places p o in
      let origins : List Origin = (op_at p o).origins in
      let fits : n ≤ length origins = keys_fit p o valid lt in
      let taken : length (take n origins) ≡ n = length-take n origins ∙ omega arith in
      list_any_none (λ q. not (from (guess p) q == from (final p) q)) (take n origins)
      (All-from_get_or (λ q. not (from (guess p) q == from (final p) q) ≡ false) (take n origins) (Base 0)
      (λ j inside.
      let below : j < n = subst (λ m. j < m) taken inside in
      ap (λ q. not (from (guess p) q == from (final p) q)) (get_or-take n origins j (Base 0) below)
      ∙ ap not (eq-eqb (from (guess p) (origin_at p o j)) (from (final p) (origin_at p o j)) (same j below))))

  module _ (m : Core) (since : IsSince m) where
    sound : IsSound p 1 m
    sound = since.sound

    -- with cap 1 an operation is rolled back where it is stale, and nothing else raises its attempt
    pub rolls_stale : (o j : ℕ) → MayRollBack p 1 m o j → (m.word o).attempt ≡ 1 → is_stale p o ≡ true
    rolls_stale o j may at =
        elim may.cause [
          | inl other ↦ let below = other.below_cap in absurd (omega arith)
          | inr more ↦
              elim more [
                | inl spread ↦ let below = spread.below_cap in absurd (omega arith)
                | inr cap_ones ↦
                    elim cap_ones.stale [
                      | inl spread ↦ let range = ((since.sound).each_op o may.in_range).range.spread spread in let low = range.0 in let high = range.1 in absurd (omega arith)
                      | inr differs ↦
                          stale_place o j may.in_range may.in_places
                          (λ same.
                          let kept : b.recorded o j ≡ Some differs.kept = sym (since.records o j may.in_range at) ∙ differs.is in
                          let guessed = records_guess p 1 valid b begun explored o j differs.kept may.in_range may.in_places kept in
                          let known : source p (value_in m) o j ≡ source p (final p) o j =
                          known_source p (IsSettledIn m) (value_in m) valid (settled_right p 1 valid m since.sound) o j may.in_range may.in_places (cap_ones.sources j may.in_places) in
                          differs.differs (guessed ∙ same ∙ sym known))
                    ]
              ]
        ]

    step_stale : (e : CoreEvent) → May p 1 m e → (o : ℕ) → o < op_count p → (m.word o).attempt ≡ 1 → (((after p m e).word o).attempt ≡ 1) ⊎ (is_stale p o ≡ true)
    step_stale e may o lt at = of_rise (rises_at o e) refl
      where
        of_event : (f : CoreEvent) → May p 1 m f → rises f ≡ true → op_of f ≡ o → is_stale p o ≡ true
        of_event (SpreadStep i sibling) way is same =
            let below = way.below_cap in
            let first = ((since.sound).each_op i way.in_range).range.word.first in
            absurd (omega arith)
        of_event (RollBack i j) way is same = subst (λ n. is_stale p n ≡ true) same (rolls_stale i j way (ap (λ n. (m.word n).attempt) same ∙ at))
        of_event (ReadyStep i) way is same = absurd (false≢true is)
        of_event (Claim i t) way is same = absurd (false≢true is)
        of_event (Fetch i j t x) way is same = absurd (false≢true is)
        of_event (Finish i t) way is same = absurd (false≢true is)
        of_event (GiveBack i t) way is same = absurd (false≢true is)
        of_event (Decide i committed) way is same = absurd (false≢true is)
        of_event (Settle i t) way is same = absurd (false≢true is)

        of_rise : (r : Bool) → rises_at o e ≡ r → (((after p m e).word o).attempt ≡ 1) ⊎ (is_stale p o ≡ true)
        of_rise false is = inl (attempt-after p m e o ∙ ap (λ r. (m.word o).attempt + cond r 1 0) is ∙ omega arith)
        of_rise true is = let both = and_parts (rises e) (eqb (op_of e) o) is in inr (of_event e may both.0 (eqb-true (op_of e) o both.1))

    pub since_more : (e : CoreEvent) → May p 1 m e → IsSince (after p m e)
    since_more e may =
        let grows : Grows p m (after p m e) = step_grows p 1 valid one_small m since.sound e may in
        record {
          sound = step_keeps p 1 valid one_small m since.sound e may;
          entries = λ x inside. grows.entries x (since.entries x inside);
          records = λ o j lt at.
              let first = ((since.sound).each_op o lt).range.word.first in
              let low = grows.attempts o in
              let before : (m.word o).attempt ≡ 1 = omega arith in
              let own : Contains b.published (entry_of o (b.word o)) = (begun.each_op o lt).published.shown (run_shown (b.word o).state (explored.ran o lt)) in
              grows.records o j (entry_of o (b.word o)) lt (since.entries (entry_of o (b.word o)) own) refl (explored.first o lt ∙ sym at) ∙ since.records o j lt before;
          stale = λ o lt. elim (since.stale o lt) [ inr is ↦ inr is | inl at ↦ step_stale e may o lt at ];
        }

  pub run_since : (es : List CoreEvent) (c : Core) → RunFrom p 1 b es c → IsSince c
  run_since [] c run = subst IsSince (sym run) (record { sound = begun; entries = λ e inside. inside; records = λ o j lt at. refl; stale = λ o lt. inl (explored.first o lt) })
  run_since (e ∷ es) c run = subst IsSince (sym run.3) (since_more run.0 (run_since es run.0 run.1) e run.2)

-- one worker, nothing spread: as many rollbacks as operations with a source whose guess is not its value
pub rolled-stale : (p : Plan) → IsPlan p → (es fs : List CoreEvent) (c : Core) → Run p 1 (es ++ fs) c → ((b : Core) → Run p 1 fs b → IsExplored p b) → AreAgreed p c → rolled (es ++ fs) ≡ stale_count p
rolled-stale p valid es fs c run explored agreed =
    let parts = run_split p 1 es fs c run in
    let b : Core = parts.0 in
    let begun : IsSound p 1 b = run_sound p 1 valid one_small fs b parts.1 in
    let began : IsExplored p b = explored b parts.1 in
    let since : IsSince p valid b begun began c = run_since p valid b begun began es c parts.2 in
    let each : (o : ℕ) → o < op_count p → count_by (rises_at o) (es ++ fs) ≡ cond (is_stale p o) 1 0 = λ o lt.
    let few : count_by (rises_at o) (es ++ fs) ≤ 1 = few_rises p 1 valid one_small (es ++ fs) c run o lt in
    let attempts : (c.word o).attempt ≡ 1 + count_by (rises_at o) (es ++ fs) = run_attempts p 1 (es ++ fs) c run o in
    of_count (count_by (rises_at o) (es ++ fs)) few (is_stale p o)
    (λ none.
    let at : (c.word o).attempt ≡ 1 = omega arith in
    fresh_places p valid b begun began o lt
    (λ j below.
    let r = agreed.each o j lt below at in
    sym (records_guess p 1 valid b begun began o j r.0 lt below (sym (since.records o j lt at) ∙ r.1)) ∙ r.2))
    (λ one. elim (since.stale o lt) [ inr is ↦ is | inl at ↦ absurd (omega arith) ]) in
    let sums = rises_sum p 1 valid one_small (es ++ fs) c run in
    let either = count_either (es ++ fs) in
    let none : spreads (es ++ fs) ≡ 0 = no_spread p 1 valid one_small (es ++ fs) c run refl in
    let same = sum_equal (λ o. count_by (rises_at o) (es ++ fs)) (λ o. cond (is_stale p o) 1 0) (op_count p) each in
    omega (arith, sums, either, none, same)
  where
    of_count : (n : ℕ) → n ≤ 1 → (s : Bool) → (n ≡ 0 → s ≡ false) → (n ≡ 1 → s ≡ true) → n ≡ cond s 1 0
    of_count zero few s none one = sym (ap (λ t. cond t 1 0) (none refl))
    of_count (suc zero) few s none one = sym (ap (λ t. cond t 1 0) (one refl))
    of_count (suc (suc n)) few s none one = absurd (omega arith)
