-- Bounds on what a run counts.
use Rattle.std.proofs.Common.{◌≡◌, ◌≢◌, ◌⊎◌, ℕ, zero, suc, ◌+◌, ◌*◌, ◌<◌, ◌≤◌, Bool, true, false, cond, ◌&&◌, eqb, List, [], ◌∷◌, ◌++◌, length, get_or, refl, sym, ap, ◌∙◌, subst, inl, inr, arith, Option, Some, None, not-suc-le-zero, add-one, zero-lt-suc, suc-le-suc}
use Rattle.std.specs.Prelude.{Contains, All, count_by, sum_by, filter, ◌==◌}
use Rattle.std.proofs.lemmas.Bool.{false≢true, cases_eq, cases_lt, cases_Bool, eq-eqb, ne_eqb, eqb-true, and_from, and_parts}
use Rattle.std.proofs.lemmas.List.Sums.{sum_by-cons, sum_by_push, length-filter}
use Rattle.std.proofs.Math.Nat.{mul_comm}
use Rattle.std.proofs.lemmas.List.Elements.{Contains-get_or, All-filter, filter_passes}
use Rattle.morph_base.specs.Limits.{most_attempts}
use Rattle.morph_base.specs.declared.plan.Plan.{Plan}
use Rattle.morph_base.specs.declared.word.OpState.{OpState}
use Rattle.morph_base.specs.declared.word.OpState.TheVariants.{Blocked, Ready, Claimed, Executed, Failed, Spread, Settled, SettledAborted}
use Rattle.morph_base.specs.declared.word.OpWord.{OpWord}
use Rattle.morph_base.specs.Functions.{value_of}
use Rattle.morph_base.specs.Plans.{IsPlan, op_count, op_at, event_of}
use Rattle.morph_base.specs.Words.{is_idle, is_evaluated}
use Rattle.morph_base.specs.Graphs.{below}
use Rattle.morph_base.proofs.LevelLaws.{below_more}
use Rattle.interleaving_core.specs.declared.entry.Entry.{Entry}
use Rattle.interleaving_core.specs.declared.event.CoreEvent.{CoreEvent}
use Rattle.interleaving_core.specs.declared.event.CoreEvent.TheVariants.{Ready as ReadyStep, Claim, Fetch, Finish, GiveBack, Spread as SpreadStep, RollBack, Decide, Settle}
use Rattle.interleaving_core.specs.Core.{Core, put, fetched, is_shown, ended, entries_at, entry_of}
use Rattle.interleaving_core.specs.Steps.{May, after, settling, end_of, spread_of, Run}
use Rattle.interleaving_core.specs.Soundness.{IsSound, IsSoundAt}
use Rattle.interleaving_core.specs.Schedules.{TellsSteps, shows}
use Rattle.interleaving_core.proofs.Basics.{put_here, put_else, count_more, count_none, count_some, entries-more_else, entries-more_at, entries-none}
use Rattle.interleaving_core.proofs.Counting.{length-classes, count_by-filter}
use Rattle.interleaving_core.proofs.Machine.{run_sound, few_attempts, run_tells}
use Rattle.interleaving_core.specs.Counts.{op_of, is_finish, is_spread, is_roll, rises, rises_at, shown_now, evaluated, spreads, rolled}

-- ---- attempts count the steps that rise

ended-attempt : (a : ℕ) (xs : List ℕ) (r : Option ℕ) → (ended a xs r).attempt ≡ a
ended-attempt a xs None = refl
ended-attempt a xs (Some v) = refl

-- one word is put: its attempt rises by k, and every other one stays
put_rises : (f : ℕ → OpWord) (i : ℕ) (w : OpWord) (b : Bool) (o : ℕ) → w.attempt ≡ (f i).attempt + cond b 1 0 → (put f i w o).attempt ≡ (f o).attempt + cond (b && (i == o)) 1 0
put_rises f i w b o at =
    elim (cases_eq o i) [
      | inl same ↦
          ap (λ n. (put f i w n).attempt) same ∙ ap (λ (x : OpWord). x.attempt) (put_here f i w) ∙ at ∙ ap (λ n. (f n).attempt + cond b 1 0) (sym same)
          ∙ ap (λ t. (f o).attempt + cond t 1 0) (sym (kept b (eqb i o) (eq-eqb i o (sym same))))
      | inr other ↦
          ap (λ (x : OpWord). x.attempt) (put_else f i w o other) ∙ omega arith
          ∙ ap (λ t. (f o).attempt + cond t 1 0) (sym (lost b (eqb i o) (ne_eqb i o (λ e. other (sym e)))))
    ]
  where
    kept : (x y : Bool) → y ≡ true → (x && y) ≡ x
    kept true y is = is
    kept false y is = refl

    lost : (x y : Bool) → y ≡ false → (x && y) ≡ false
    lost true y is = is
    lost false y is = refl

stays : (n : ℕ) (x : Bool) → n ≡ n + cond (false && x) 1 0
stays n x = omega arith

-- after each step
pub attempt-after : (p : Plan) (b : Core) (e : CoreEvent) (o : ℕ) → ((after p b e).word o).attempt ≡ (b.word o).attempt + cond (rises_at o e) 1 0
attempt-after p b (ReadyStep i) o = put_rises b.word i _ false o (omega arith)
attempt-after p b (Claim i t) o = put_rises b.word i _ false o (omega arith)
attempt-after p b (Fetch i j t x) o = omega arith
attempt-after p b (Finish i t) o = put_rises b.word i (end_of p b i t) false o (ended-attempt (b.word i).attempt (fetched (b.claim t)) (value_of (op_at p i).op (fetched (b.claim t))) ∙ omega arith)
attempt-after p b (GiveBack i t) o = put_rises b.word i _ false o (omega arith)
attempt-after p b (SpreadStep i sibling) o = put_rises b.word i _ true o refl
attempt-after p b (RollBack i j) o = put_rises b.word i _ true o refl
attempt-after p b (Decide i committed) o = omega arith
attempt-after p b (Settle i t) o = at (b.decision (event_of p i))
  where
    at : (d : Option Bool) → ((settling p b i t d).word o).attempt ≡ (b.word o).attempt + 0
    at None = omega arith
    at (Some true) = put_rises b.word i _ false o (omega arith)
    at (Some false) = put_rises b.word i _ false o (omega arith)

pub run_attempts : (p : Plan) (cap : ℕ) (es : List CoreEvent) (c : Core) → Run p cap es c → (o : ℕ) → (c.word o).attempt ≡ 1 + count_by (rises_at o) es
run_attempts p cap [] c run o = ap (λ (d : Core). (d.word o).attempt) run
run_attempts p cap (e ∷ es) c run o =
    let before = run_attempts p cap es run.0 run.1 o in
    ap (λ (d : Core). (d.word o).attempt) run.3 ∙ attempt-after p run.0 e o ∙ ap (λ n. n + cond (rises_at o e) 1 0) before ∙ omega arith
    ∙ ap (λ n. 1 + n) (sym (sum_by-cons (λ x. cond (rises_at o x) 1 0) e es))

-- ---- in a run

-- each event of a run could be made from a sound state
pub run_event : (p : Plan) (cap : ℕ) → IsPlan p → cap < most_attempts → (Q : CoreEvent → Type 0) → ((b : Core) (e : CoreEvent) → IsSound p cap b → May p cap b e → Q e) → (es : List CoreEvent) (c : Core)
    → Run p cap es c → (e : CoreEvent) → Contains es e → Q e
run_event p cap valid small Q each [] c run e inside = absurd (not-suc-le-zero inside.1)
run_event p cap valid small Q each (f ∷ es) c run e inside = at inside.0 inside.1 inside.2 (λ k lt is. run_event p cap valid small Q each es run.0 run.1 e (k, lt, is))
  where
    at : (k : ℕ) → k < length (f ∷ es) → get_or (f ∷ es) k e ≡ e → ((k : ℕ) → k < length es → get_or es k e ≡ e → Q e) → Q e
    at zero lt is later = subst Q is (each run.0 f (run_sound p cap valid small es run.0 run.1) run.2)
    at (suc k) lt is later = later k (lt-from k lt) is
      where
        lt-from : (n : ℕ) → suc n < suc (length es) → n < length es
        lt-from n less = omega arith

rises_below : (p : Plan) (cap : ℕ) (b : Core) (e : CoreEvent) → May p cap b e → rises e ≡ true → op_of e < op_count p
rises_below p cap b (SpreadStep o sibling) may is = may.in_range
rises_below p cap b (RollBack o j) may is = may.in_range
rises_below p cap b (ReadyStep o) may is = absurd (false≢true is)
rises_below p cap b (Claim o t) may is = absurd (false≢true is)
rises_below p cap b (Fetch o j t x) may is = absurd (false≢true is)
rises_below p cap b (Finish o t) may is = absurd (false≢true is)
rises_below p cap b (GiveBack o t) may is = absurd (false≢true is)
rises_below p cap b (Decide i committed) may is = absurd (false≢true is)
rises_below p cap b (Settle o t) may is = absurd (false≢true is)

-- a test that is one of two that exclude each other counts both
pub count_sum : {X : Type 0} (q r s : X → Bool) → ((x : X) → cond (q x) 1 0 ≡ cond (r x) 1 0 + cond (s x) 1 0) → (xs : List X) → count_by q xs ≡ count_by r xs + count_by s xs
count_sum q r s each [] = refl
count_sum {X} q r s each (x ∷ xs) =
    let counted : (X → Bool) → X → ℕ = λ t y. cond (t y) 1 0 in
    let rest = count_sum q r s each xs in
    let one = sum_by-cons (counted q) x xs in
    let two = sum_by-cons (counted r) x xs in
    let three = sum_by-cons (counted s) x xs in
    let here = each x in
    omega arith

pub count_either : (es : List CoreEvent) → count_by rises es ≡ spreads es + rolled es
count_either es = count_sum rises is_spread is_roll at es
  where
    at : (e : CoreEvent) → cond (rises e) 1 0 ≡ cond (is_spread e) 1 0 + cond (is_roll e) 1 0
    at (ReadyStep o) = refl
    at (Claim o t) = refl
    at (Fetch o j t x) = refl
    at (Finish o t) = refl
    at (GiveBack o t) = refl
    at (SpreadStep o sibling) = refl
    at (RollBack o j) = refl
    at (Decide i committed) = refl
    at (Settle o t) = refl

pub count_shows : (es : List CoreEvent) → count_by shows es ≡ evaluated es + spreads es
count_shows es = count_sum shows is_finish is_spread at es
  where
    at : (e : CoreEvent) → cond (shows e) 1 0 ≡ cond (is_finish e) 1 0 + cond (is_spread e) 1 0
    at (ReadyStep o) = refl
    at (Claim o t) = refl
    at (Fetch o j t x) = refl
    at (Finish o t) = refl
    at (GiveBack o t) = refl
    at (SpreadStep o sibling) = refl
    at (RollBack o j) = refl
    at (Decide i committed) = refl
    at (Settle o t) = refl

module _ (p : Plan) (cap : ℕ) (valid : IsPlan p) (small : cap < most_attempts) (es : List CoreEvent) (c : Core) (run : Run p cap es c) where
  sound : IsSound p cap c
  sound = run_sound p cap valid small es c run

  -- at most cap rises of one operation
  pub few_rises : (o : ℕ) → o < op_count p → count_by (rises_at o) es ≤ cap
  few_rises o lt = let here : IsSoundAt p cap c o (c.word o) = sound.each_op o lt in let most = here.range.most in let is = run_attempts p cap es c run o in omega arith

  in_range : (e : CoreEvent) → Contains es e → rises e ≡ true → op_of e < op_count p
  in_range = run_event p cap valid small (λ e. rises e ≡ true → op_of e < op_count p) (λ b e s may. rises_below p cap b e may) es c run

  few : (o : ℕ) → count_by (rises_at o) es ≤ cap
  few o =
      elim (cases_lt o (op_count p)) [
        | inl lt ↦ few_rises o lt
        | inr above ↦
            let none : count_by (rises_at o) es ≡ 0 =
            count_none (rises_at o) es
            (λ e inside.
            elim (cases_Bool (rises_at o e)) [
              | inr fails ↦ fails
              | inl passes ↦
                  let both = and_parts (rises e) (eqb (op_of e) o) passes in
                  let same : op_of e ≡ o = eqb-true (op_of e) o both.1 in
                  let below : op_of e < op_count p = in_range e inside both.0 in
                  absurd (omega arith)
            ]) in
            omega arith
      ]

  -- at most cap rises for each operation in all
  pub rises-few : count_by rises es ≤ op_count p * cap
  rises-few =
      let own : List CoreEvent = filter rises es in
      let counted : length own ≡ count_by rises es = length-filter rises es in
      let all : All (λ e. rises e ≡ true → op_of e < op_count p) own = All-filter rises (λ e. rises e ≡ true → op_of e < op_count p) es (λ k d lt. in_range (get_or es k d) (Contains-get_or es k d lt)) in
      let range : All (λ e. (0 ≤ op_of e) × (op_of e < 0 + op_count p)) own = λ k d lt. let there : op_of (get_or own k d) < op_count p = all k d lt (filter_passes rises es k d lt) in (omega arith, omega arith) in
      let each : (o : ℕ) → count_by (λ e. op_of e == o) own ≤ cap = λ o. subst (λ n. n ≤ cap) (sym (count_by-filter rises (λ e. op_of e == o) es)) (few o) in
      let short : length own ≤ op_count p * cap = length-classes op_of 0 cap (op_count p) own range each in
      omega arith

  -- ---- the bounds

  pub spreads-rolled : spreads es + rolled es ≤ cap * op_count p
  spreads-rolled = let split = count_either es in let most = rises-few in let swap = mul_comm (op_count p) cap in omega arith

  pub evaluated-spreads : evaluated es + spreads es ≤ (cap + 1) * op_count p
  evaluated-spreads =
      let tells : TellsSteps es c = run_tells p cap es c run in
      let few : length c.published ≤ op_count p * (cap + 1) = (few_attempts p cap valid c sound).all in
      let entries : length c.published ≡ count_by shows es = tells.entries in
      let split = count_shows es in
      let swap = mul_comm (op_count p) (cap + 1) in
      omega arith

  -- with cap 1 nothing is spread
  pub no_spread : cap ≡ 1 → spreads es ≡ 0
  no_spread one = count_none is_spread es (run_event p cap valid small (λ e. is_spread e ≡ false) (λ b e s may. at b e s may) es c run)
    where
      at : (b : Core) (e : CoreEvent) → IsSound p cap b → May p cap b e → is_spread e ≡ false
      at b (SpreadStep o sibling) s may =
          let here : IsSoundAt p cap b o (b.word o) = s.each_op o may.in_range in
          let first = here.range.word.first in
          let below = may.below_cap in
          absurd (omega arith)
      at b (ReadyStep o) s may = refl
      at b (Claim o t) s may = refl
      at b (Fetch o j t x) s may = refl
      at b (Finish o t) s may = refl
      at b (GiveBack o t) s may = refl
      at b (RollBack o j) s may = refl
      at b (Decide i committed) s may = refl
      at b (Settle o t) s may = refl

-- ---- each attempt before the present one was shown once

-- the entries of operation o
abbrev entries_of : ℕ → List Entry → ℕ
entries_of o es = count_by (λ e. e.op == o) es

-- one more than the entries of an operation is its attempt, and one more where that was shown too
abbrev Balanced : Core → ℕ → Type 0
Balanced c o = entries_of o c.published + 1 ≡ (c.word o).attempt + shown_now c o

entry_at : (es : List Entry) (e : Entry) (o : ℕ) → e.op ≡ o → entries_of o (es ++ e ∷ []) ≡ entries_of o es + 1
entry_at es e o same = count_more (λ x. x.op == o) es e ∙ ap (λ b. entries_of o es + cond b 1 0) (eq-eqb e.op o same)

entry_else : (es : List Entry) (e : Entry) (o : ℕ) → e.op ≢ o → entries_of o (es ++ e ∷ []) ≡ entries_of o es
entry_else es e o other = count_more (λ x. x.op == o) es e ∙ ap (λ b. entries_of o es + cond b 1 0) (ne_eqb e.op o other) ∙ omega arith

-- a word of the same attempt is put, and nothing is shown
balanced_same : (b : Core) (i o : ℕ) (w : OpWord) → w.attempt ≡ (b.word i).attempt → Balanced b o → entries_of o b.published + 1 ≡ (put b.word i w o).attempt + entries_at o (put b.word i w o).attempt b.published
balanced_same b i o w same is = subst (λ a. entries_of o b.published + 1 ≡ a + entries_at o a b.published) (sym attempt) is
  where
    attempt : (put b.word i w o).attempt ≡ (b.word o).attempt
    attempt = put_rises b.word i w false o (same ∙ omega arith) ∙ omega arith

-- a word is put that is shown at its attempt
balanced_shown : (b : Core) (i o : ℕ) (w : OpWord) → entries_at i w.attempt b.published ≡ 0 → entries_of i b.published + 1 ≡ w.attempt → Balanced b o
    → entries_of o (b.published ++ entry_of i w ∷ []) + 1 ≡ (put b.word i w o).attempt + entries_at o (put b.word i w o).attempt (b.published ++ entry_of i w ∷ [])
balanced_shown b i o w none before is =
    elim (cases_eq i o) [
      | inr other ↦
          let word : put b.word i w o ≡ b.word o = put_else b.word i w o (λ e. other (sym e)) in
          subst (λ (x : OpWord). entries_of o (b.published ++ entry_of i w ∷ []) + 1 ≡ x.attempt + entries_at o x.attempt (b.published ++ entry_of i w ∷ [])) (sym word)
          (let one = entry_else b.published (entry_of i w) o other in
          let two = entries-more_else o (b.word o).attempt b.published (entry_of i w) other in
          omega (arith, one, two, is))
      | inl same ↦
          subst (λ n. entries_of n (b.published ++ entry_of i w ∷ []) + 1 ≡ (put b.word i w n).attempt + entries_at n (put b.word i w n).attempt (b.published ++ entry_of i w ∷ [])) same
          (subst (λ (x : OpWord). entries_of i (b.published ++ entry_of i w ∷ []) + 1 ≡ x.attempt + entries_at i x.attempt (b.published ++ entry_of i w ∷ [])) (sym (put_here b.word i w))
          (let one = entry_at b.published (entry_of i w) i refl in
          let two = entries-more_at i w.attempt b.published (entry_of i w) refl refl in
          omega (arith, one, two, before, none)))
    ]

-- an evaluated word's attempt was shown once
shown_once : (p : Plan) (cap : ℕ) (b : Core) → IsSound p cap b → (o : ℕ) → o < op_count p → is_evaluated (b.word o).state ≡ true → shown_now b o ≡ 1
shown_once p cap b s o lt is =
    let here : IsSoundAt p cap b o (b.word o) = s.each_op o lt in
    let most = here.published.once (b.word o).attempt in
    let least : 1 ≤ shown_now b o =
    count_some (λ e. (e.op == o) && (e.attempt == (b.word o).attempt)) b.published (entry_of o (b.word o)) (here.published.shown (evaluated_shown (b.word o).state is))
    (both (eq-eqb o o refl) (eq-eqb (b.word o).attempt (b.word o).attempt refl)) in
    omega arith
  where
    both : {x y : Bool} → x ≡ true → y ≡ true → (x && y) ≡ true
    both {x} {y} one two = and_from x y one two

    evaluated_shown : (st : OpState) → is_evaluated st ≡ true → is_shown st ≡ true
    evaluated_shown Blocked e = e
    evaluated_shown Ready e = e
    evaluated_shown Claimed e = e
    evaluated_shown Executed e = e
    evaluated_shown Failed e = e
    evaluated_shown Spread e = e
    evaluated_shown Settled e = refl
    evaluated_shown SettledAborted e = e

-- nothing is shown at the attempt after the present one
none_next : (p : Plan) (cap : ℕ) (b : Core) → IsSound p cap b → (o : ℕ) → o < op_count p → entries_at o ((b.word o).attempt + 1) b.published ≡ 0
none_next p cap b s o lt =
    entries-none o ((b.word o).attempt + 1) b.published
    (λ e inside same later. let here : IsSoundAt p cap b o (b.word o) = s.each_op o lt in let below = here.published.below e inside same in let most = below.1 in absurd (omega arith))

balanced-after : (p : Plan) (cap : ℕ) (b : Core) → IsSound p cap b → (e : CoreEvent) → May p cap b e → (o : ℕ) → Balanced b o → (i : ℕ) → Balanced b (op_of e) → Balanced (after p b e) o
balanced-after p cap b s (ReadyStep i) may o is k own = balanced_same b i o _ refl is
balanced-after p cap b s (Claim i t) may o is k own = balanced_same b i o _ refl is
balanced-after p cap b s (Fetch i j t x) may o is k own = is
balanced-after p cap b s (Finish i t) may o is k own =
    let lt = may.goes_from.in_range in
    let here : IsSoundAt p cap b i (b.word i) = s.each_op i lt in
    let same : (end_of p b i t).attempt ≡ (b.word i).attempt = ended-attempt (b.word i).attempt (fetched (b.claim t)) (value_of (op_at p i).op (fetched (b.claim t))) in
    let none : shown_now b i ≡ 0 = here.published.not_yet (ap is_idle may.goes_from.state_is) in
    balanced_shown b i o (end_of p b i t) (subst (λ a. entries_at i a b.published ≡ 0) (sym same) none) (omega (arith, own, none, same)) is
balanced-after p cap b s (GiveBack i t) may o is k own = balanced_same b i o _ refl is
balanced-after p cap b s (SpreadStep i sibling) may o is k own =
    let one = shown_once p cap b s i may.in_range (ap is_evaluated may.goes_from) in
    balanced_shown b i o (spread_of p b i) (none_next p cap b s i may.in_range) (omega (arith, own, one)) is
balanced-after p cap b s (RollBack i j) may o is k own = at (cases_eq i o)
  where
    w : OpWord
    w = record { value = 0; attempt = (b.word i).attempt + 1; state = Blocked; by = 0 }

    at : (i ≡ o) ⊎ (i ≡ o → ⊥) → entries_of o b.published + 1 ≡ (put b.word i w o).attempt + entries_at o (put b.word i w o).attempt b.published
    at (inr other) = subst (λ (x : OpWord). entries_of o b.published + 1 ≡ x.attempt + entries_at o x.attempt b.published) (sym (put_else b.word i w o (λ e. other (sym e)))) is
    at (inl same) =
        subst (λ n. entries_of n b.published + 1 ≡ (put b.word i w n).attempt + entries_at n (put b.word i w n).attempt b.published) same
        (subst (λ (x : OpWord). entries_of i b.published + 1 ≡ x.attempt + entries_at i x.attempt b.published) (sym (put_here b.word i w))
        (let one = shown_once p cap b s i may.in_range may.goes_from in let none = none_next p cap b s i may.in_range in omega (arith, own, one, none)))
balanced-after p cap b s (Decide i committed) may o is k own = is
balanced-after p cap b s (Settle i t) may o is k own = at (b.decision (event_of p i))
  where
    at : (d : Option Bool) → Balanced (settling p b i t d) o
    at None = is
    at (Some true) = balanced_same b i o _ refl is
    at (Some false) = balanced_same b i o _ refl is

pub run_balanced : (p : Plan) (cap : ℕ) → IsPlan p → cap < most_attempts → (es : List CoreEvent) (c : Core) → Run p cap es c → (o : ℕ) → Balanced c o
run_balanced p cap valid small [] c run o = subst (λ (d : Core). Balanced d o) (sym run) refl
run_balanced p cap valid small (e ∷ es) c run o =
    subst (λ (d : Core). Balanced d o) (sym run.3)
    (balanced-after p cap run.0 (run_sound p cap valid small es run.0 run.1) e run.2 o (run_balanced p cap valid small es run.0 run.1 o) 0 (run_balanced p cap valid small es run.0 run.1 (op_of e)))

-- ---- sums over the operations

pub sum_below : (f : ℕ → ℕ) (n : ℕ) → sum_by f (below (suc n)) ≡ sum_by f (below n) + f n
sum_below f n = ap (λ m. sum_by f (below m)) (sym (add-one n)) ∙ ap (sum_by f) (below_more n) ∙ sum_by_push f (below n) n

pub sum_equal : (f g : ℕ → ℕ) (n : ℕ) → ((k : ℕ) → k < n → f k ≡ g k) → sum_by f (below n) ≡ sum_by g (below n)
sum_equal f g zero same = refl
sum_equal f g (suc n) same = let rest = sum_equal f g n (λ k lt. same k (omega arith)) in let here = same n (omega arith) in let one = sum_below f n in let two = sum_below g n in omega arith

sum_plus : (f g : ℕ → ℕ) (n : ℕ) → sum_by (λ k. f k + g k) (below n) ≡ sum_by f (below n) + sum_by g (below n)
sum_plus f g zero = refl
sum_plus f g (suc n) = let rest = sum_plus f g n in let one = sum_below (λ k. f k + g k) n in let two = sum_below f n in let three = sum_below g n in omega arith

sum_ones : (n : ℕ) → sum_by (λ k. 1) (below n) ≡ n
sum_ones zero = refl
sum_ones (suc n) = let rest = sum_ones n in let one = sum_below (λ k. 1) n in omega arith

sum_none : (n : ℕ) → sum_by (λ k. 0) (below n) ≡ 0
sum_none zero = refl
sum_none (suc n) = let rest = sum_none n in let one = sum_below (λ k. 0) n in omega arith

one_count : (b : Bool) → b ≡ true → cond b 1 0 ≡ suc 0
one_count b is = ap (λ t. cond t 1 0) is

no_count : (b : Bool) → b ≡ false → cond b 1 0 ≡ zero
no_count b is = ap (λ t. cond t 1 0) is

-- one number below n counts once
sum_one : (x n : ℕ) → x < n → sum_by (λ k. cond (x == k) 1 0) (below n) ≡ 1
sum_one x zero lt = absurd (not-suc-le-zero lt)
sum_one x (suc n) lt =
    elim (cases_eq x n) [
      | inl same ↦
          let last = one_count (eqb x n) (eq-eqb x n same) in
          let before : sum_by (λ k. cond (x == k) 1 0) (below n) ≡ 0 = sum_equal (λ k. cond (x == k) 1 0) (λ k. 0) n (λ k less. no_count (eqb x k) (ne_eqb x k (λ e. absurd (omega arith)))) ∙ sum_none n in
          let whole = sum_below (λ k. cond (x == k) 1 0) n in
          omega (arith, whole, last, before)
      | inr other ↦
          let last = no_count (eqb x n) (ne_eqb x n other) in
          let before : sum_by (λ k. cond (x == k) 1 0) (below n) ≡ 1 = sum_one x n (omega arith) in
          let whole = sum_below (λ k. cond (x == k) 1 0) n in
          omega (arith, whole, last, before)
    ]

-- what passes q, counted class by class
pub count_classes : {X : Type 0} (q : X → Bool) (f : X → ℕ) (n : ℕ) (xs : List X) → ((x : X) → Contains xs x → q x ≡ true → f x < n)
    → sum_by (λ k. count_by (λ x. q x && (f x == k)) xs) (below n) ≡ count_by q xs
count_classes q f n [] range = sum_none n
count_classes {X} q f n (x ∷ xs) range =
    let counted : (X → Bool) → X → ℕ = λ t y. cond (t y) 1 0 in
    let rest : sum_by (λ k. count_by (λ y. q y && (f y == k)) xs) (below n) ≡ count_by q xs =
    count_classes q f n xs (λ y inside. range y (suc inside.0, suc-le-suc inside.1, inside.2)) in
    let split : sum_by (λ k. count_by (λ y. q y && (f y == k)) (x ∷ xs)) (below n) ≡ sum_by (λ k. cond (q x && (f x == k)) 1 0) (below n) + sum_by (λ k. count_by (λ y. q y && (f y == k)) xs) (below n) =
    sum_equal (λ k. count_by (λ y. q y && (f y == k)) (x ∷ xs)) (λ k. cond (q x && (f x == k)) 1 0 + count_by (λ y. q y && (f y == k)) xs) n (λ k lt. sum_by-cons (λ y. cond (q y && (f y == k)) 1 0) x xs)
    ∙ sum_plus (λ k. cond (q x && (f x == k)) 1 0) (λ k. count_by (λ y. q y && (f y == k)) xs) n in
    let here : sum_by (λ k. cond (q x && (f x == k)) 1 0) (below n) ≡ cond (q x) 1 0 = at (q x) (λ is. range x (0, zero-lt-suc (length xs), refl) is) in
    let whole = sum_by-cons (counted q) x xs in
    omega (arith, rest, split, here, whole)
  where
    at : (b : Bool) → (b ≡ true → f x < n) → sum_by (λ k. cond (b && (f x == k)) 1 0) (below n) ≡ cond b 1 0
    at true lt = sum_one (f x) n (lt refl)
    at false lt = sum_none n

module _ (p : Plan) (cap : ℕ) (valid : IsPlan p) (small : cap < most_attempts) (es : List CoreEvent) (c : Core) (run : Run p cap es c) where
  -- all entries, operation by operation
  entries_sum : sum_by (λ o. entries_of o c.published) (below (op_count p)) ≡ length c.published
  entries_sum =
      count_classes (λ e. true) (λ e. e.op) (op_count p) c.published (λ e inside is. let s : IsSound p cap c = run_sound p cap valid small es c run in (s.entries e inside).0) ∙ all c.published
    where
      all : (xs : List Entry) → count_by (λ e. true) xs ≡ length xs
      all [] = refl
      all (x ∷ xs) = sum_by-cons (λ e. 1) x xs ∙ ap (λ n. 1 + n) (all xs) ∙ omega arith

  pub rises_sum : sum_by (λ o. count_by (rises_at o) es) (below (op_count p)) ≡ count_by rises es
  rises_sum = count_classes rises op_of (op_count p) es (run_event p cap valid small (λ e. rises e ≡ true → op_of e < op_count p) (λ b e s may. rises_below p cap b e may) es c run)

  -- evaluations are the rollbacks, and one for each operation whose present attempt was shown
  pub evaluated-rolled : evaluated es ≡ rolled es + sum_by (shown_now c) (below (op_count p))
  evaluated-rolled =
      let n = op_count p in
      let each : (o : ℕ) → o < n → entries_of o c.published + 1 ≡ (count_by (rises_at o) es + shown_now c o) + 1 =
      λ o lt. let is = run_balanced p cap valid small es c run o in let attempts = run_attempts p cap es c run o in omega (arith, is, attempts) in
      let sums : sum_by (λ o. entries_of o c.published) (below n) ≡ sum_by (λ o. count_by (rises_at o) es + shown_now c o) (below n) =
      sum_equal (λ o. entries_of o c.published) (λ o. count_by (rises_at o) es + shown_now c o) n (λ o lt. let e = each o lt in omega (arith, e)) in
      let split = sum_plus (λ o. count_by (rises_at o) es) (shown_now c) n in
      let tells : TellsSteps es c = run_tells p cap es c run in
      let entries : length c.published ≡ count_by shows es = tells.entries in
      let shown = count_shows es in
      let either = count_either es in
      omega (arith, sums, split, entries_sum, rises_sum, entries, shown, either)

  -- where each operation's present attempt was shown
  pub evaluated-all : ((o : ℕ) → o < op_count p → shown_now c o ≡ 1) → evaluated es ≡ op_count p + rolled es
  evaluated-all all =
      let ones : sum_by (shown_now c) (below (op_count p)) ≡ op_count p = sum_equal (shown_now c) (λ k. 1) (op_count p) all ∙ sum_ones (op_count p) in
      let whole = evaluated-rolled in
      omega (arith, ones, whole)
