-- Between passes the first runner empties or loads the level word: what a pass makes of runners does not depend on it.
use Rattle.std.proofs.lemmas.Bool.{cases_lt}
use Rattle.std.proofs.Common.{◌≡◌, ℕ, zero, suc, ◌+◌, ◌<◌, ◌≤◌, drop, true, false, Bool, Option, Some, None, List, [], ◌∷◌, ◌++◌, reverse, length, refl, sym, ap, ◌∙◌, subst, inl, inr, arith, zero-lt-suc}
use Rattle.std.specs.Prelude.{Contains, slice_index_or}
use Rattle.std.proofs.lemmas.List.{length-reverse}
use Rattle.op_words.specs.declared.trail.View.{View}
use Rattle.op_words.specs.Counting.{taking, IsNumberTaken, place, times}
use Rattle.op_eval.specs.declared.answers.Evaluation.{Evaluation}
use Rattle.op_eval.specs.declared.runner.Runner.{Runner}
use Rattle.op_eval.specs.Bursts.{BurstView, TakesNumbers, TakesBurst}
use Rattle.op_eval.specs.Evaluations.{EvaluationDoes, Tries}
use Rattle.op_eval.specs.Exploring.{Unused, RunRules}
use Rattle.op_eval.specs.Running.{hand_view, counted}
use Rattle.abort_eager.specs.Sweeps.{cascade_for, IsLike, SweepsFor, Attempts}
use Rattle.abort_eager.specs.Targets.{targets}
use Rattle.abort_eager.specs.Touching.{Touching}
use Rattle.op_eval.specs.Turns.{IsEnough, TakesNumber, TakingCall, Took, Tried}
use Rattle.strata_explorer.specs.Calls.{MakesPassCall, MakesPassCalls}
use Rattle.worker_gate.specs.Sharing.{shared_from}
use Rattle.strata_explorer.specs.Passes.{AreLike, Worked, IsPassed}
use Rattle.strata_explorer.specs.Walks.{WalksNumbers, WalksBursts, WalksAll}
use Rattle.abort_eager.specs.Walks.{has_evaluated, VisitsInTurn, WalksUnit}
use Rattle.strata_explorer.proofs.Turning.{times_some}
use Rattle.abort_eager.proofs.UnitWalks.{drop_at}
use Rattle.strata_explorer.proofs.Running.{calls_places}

module _ (rules : RunRules) where
  -- ---- one call

  tries_from : (o : ℕ) (a from b : Runner) (r : Evaluation) → IsLike a from → Tries rules.plan rules.cap o from b r → Tries rules.plan rules.cap o a b r
  tries_from o a from b r like tries = record {
    in_range = tries.in_range;
    does = subst (λ v. EvaluationDoes rules.plan rules.cap o v (hand_view b) r) like.view tries.does;
    counts = tries.counts ∙ ap (counted r) like.answers;
    kept = tries.kept ∙ like.kept;
  }

  tries_to : (o : ℕ) (a b to : Runner) (r : Evaluation) → Tries rules.plan rules.cap o a b r → IsLike b to → Tries rules.plan rules.cap o a to r
  tries_to o a b to r tries like = record {
    in_range = tries.in_range;
    does = subst (λ v. EvaluationDoes rules.plan rules.cap o (hand_view a) v r) (sym like.view) tries.does;
    counts = like.answers ∙ tries.counts;
    kept = like.kept ∙ tries.kept;
  }

  sweeps_to : (o : ℕ) (a b to : Runner) (r : Evaluation) (f : Option Bool) → (m : Runner) × Tries rules.plan rules.cap o a m r × SweepsFor rules.plan rules.cap o f m b → IsLike b to → (m : Runner) × Tries rules.plan rules.cap o a m r × SweepsFor rules.plan rules.cap o f m to
  sweeps_to o a b to r None made like = (to, tries_to o a made.0 to r made.1 (subst (λ m. IsLike m to) made.2 like), refl)
  sweeps_to o a b to r (Some failed) made like = (
    made.0,
    made.1,
    record {
      touching = subst (Touching rules.plan rules.cap (targets rules.plan o failed) (hand_view made.0)) (sym like.view) made.2.touching;
      answers = like.answers ∙ made.2.answers;
      kept = like.kept ∙ made.2.kept;
    },
  )

  calling_from : (c : TakingCall) (a from b : Runner) → IsLike a from → MakesPassCall rules c from b → MakesPassCall rules c a b
  calling_from (Took c n) a from b like took = record {
    view = took.view ∙ ap (taking c n) like.view;
    takes = subst (IsNumberTaken c n) like.view took.takes;
    answers = took.answers ∙ like.answers;
    kept = took.kept ∙ like.kept;
  }
  calling_from (Tried o) a from b like tried = (tried.0, (tried.1.0, tries_from o a from tried.1.0 tried.0 like tried.1.1, tried.1.2))

  calling_to : (c : TakingCall) (a b to : Runner) → MakesPassCall rules c a b → IsLike b to → MakesPassCall rules c a to
  calling_to (Took c n) a b to took like = record {
    view = like.view ∙ took.view;
    takes = took.takes;
    answers = like.answers ∙ took.answers;
    kept = like.kept ∙ took.kept;
  }
  calling_to (Tried o) a b to tried like = (tried.0, sweeps_to o a b to tried.0 (cascade_for rules.abort tried.0) tried.1 like)

  -- ---- calls in turn: with none of them it would be the same runner

  calls_from : (cs : List TakingCall) (a from b : Runner) → 0 < length cs → IsLike a from → MakesPassCalls rules cs from b → MakesPassCalls rules cs a b
  calls_from [] a from b some like calls = absurd (omega arith)
  calls_from (c ∷ []) a from b some like calls = (a, refl, calling_from c a from b like (subst (λ m. MakesPassCall rules c m b) calls.1 calls.2))
  calls_from (c ∷ d ∷ ds) a from b some like calls = (calls.0, calls_from (d ∷ ds) a from calls.0 (omega arith) like calls.1, calls.2)

  calls_to : (cs : List TakingCall) (a b to : Runner) → 0 < length cs → MakesPassCalls rules cs a b → IsLike b to → MakesPassCalls rules cs a to
  calls_to [] a b to some calls like = absurd (omega arith)
  calls_to (c ∷ cs) a b to some calls like = (calls.0, calls.1, calling_to c calls.0 b to calls.2 like)

  -- ---- a pass

  -- a runner that saw the end of a counter that it had not used has taken a number
  some_calls : (c : ℕ) (ops : List ℕ) (a b : Runner) → 0 < length ops → Unused c a → IsEnough c (length ops) b → (worked : Worked rules c ops a b) → 0 < length worked.calls
  some_calls c ops a b some unused enough worked =
      elim enough [
        | inl none ↦ absurd (omega arith)
        | inr last ↦
            elim (calls_places rules worked.calls a b worked.made c last.0 last.1) [
              | inl before ↦ (let one = times_some c last.0 (hand_view a).places before in absurd (omega arith))
              | inr took ↦ let lt : took.0 < length worked.calls = took.1 in omega arith
            ]
      ]

  worked_between : (c : ℕ) (ops : List ℕ) (a from b to : Runner) → IsLike a from → IsLike b to → (worked : Worked rules c ops from b) → 0 < length worked.calls → Worked rules c ops a to
  worked_between c ops a from b to first last worked some = record {
    calls = worked.calls;
    made = calls_to worked.calls a b to some (calls_from worked.calls a from b some first worked.made) last;
    only = worked.only;
    tried = worked.tried;
    counted = worked.counted;
  }

  enough_like : (c : ℕ) (ops : List ℕ) (a b : Runner) → IsLike a b → IsEnough c (length ops) a → IsEnough c (length ops) b
  enough_like c ops a b like (inl none) = inl none
  enough_like c ops a b like (inr last) = inr (last.0, subst (λ (v : View). Contains v.places (place c last.0)) (sym like.view) last.1, last.2)

  -- ---- walks

  -- behind an attempt, operations of a list
  ends_to : (os : List ℕ) (o : ℕ) (r : Evaluation) (a m b to : Runner) → Attempts rules o a m r → (t : Bool) → VisitsInTurn (Attempts rules) t os m b → IsLike b to → (n : Runner) × Attempts rules o a n r × VisitsInTurn (Attempts rules) t os n to
  ends_to [] o r a m b to tries t rest like = (to, sweeps_to o a m to r (cascade_for rules.abort r) tries (subst (λ x. IsLike x to) rest like), none t)
    where
      none : (t : Bool) → VisitsInTurn (Attempts rules) t [] to to
      none true = refl
      none false = refl
  ends_to (q ∷ qs) o r a m b to tries false rest like = (to, sweeps_to o a m to r (cascade_for rules.abort r) tries (subst (λ x. IsLike x to) rest like), refl)
  ends_to (q ∷ qs) o r a m b to tries true rest like =
      let next = ends_to qs q rest.1 m rest.0 b to rest.2 (has_evaluated rest.1) rest.3 like in
      (m, tries, (next.0, rest.1, next.1, next.2))

  unit_to : (o : ℕ) (a b to : Runner) → WalksUnit (Attempts rules) rules.units o a b → IsLike b to → WalksUnit (Attempts rules) rules.units o a to
  unit_to o a b to walks like = record {
    unit = walks.unit;
    at = walks.at;
    stands = walks.stands;
    visited = subst (λ os. VisitsInTurn (Attempts rules) true os a to) (sym whole) (next.0, made.1, next.1, next.2);
  }
    where
      ops : List ℕ
      ops = slice_index_or rules.units walks.unit []

      whole : drop walks.at ops ≡ o ∷ drop (walks.at + 1) ops
      whole = drop_at ops walks.at o walks.stands

      made : VisitsInTurn (Attempts rules) true (o ∷ drop (walks.at + 1) ops) a b
      made = subst (λ os. VisitsInTurn (Attempts rules) true os a b) whole walks.visited

      next : (n : Runner) × Attempts rules o a n made.1 × VisitsInTurn (Attempts rules) (has_evaluated made.1) (drop (walks.at + 1) ops) n to
      next = ends_to (drop (walks.at + 1) ops) o made.1 a made.0 b to made.2 (has_evaluated made.1) made.3 like

  -- before an attempt, operations of a list
  pub unit_from : (o : ℕ) (a from b : Runner) → IsLike a from → WalksUnit (Attempts rules) rules.units o from b → WalksUnit (Attempts rules) rules.units o a b
  unit_from o a from b like walks = record {
    unit = walks.unit;
    at = walks.at;
    stands = walks.stands;
    visited = subst (λ os. VisitsInTurn (Attempts rules) true os a b) (sym whole) (made.0, made.1, (made.2.0, tries_from o a from made.2.0 made.1 like made.2.1, made.2.2), made.3);
  }
    where
      ops : List ℕ
      ops = slice_index_or rules.units walks.unit []

      whole : drop walks.at ops ≡ o ∷ drop (walks.at + 1) ops
      whole = drop_at ops walks.at o walks.stands

      made : VisitsInTurn (Attempts rules) true (o ∷ drop (walks.at + 1) ops) from b
      made = subst (λ os. VisitsInTurn (Attempts rules) true os from b) whole walks.visited

  module _ (c : ℕ) (ops : List ℕ) where
    numbers_to : (ns : List ℕ) (a b to : Runner) → 0 < length ns → WalksNumbers rules ops ns a b → IsLike b to → WalksNumbers rules ops ns a to
    numbers_to [] a b to some walks like = absurd (omega arith)
    numbers_to (n ∷ []) a b to some walks like = (to, unit_to (slice_index_or ops n 0) a walks.0 to walks.1 (subst (λ r. IsLike r to) walks.2 like), refl)
    numbers_to (n ∷ m ∷ ns) a b to some walks like = (walks.0, walks.1, numbers_to (m ∷ ns) walks.0 b to (omega arith) walks.2 like)

    takes_from : (ns : List ℕ) (a from b : Runner) → 0 < length ns → IsLike a from → TakesNumbers c ns from b → TakesNumbers c ns a b
    takes_from [] a from b some like takes = absurd (omega arith)
    takes_from (n ∷ []) a from b some like takes = (a, refl, calling_from (Took c n) a from b like (subst (λ m. TakesNumber c n m b) takes.1 takes.2))
    takes_from (n ∷ m ∷ ns) a from b some like takes = (takes.0, takes_from (m ∷ ns) a from takes.0 (omega arith) like takes.1, takes.2)

    takes_to : (ns : List ℕ) (a b to : Runner) → 0 < length ns → TakesNumbers c ns a b → IsLike b to → TakesNumbers c ns a to
    takes_to [] a b to some takes like = absurd (omega arith)
    takes_to (n ∷ ns) a b to some takes like = (takes.0, takes.1, calling_to (Took c n) takes.0 b to takes.2 like)

    -- a burst takes some number
    some_taken : (most : ℕ) (v : BurstView) (a b : Runner) → 1 ≤ most → (takes : TakesBurst c (length ops) most v a b) → 0 < length (takes.past ++ reverse v.numbers)
    some_taken most v a b some takes = by v.over refl
      where
        by : (over : Bool) → v.over ≡ over → 0 < length (takes.past ++ reverse v.numbers)
        by true is =
            let end = takes.ended is in
            subst (λ past. 0 < length (past ++ reverse v.numbers)) (sym end.1) (zero-lt-suc (length (reverse v.numbers)))
        by false is =
            let going = takes.going is in
            let many : length v.numbers ≡ most = going.1 in
            let same : length (reverse v.numbers) ≡ length v.numbers = length-reverse v.numbers in
            subst (λ past. 0 < length (past ++ reverse v.numbers)) (sym going.0) (omega arith)

    burst_from : (most : ℕ) (v : BurstView) (a from b : Runner) → 1 ≤ most → IsLike a from → TakesBurst c (length ops) most v from b → TakesBurst c (length ops) most v a b
    burst_from most v a from b some like takes = record {
      past = takes.past;
      takes = takes_from (takes.past ++ reverse v.numbers) a from b (some_taken most v from b some takes) like takes.takes;
      inside = takes.inside;
      few = takes.few;
      ended = takes.ended;
      going = takes.going;
    }

    burst_to : (most : ℕ) (v : BurstView) (a b to : Runner) → 1 ≤ most → TakesBurst c (length ops) most v a b → IsLike b to → TakesBurst c (length ops) most v a to
    burst_to most v a b to some takes like = record {
      past = takes.past;
      takes = takes_to (takes.past ++ reverse v.numbers) a b to (some_taken most v a b some takes) takes.takes like;
      inside = takes.inside;
      few = takes.few;
      ended = takes.ended;
      going = takes.going;
    }

    bursts_from : (vs : List BurstView) (a from b : Runner) → 0 < length vs → IsLike a from → WalksBursts rules ops c vs from b → WalksBursts rules ops c vs a b
    bursts_from [] a from b some like walks = absurd (omega arith)
    bursts_from (v ∷ []) a from b some like walks =
        (a, walks.1, walks.2, refl, walks.4, walks.5, burst_from walks.2 v a from walks.1 walks.4 like (subst (λ m. TakesBurst c (length ops) walks.2 v m walks.1) walks.3 walks.6), walks.7)
    bursts_from (v ∷ w ∷ vs) a from b some like walks = (walks.0, walks.1, walks.2, bursts_from (w ∷ vs) a from walks.0 (omega arith) like walks.3, walks.4, walks.5, walks.6, walks.7)

    bursts_to : (vs : List BurstView) (a b to : Runner) → 0 < length vs → WalksBursts rules ops c vs a b → IsLike b to → WalksBursts rules ops c vs a to
    bursts_to [] a b to some walks like = absurd (omega arith)
    bursts_to (v ∷ vs) a b to some walks like =
        elim (cases_lt 0 (length v.numbers)) [
          | inl lt ↦ (walks.0, walks.1, walks.2, walks.3, walks.4, walks.5, walks.6, numbers_to v.numbers walks.1 b to lt walks.7 like)
          | inr none ↦ (walks.0, to, walks.2, walks.3, walks.4, walks.5, burst_to walks.2 v walks.0 walks.1 to walks.4 walks.6 (subst (λ r. IsLike r to) (no_walk v.numbers walks.1 b none walks.7) like), none_walked v.numbers to none)
        ]
      where
        no_walk : (ns : List ℕ) (x y : Runner) → length ns ≤ 0 → WalksNumbers rules ops ns x y → y ≡ x
        no_walk [] x y none same = same
        no_walk (n ∷ ns) x y none all = absurd (omega arith)

        none_walked : (ns : List ℕ) (x : Runner) → length ns ≤ 0 → WalksNumbers rules ops ns x x
        none_walked [] x none = refl
        none_walked (n ∷ ns) x none = absurd (omega arith)

    -- a runner that saw the end of a counter that it had not used has taken a burst
    some_bursts : (vs : List BurstView) (a b : Runner) → 0 < length ops → Unused c a → IsEnough c (length ops) b → WalksBursts rules ops c vs a b → 0 < length vs
    some_bursts (v ∷ vs) a b some unused enough walks = omega arith
    some_bursts [] a b some unused enough walks =
        elim enough [
          | inl none ↦ absurd (omega arith)
          | inr last ↦ (
              let one = times_some c last.0 (hand_view b).places last.1 in
              let same : times c (hand_view b).places ≡ times c (hand_view a).places = ap (λ r. times c (hand_view r).places) walks in
              absurd (omega (arith, unused)))
        ]

    all_between : (a from b to : Runner) → IsLike a from → IsLike b to → (all : WalksAll rules c ops from b) → 0 < length all.bursts → WalksAll rules c ops a to
    all_between a from b to first last all some = record { bursts = all.bursts; walks = bursts_to all.bursts a b to some (bursts_from all.bursts a from b some first all.walks) last }

  -- ---- what a worker did, before which it was one that is like it

  unused_like : (c : ℕ) (a b : Runner) → Unused c a → IsLike a b → Unused c b
  unused_like c a b none like = subst (λ (v : View). times c v.places ≡ 0) (sym like.view) none

  like_itself : (a : Runner) → IsLike a a
  like_itself a = record { view = refl; answers = refl; kept = refl }

  pub worked_from : (c : ℕ) (ops : List ℕ) (a from b : Runner) → 0 < length ops → Unused c a → IsLike a from → IsEnough c (length ops) b → Worked rules c ops from b → Worked rules c ops a b
  worked_from c ops a from b some unused like enough worked =
      worked_between c ops a from b b like (like_itself b) worked (some_calls c ops from b some (unused_like c a from unused like) enough worked)

  pub walks_from : (c : ℕ) (ops : List ℕ) (a from b : Runner) → 0 < length ops → Unused c a → IsLike a from → IsEnough c (length ops) b → WalksAll rules c ops from b → WalksAll rules c ops a b
  walks_from c ops a from b some unused like enough all =
      all_between c ops a from b b like (like_itself b) all (some_bursts c ops all.bursts from b some (unused_like c a from unused like) enough all.walks)

  pub passed_between : (c : ℕ) (ops : List ℕ) (before rs qs after : List Runner) → AreLike before rs → AreLike qs after → 0 < length ops → 0 < length before → ((d : Runner) → Unused c (slice_index_or before 0 d))
      → IsPassed rules c ops rs qs → ((d : Runner) → IsEnough c (length ops) (slice_index_or qs 0 d)) → IsPassed rules c ops before after
  passed_between c ops before rs qs after first last full some unused passed saw = record {
    len = last.len ∙ passed.len ∙ first.len;
    each = each;
    walks = walks;
    enough = (0, some, λ d. enough_like c ops (slice_index_or qs 0 d) (slice_index_or after 0 d) (last.first d) (saw d));
    first = λ few k d above lt. last.others k d above ∙ passed.first few k d above (less lt) ∙ first.others k d above;
    shared = shared;
  }
    where
      less : {k : ℕ} → k < length before → k < length rs
      less {k} lt = subst (λ n. k < n) (sym first.len) lt

      unused_now : (d : Runner) → Unused c (slice_index_or rs 0 d)
      unused_now d = unused_like c (slice_index_or before 0 d) (slice_index_or rs 0 d) (unused d) (first.first d)

      shared : shared_from ≤ length ops → (k : ℕ) (d : Runner) → k < length before → IsEnough c (length ops) (slice_index_or after k d)
      shared many zero d lt = enough_like c ops (slice_index_or qs 0 d) (slice_index_or after 0 d) (last.first d) (saw d)
      shared many (suc k) d lt = subst (λ b. IsEnough c (length ops) b) (sym (last.others (suc k) d (omega arith))) (passed.shared many (suc k) d (less lt))

      each : (k : ℕ) (d : Runner) → k < length before → Worked rules c ops (slice_index_or before k d) (slice_index_or after k d)
      each zero d lt =
          let worked = passed.each 0 d (less lt) in
          worked_between c ops (slice_index_or before 0 d) (slice_index_or rs 0 d) (slice_index_or qs 0 d) (slice_index_or after 0 d) (first.first d) (last.first d) worked
          (some_calls c ops (slice_index_or rs 0 d) (slice_index_or qs 0 d) full (unused_now d) (saw d) worked)
      each (suc k) d lt =
          subst (λ b. Worked rules c ops (slice_index_or before (suc k) d) b) (sym (last.others (suc k) d (omega arith)))
          (subst (λ a. Worked rules c ops a (slice_index_or qs (suc k) d)) (first.others (suc k) d (omega arith)) (passed.each (suc k) d (less lt)))

      walks : (k : ℕ) (d : Runner) → k < length before → WalksAll rules c ops (slice_index_or before k d) (slice_index_or after k d)
      walks zero d lt =
          let all = passed.walks 0 d (less lt) in
          all_between c ops (slice_index_or before 0 d) (slice_index_or rs 0 d) (slice_index_or qs 0 d) (slice_index_or after 0 d) (first.first d) (last.first d) all
          (some_bursts c ops all.bursts (slice_index_or rs 0 d) (slice_index_or qs 0 d) full (unused_now d) (saw d) all.walks)
      walks (suc k) d lt =
          subst (λ b. WalksAll rules c ops (slice_index_or before (suc k) d) b) (sym (last.others (suc k) d (omega arith)))
          (subst (λ a. WalksAll rules c ops a (slice_index_or qs (suc k) d)) (first.others (suc k) d (omega arith)) (passed.walks (suc k) d (less lt)))
