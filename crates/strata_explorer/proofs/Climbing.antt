-- Passes one after another, and the union over runners.
use Rattle.std.proofs.Common.{◌≡◌, ◌≢◌, ◌⊎◌, ℕ, zero, suc, ◌+◌, ◌<◌, ◌≤◌, ◌^◌, cond, List, [], ◌∷◌, length, set, refl, sym, ap, ◌∙◌, subst, inl, inr, arith}
use Rattle.std.specs.Prelude.{Contains, All, count_by, slice_index_or, nat_lt}
use Rattle.std.proofs.lemmas.Bool.{cases_eq, cases_lt, eq-eqb, ne_eqb}
use Rattle.std.proofs.lemmas.List.Sums.{sum_by-append}
use Rattle.morph_base.specs.declared.plan.Plan.{Plan}
use Rattle.morph_base.specs.Contents.{Contents}
use Rattle.std.proofs.lemmas.List.{get_or-map}
use Rattle.op_words.specs.declared.trail.Place.{Place}
use Rattle.op_words.specs.declared.trail.View.{View}
use Rattle.op_words.specs.Trails.{IsReached}
use Rattle.op_eval.specs.declared.runner.Runner.{Runner}
use Rattle.op_words.specs.Counting.{place}
use Rattle.op_eval.specs.Exploring.{total, RunRules}
use Rattle.op_eval.specs.Running.{hand_view}
use Rattle.op_eval.proofs.Totals.{tries_total, full_stays}
use Rattle.op_eval.proofs.Elements.{contains_first, contains_later}
use Rattle.op_eval.proofs.Turns.{only_later}
use Rattle.op_eval.specs.Turns.{TakingCall, Took, Tried, IsEnough}
use Rattle.strata_explorer.specs.Calls.{MakesPassCalls}
use Rattle.strata_explorer.specs.Passes.{is_tried, names, Worked, IsPassed}
use Rattle.strata_explorer.specs.Levels.{ops_of, level_of, named, passed_ops, AreStrata, HasReached, HaveReached, IsStrata, IsWholeCounter}
use Rattle.abort_eager.proofs.Sweeping.{attempted}
use Rattle.strata_explorer.proofs.Turning.{count_first, times_some}
use Rattle.strata_explorer.proofs.Further.{calls_keep, calls_reach}
use Rattle.strata_explorer.proofs.Running.{calls_places, calls_hold, calls_times, calls_running}

pub calls_total : (rules : RunRules) (cs : List TakingCall) (a b : Runner) → MakesPassCalls rules cs a b → (total a.answers + count_by is_tried cs ≤ total b.answers) ⊎ (2 ^ 64 ≤ total b.answers + 1)
calls_total rules [] a b calls = inl (let e : total b.answers ≡ total a.answers = ap (λ r. total r.answers) calls in omega arith)
calls_total rules (Took c n ∷ cs) a b calls =
    let e : total b.answers ≡ total calls.0.answers = ap total calls.2.answers in
    let f : count_by is_tried (Took c n ∷ cs) ≡ 0 + count_by is_tried cs = count_first is_tried (Took c n) cs in
    elim (calls_total rules cs a calls.0 calls.1) [ inl few ↦ inl (omega arith) | inr full ↦ inr (omega arith) ]
calls_total rules (Tried o ∷ cs) a b calls =
    let f : count_by is_tried (Tried o ∷ cs) ≡ 1 + count_by is_tried cs = count_first is_tried (Tried o) cs in
    let does = attempted rules o calls.0 b calls.2 in
    let same : total b.answers ≡ total does.middle.answers = ap total does.over.answers in
    let step = tries_total rules.plan rules.cap o calls.0 does.middle does.answer does.tries in
    elim (calls_total rules cs a calls.0 calls.1) [
      | inl few ↦ elim step [ inl one ↦ inl (omega arith) | inr full ↦ inr (omega arith) ]
      | inr full ↦ inr (let stays = full_stays (total calls.0.answers) (total does.middle.answers) step full in omega arith)
    ]

-- and full stays full
pub calls_full : (rules : RunRules) (cs : List TakingCall) (a b : Runner) → MakesPassCalls rules cs a b → 2 ^ 64 ≤ total a.answers + 1 → 2 ^ 64 ≤ total b.answers + 1
calls_full rules cs a b calls full = elim (calls_total rules cs a b calls) [ inl few ↦ omega arith | inr there ↦ there ]

-- ---- places of one counter alone

module _ (rules : RunRules) (list : ℕ → List ℕ) (l : ℕ) where
  calls_named : (cs : List TakingCall) (a b : Runner) → ((k n : ℕ) → Contains cs (Took k n) → k ≡ l) → MakesPassCalls rules cs a b
      → named list (hand_view b).places ≡ named list (hand_view a).places + count_by (names (length (list l))) cs
  calls_named [] a b only calls = ap (λ r. named list (hand_view r).places) calls ∙ sum_none (named list (hand_view a).places)
    where
      sum_none : (m : ℕ) → m ≡ m + 0
      sum_none m = omega arith
  calls_named (Took k n ∷ cs) a b only calls =
      let many : ℕ = length (list l) in
      let same : k ≡ l = only k n (contains_first (Took k n) cs) in
      let before : named list (hand_view calls.0).places ≡ named list (hand_view a).places + count_by (names many) cs = calls_named cs a calls.0 (only_later l (Took k n) cs only) calls.1 in
      let now : named list (hand_view b).places ≡ named list (hand_view calls.0).places + (0 + cond (nat_lt n many) 1 0) =
      ap (λ (v : View). named list v.places) calls.2.view
      ∙ sum_by-append (λ (x : Place). cond (nat_lt x.number (length (list x.counter))) 1 0) (hand_view calls.0).places (place k n ∷ [])
      ∙ ap (λ j. named list (hand_view calls.0).places + (0 + cond (nat_lt n (length (list j))) 1 0)) same in
      let more : count_by (names many) (Took k n ∷ cs) ≡ (0 + cond (nat_lt n many) 1 0) + count_by (names many) cs = count_first (names many) (Took k n) cs in
      omega arith
  calls_named (Tried q ∷ cs) a b only calls =
      let many : ℕ = length (list l) in
      let does = attempted rules q calls.0 b calls.2 in
      let before : named list (hand_view calls.0).places ≡ named list (hand_view a).places + count_by (names many) cs = calls_named cs a calls.0 (only_later l (Tried q) cs only) calls.1 in
      let now : named list (hand_view b).places ≡ named list (hand_view calls.0).places = ap (named list) does.goes.adds.places in
      let more : count_by (names many) (Tried q ∷ cs) ≡ 0 + count_by (names many) cs = count_first (names many) (Tried q) cs in
      omega arith

-- ---- a runner that took numbers from one counter more

module _ (rules : RunRules) (list : ℕ → List ℕ) where
  pub reached_more : (before after c : ℕ) (ops : List ℕ) (a b : Runner) → before ≤ after → c < after → list c ≡ ops → HasReached rules.plan before list a → Worked rules c ops a b → HasReached rules.plan after list b
  reached_more before after c ops a b rise low same reached made = record {
    exploring = calls_running rules worked.calls a b reached.exploring worked.made;
    walked = λ k n found lt.
        elim (calls_places rules worked.calls a b worked.made k n found) [
          | inl old ↦ calls_keep rules (slice_index_or (list k) n 0) worked.calls a b worked.made (reached.walked k n old lt)
          | inr now ↦
              let which : k ≡ c = worked.only k n now in
              subst (λ j. IsReached rules.plan (slice_index_or (list j) n 0) (hand_view b).trail) (sym which)
              (calls_reach rules (slice_index_or (list c) n 0) worked.calls a b worked.made
              (worked.tried n (subst (λ j. Contains worked.calls (Took j n)) which now) (subst (λ j. n < length (list j)) which lt)))
        ];
    unused = λ k above. calls_times rules k c (λ is. past k above is) worked.calls a b worked.only worked.made ∙ reached.unused k (omega (arith, above, rise));
    counted =
        let e : named list (hand_view b).places ≡ named list (hand_view a).places + count_by (names (length (list c))) worked.calls = calls_named rules list c worked.calls a b worked.only worked.made in
        let few = worked.counted in
        elim reached.counted [
          | inr full ↦ inr (calls_full rules worked.calls a b worked.made full)
          | inl old ↦ elim (calls_total rules worked.calls a b worked.made) [ inr full ↦ inr full | inl more ↦ inl (omega (arith, e, few, old, more)) ]
        ];
  }
    where
      worked : Worked rules c (list c) a b
      worked = subst (λ os. Worked rules c os a b) (sym same) made

      past : (k : ℕ) → after ≤ k → k ≡ c → ⊥
      past k above is = absurd (omega (arith, above, is, low))

-- a counter that was seen at its end stays there
pub saw_stays : (rules : RunRules) (c many : ℕ) (cs : List TakingCall) (a b : Runner) → MakesPassCalls rules cs a b → IsEnough c many a → IsEnough c many b
saw_stays rules c many cs a b calls enough = elim enough [ inl none ↦ inl none | inr is ↦ inr (is.0, calls_hold rules cs a b calls (place c is.0) is.1, is.2) ]

-- ---- the levels of passes

pub level_new : (l : ℕ) (ls : List ℕ) → level_of (l ∷ ls) (length ls) ≡ l
level_new l ls = ap (λ t. cond t l (level_of ls (length ls))) (eq-eqb (length ls) (length ls) refl)

pub level_old : (l : ℕ) (ls : List ℕ) (k : ℕ) → k < length ls → level_of (l ∷ ls) k ≡ level_of ls k
level_old l ls k lt = ap (λ t. cond t l (level_of ls k)) (ne_eqb k (length ls) (λ same. apart same))
  where
    apart : k ≡ length ls → ⊥
    apart same = absurd (omega arith)

-- numbers name as much by a list that is the same at their counters
named_same : (list other : ℕ → List ℕ) (xs : List Place) → ((k n : ℕ) → Contains xs (place k n) → other k ≡ list k) → named other xs ≡ named list xs
named_same list other [] same = refl
named_same list other (x ∷ xs) same =
    let rest : named other xs ≡ named list xs = named_same list other xs (λ k n found. same k n (contains_later x xs (place k n) found)) in
    count_first (λ (y : Place). nat_lt y.number (length (other y.counter))) x xs
    ∙ ap (λ os. (0 + cond (nat_lt x.number (length os)) 1 0) + named other xs) (same x.counter x.number (contains_first x xs))
    ∙ ap (λ m. (0 + cond (nat_lt x.number (length (list x.counter))) 1 0) + m) rest
    ∙ sym (count_first (λ (y : Place). nat_lt y.number (length (list y.counter))) x xs)

-- ---- a pass

module _ (rules : RunRules) (l : ℕ) (ls : List ℕ) where
  old_ops : (k : ℕ) → k < length ls → passed_ops rules.plan (l ∷ ls) k ≡ passed_ops rules.plan ls k
  old_ops k lt = ap (ops_of rules.plan) (level_old l ls k lt)

  new_ops : passed_ops rules.plan (l ∷ ls) (length ls) ≡ ops_of rules.plan l
  new_ops = ap (ops_of rules.plan) (level_new l ls)

  -- a place that was there before is one of an earlier pass
  earlier_place : (a : Runner) → IsStrata rules.plan ls a → (k n : ℕ) → Contains (hand_view a).places (place k n) → k < length ls
  earlier_place a strata k n found =
      elim (cases_lt k (length ls)) [
        | inl lt ↦ lt
        | inr past ↦ (let some = times_some k n (hand_view a).places found in let none = strata.unused k past in absurd (omega arith))
      ]

  -- the same by the list of one pass more, whose counter was not used yet
  strata_wider : (a : Runner) → IsStrata rules.plan ls a → HasReached rules.plan (length ls) (passed_ops rules.plan (l ∷ ls)) a
  strata_wider a strata = record {
    exploring = strata.exploring;
    walked = λ k n found lt.
        let same = old_ops k (earlier_place a strata k n found) in
        subst (λ os. IsReached rules.plan (slice_index_or os n 0) (hand_view a).trail) (sym same) (strata.walked k n found (subst (λ os. n < length os) same lt));
    unused = strata.unused;
    counted =
        let same = named_same (passed_ops rules.plan ls) (passed_ops rules.plan (l ∷ ls)) (hand_view a).places (λ k n found. old_ops k (earlier_place a strata k n found)) in
        elim strata.counted [ inl few ↦ inl (omega (arith, few, same)) | inr full ↦ inr full ];
  }

  pub strata_more : (a b : Runner) → IsStrata rules.plan ls a → Worked rules (length ls) (ops_of rules.plan l) a b → IsStrata rules.plan (l ∷ ls) b
  strata_more a b strata worked = reached_more rules (passed_ops rules.plan (l ∷ ls)) (length ls) (suc (length ls)) (length ls) (ops_of rules.plan l) a b (omega arith) (omega arith) new_ops (strata_wider a strata) worked

  pub all_strata_more : (rs qs : List Runner) → AreStrata rules.plan ls rs → IsPassed rules (length ls) (ops_of rules.plan l) rs qs → AreStrata rules.plan (l ∷ ls) qs
  all_strata_more rs qs strata passed = record {
    each = λ k d lt. let less : k < length rs = subst (λ n. k < n) passed.len lt in strata_more (slice_index_or rs k d) (slice_index_or qs k d) (strata.each k d less) (passed.each k d less);
    enough = λ c lt.
        elim (cases_eq c (length ls)) [
          | inl same ↦ (
            passed.enough.0,
            subst (λ n. passed.enough.0 < n) (sym passed.len) passed.enough.1,
            λ d.
                subst (λ j. IsEnough j (length (passed_ops rules.plan (l ∷ ls) j)) (slice_index_or qs passed.enough.0 d)) (sym same)
                (subst (λ os. IsEnough (length ls) (length os) (slice_index_or qs passed.enough.0 d)) (sym new_ops) (passed.enough.2 d)),
          )
          | inr other ↦
              let less : c < length ls = below c lt other in
              let before = strata.enough c less in (
                before.0,
                subst (λ n. before.0 < n) (sym passed.len) before.1,
                λ d.
                    let worked = passed.each before.0 d before.1 in
                    subst (λ os. IsEnough c (length os) (slice_index_or qs before.0 d)) (sym (old_ops c less))
                    (saw_stays rules c (length (passed_ops rules.plan ls c)) worked.calls (slice_index_or rs before.0 d) (slice_index_or qs before.0 d) worked.made (before.2 d)),
              )
        ];
  }
    where
      below : (c : ℕ) → c < suc (length ls) → c ≢ length ls → c < length ls
      below c lt other = omega arith

-- ---- the union: where the counter is known whole, each number of its list was taken, and its operation was reached
pub union : (p : Plan) (counters : ℕ) (list : ℕ → List ℕ) (rs : List Runner) → HaveReached p counters list rs → (d : Runner) → (c : ℕ) → c < counters → IsWholeCounter c rs → (n : ℕ) → n < length (list c)
    → (k : ℕ) × (k < length rs) × Contains (hand_view (slice_index_or rs k d)).places (place c n) × IsReached p (slice_index_or (list c) n 0) (hand_view (slice_index_or rs k d)).trail
union p counters list rs reached d c lt whole n less =
    let one = reached.enough c lt in
    elim (one.2 d) [
      | inl none ↦ absurd (omega arith)
      | inr last ↦
          let high : last.0 < whole.end = whole.below one.0 d one.1 last.0 last.1 in
          let past : length (list c) ≤ last.0 + 1 = last.2 in
          let by = whole.taken n (omega arith) in
          (by.0, by.1, by.2 d, (reached.each by.0 d by.1).walked c n (by.2 d) less)
    ]

-- the operations of a level, as the plan's list gives them
pub level_is : (p : Plan) (l : ℕ) → l < length p.op_levels.items → (level : Contents ℕ) → ((d : Contents ℕ) → level ≡ slice_index_or p.op_levels.items l d) → (ops : List ℕ) → ops ≡ level.items → ops ≡ ops_of p l
level_is p l lt level at ops same = same ∙ ap (λ (x : Contents ℕ). x.items) (at level) ∙ sym (get_or-map (λ (x : Contents ℕ). x.items) p.op_levels.items l level [] lt)

-- ---- who took no part, and the first runner alone

pub worked_none : (rules : RunRules) (c : ℕ) (ops : List ℕ) (a : Runner) → Worked rules c ops a a
worked_none rules c ops a = record {
  calls = [];
  made = refl;
  only = λ k n found. absurd (omega (arith, found.1));
  tried = λ n found. absurd (omega (arith, found.1));
  counted = omega arith;
}

pub first_set : (P : Runner → Type 0) (rs : List Runner) (b : Runner) → All P rs → P b → All P (set rs 0 b)
first_set P [] b all holds k d lt = absurd (omega arith)
first_set P (r ∷ rs) b all holds zero d lt = holds
first_set P (r ∷ rs) b all holds (suc k) d lt = all (suc k) d lt
