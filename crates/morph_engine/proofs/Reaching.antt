-- What was taken was reached, as the closed board shows it: each place of each counter, and each operation from a deque.
use Rattle.std.proofs.Common.{◌≡◌, ℕ, zero, suc, ◌+◌, ◌<◌, ◌≤◌, eqb, List, [], ◌∷◌, length, map, refl, sym, ap, ◌∙◌, subst, inl, inr, arith}
use Rattle.std.specs.Prelude.{Contains, drop, slice_index, slice_index_or, sum_by}
use Rattle.std.proofs.lemmas.Bool.{cases_eq, cond-true, cond-false, eq-eqb, ne_eqb}
use Rattle.std.proofs.lemmas.List.{length-map, get_or-map, get_or_default}
use Rattle.std.proofs.lemmas.List.Sums.{sum_by-cons, get_or-le-sum_by}
use Rattle.morph_base.specs.declared.plan.Plan.{Plan}
use Rattle.morph_base.specs.Graphs.{below}
use Rattle.morph_base.specs.Plans.{op_count}
use Rattle.op_words.specs.declared.board.Board.{Board}
use Rattle.op_words.specs.declared.trail.Place.{Place}
use Rattle.op_words.specs.declared.trail.View.{View}
use Rattle.op_words.specs.Closing.{EndsSound}
use Rattle.op_words.specs.Counting.{place}
use Rattle.op_words.specs.Layout.{counter_base}
use Rattle.op_words.specs.Rule.{of_counter}
use Rattle.op_words.specs.Trails.{IsReached}
use Rattle.op_words.specs.Views.{merged, joined_of}
use Rattle.op_words.proofs.Closing.{is_it}
use Rattle.op_words.proofs.Sizes.{sum_inside}
use Rattle.op_words.proofs.Trailing.{reached_more}
use Rattle.op_eval.specs.declared.runner.Runner.{Runner}
use Rattle.op_eval.specs.Gathering.{gathered}
use Rattle.op_eval.specs.Running.{hand_view}
use Rattle.op_eval.proofs.Elements.{contains_first, contains_later}
use Rattle.strata_explorer.specs.Levels.{HaveReached, IsWholeCounter}
use Rattle.strata_explorer.proofs.Climbing.{union}
use Rattle.op_eval.specs.Turns.{TakingCall, Took, Tried}
use Rattle.abort_lazy.specs.Runs.{AreSettling, root_view}
use Rattle.abort_lazy.specs.Sweeps.{MakesCalls}
use Rattle.abort_lazy.proofs.Gathered.{gathered_has, gathered_tag, gathered_trail}
use Rattle.abort_lazy.proofs.Idle.{idled_joined, idled_places, idled_tag, idled_trail}
use Rattle.abort_lazy.proofs.Summing.{below_has, below_some, sum_places}
use Rattle.abort_lazy.proofs.Taking.{weights_of, root_taken, taken_below}
use Rattle.abort_lazy.proofs.Trying.{calls_hold, calls_places}
use Rattle.morph_engine.specs.Runs.{HasHand, IsPlaceReached, IsItemReached}

-- ---- while events are tried

module _ (p : Plan) where
  -- a place of a counter that was not used then was taken before
  calls_back : (c n : ℕ) (cs : List TakingCall) (a b : Runner) → ((m : ℕ) → Contains cs (Took c m) → ⊥) → MakesCalls p cs a b → Contains (hand_view b).places (place c n) → Contains (hand_view a).places (place c n)
  calls_back c n cs a b unused calls found = elim (calls_places p cs a b calls c n found) [ inl before ↦ before | inr took ↦ absurd (unused n took) ]

  -- what was reached stays so
  calls_reached : (o : ℕ) (cs : List TakingCall) (a b : Runner) → MakesCalls p cs a b → IsReached p o (hand_view a).trail → IsReached p o (hand_view b).trail
  calls_reached o [] a b calls is = subst (λ r. IsReached p o (hand_view r).trail) (sym calls) is
  calls_reached o (Took c n ∷ cs) a b calls is = subst (λ (v : View). IsReached p o v.trail) (sym calls.2.view) (calls_reached o cs a calls.0 calls.1 is)
  calls_reached o (Tried i ∷ cs) a b calls is =
      let does = calls.2.1.does in
      subst (IsReached p o) (sym does.goes.adds.trail) (reached_more does.words (calls_reached o cs a calls.0 calls.1 is))

-- ---- the root has each runner's hand

gathered_places : (v : View) (ws : List View) → (gathered v ws).places ≡ v.places
unfolding gathered
gathered_places v [] = refl
gathered_places v (w ∷ ws) = gathered_places (merged v w) ws

abbrev gathered_view : Runner → List Runner → View
gathered_view d rs = gathered (hand_view (slice_index_or rs 0 d)) (map hand_view (drop 1 rs))

hand_there : (d : Runner) (rs : List Runner) (k : ℕ) → k < length rs
    → HasHand (gathered_view d rs) (hand_view (slice_index_or rs k d)).tag (hand_view (slice_index_or rs k d)).trail (hand_view (slice_index_or rs k d)).places
hand_there d [] k lt = absurd (omega (arith, lt))
hand_there d (r ∷ rs) zero lt = inl (gathered_tag (hand_view r) (map hand_view rs), gathered_trail (hand_view r) (map hand_view rs), gathered_places (hand_view r) (map hand_view rs))
hand_there d (r ∷ rs) (suc k) lt =
    inr (
      joined_of (hand_view (slice_index_or rs k d)),
      subst (λ w. Contains (gathered_view d (r ∷ rs)).joined (joined_of w)) (get_or-map hand_view rs k d (hand_view d) (less lt))
          (gathered_has (hand_view r) (map hand_view rs) k (hand_view d) (subst (λ n. k < n) (sym (length-map rs hand_view)) (less lt))),
      refl,
      refl,
      refl,
    )
  where
    less : suc k < suc (length rs) → k < length rs
    less l = omega (arith, l)

pub root_hand : (n : ℕ) (d : Runner) (rs : List Runner) (k : ℕ) → k < length rs
    → HasHand (root_view n d rs) (hand_view (slice_index_or rs k d)).tag (hand_view (slice_index_or rs k d)).trail (hand_view (slice_index_or rs k d)).places
root_hand n d rs k lt =
    elim (hand_there d rs k lt) [
      | inl own ↦ inl (idled_tag n (gathered_view d rs) ∙ own.0, idled_trail n (gathered_view d rs) ∙ own.1, idled_places n (gathered_view d rs) ∙ own.2)
      | inr other ↦ inr (other.0, idled_joined n (gathered_view d rs) other.0 other.1, other.2, other.3, other.4)
    ]

-- what a runner had reached before events were tried
module _ (b : Board) (p : Plan) (from : ℕ) (start rs : List Runner) (settling : AreSettling b p from start rs) (idle : ℕ) (d : Runner) where
  pub item_reached : (o : ℕ) → o < op_count p → (k : ℕ) → k < length start → ((e : Runner) → IsReached p o (hand_view (slice_index_or start k e)).trail) → IsItemReached p (root_view idle d rs) o
  item_reached o in_range k lt reached =
      let there = subst (λ n. k < n) (sym settling.len) lt in
      let here = settling.each k d there in
      let b = slice_index_or rs k d in
      record {
        in_range = in_range;
        tag = (hand_view b).tag;
        trail = (hand_view b).trail;
        places = (hand_view b).places;
        hand = root_hand idle d rs k there;
        reached = calls_reached p o here.tried.calls (slice_index_or start k d) b here.tried.made (reached d);
      }

-- ---- numbers

-- a number with weight was taken
some_place : (c n : ℕ) (xs : List Place) → 1 ≤ sum_by (of_counter c (is_it n)) xs → Contains xs (place c n)
some_place c n [] some = absurd (omega (arith, some))
some_place c n (x ∷ xs) some =
    elim (cases_eq x.counter c) [
      | inl same ↦ elim (cases_eq x.number n) [
        | inl this ↦ subst (Contains (x ∷ xs)) (ap (λ k. place k x.number) same ∙ ap (place c) this) (contains_first x xs)
        | inr other ↦
            let none : of_counter c (is_it n) x ≡ 0 = cond-true (eqb x.counter c) (is_it n x.number) 0 (eq-eqb x.counter c same) ∙ cond-false (eqb x.number n) 1 0 (ne_eqb x.number n other) in
            later (λ more. some_place c n xs more) none
      ]
      | inr other ↦
          let none : of_counter c (is_it n) x ≡ 0 = cond-false (eqb x.counter c) (is_it n x.number) 0 (ne_eqb x.counter c other) in
          later (λ more. some_place c n xs more) none
    ]
  where
    later : (1 ≤ sum_by (of_counter c (is_it n)) xs → Contains xs (place c n)) → of_counter c (is_it n) x ≡ 0 → Contains (x ∷ xs) (place c n)
    later rest none = contains_later x xs (place c n) (rest (let whole = sum_by-cons (of_counter c (is_it n)) x xs in omega (arith, some, none, whole)))

place_counts : (c n : ℕ) (xs : List Place) → Contains xs (place c n) → 1 ≤ sum_by (of_counter c (is_it n)) xs
place_counts c n xs found =
    let inside = sum_inside (of_counter c (is_it n)) xs (place c n) found in
    let it : of_counter c (is_it n) (place c n) ≡ is_it n n = cond-true (eqb c c) (is_it n n) 0 (eq-eqb c c refl) in
    let is : is_it n n ≡ 1 = cond-true (eqb n n) 1 0 (eq-eqb n n refl) in
    omega (arith, inside, it, is)

module _ (b : Board) (p : Plan) (first : ℕ) (list : ℕ → List ℕ) (start rs : List Runner) (settling : AreSettling b p first start rs) (reached : HaveReached p first list start) {cap counters : ℕ} {ws : List ℕ} (idle : ℕ) (d : Runner)
    (end : EndsSound p cap counters ws (root_view idle d rs)) (fits : first ≤ counters) (some : 0 < length rs) (none : (hand_view (slice_index_or rs 0 d)).joined ≡ []) where
  in_counters : (c : ℕ) → c < first → c < counters
  in_counters c lt = omega (arith, lt, fits)

  there : (k : ℕ) → k < length start → k < length rs
  there k lt = subst (λ n. k < n) (sym settling.len) lt

  -- events are tried with other counters
  unused : (c : ℕ) → c < first → (k : ℕ) (e : Runner) (lt : k < length rs) (m : ℕ) → let here = settling.each k e lt in Contains here.tried.calls (Took c m) → ⊥
  unused c low k e lt m found = let here = settling.each k e lt in let only = here.tried.only c m found in let is = only.2 in absurd (omega (arith, low, is))

  all_taken : (c n : ℕ) → c < first → n < slice_index ws (counter_base p + c) → (k : ℕ) × (k < length rs) × Contains (hand_view (slice_index_or rs k d)).places (place c n)
  all_taken c n low less =
      let end_is : ℕ = slice_index ws (counter_base p + c) in
      let counted = sum_inside (is_it n) (below end_is) n (below_has end_is n less) in
      let it : is_it n n ≡ 1 = cond-true (eqb n n) 1 0 (eq-eqb n n refl) in
      let numbers = end.numbers c (in_counters c low) (is_it n) in
      let total = root_taken c (is_it n) idle d rs some none in
      let places = sum_places (weights_of c (is_it n)) rs d in
      let one = below_some (λ k. weights_of c (is_it n) (slice_index_or rs k d)) (length rs) (omega (arith, counted, it, numbers, total, places)) in
      (one.0, one.1, some_place c n (hand_view (slice_index_or rs one.0 d)).places one.2)

  -- the numbers of a counter of exploring are those below what it shows in the end
  whole : (c : ℕ) → c < first → IsWholeCounter c start
  whole c low = record {
    end = slice_index ws (counter_base p + c);
    below = λ k e less n found.
        let here = settling.each k e (there k less) in
        let held = calls_hold p here.tried.calls (slice_index_or start k e) (slice_index_or rs k e) here.tried.made (place c n) found in
        let counts = place_counts c n (hand_view (slice_index_or rs k e)).places held in
        let part = get_or-le-sum_by (weights_of c (is_it n)) rs k e (there k less) in
        let total = root_taken c (is_it n) idle d rs some none in
        taken_below end c (in_counters c low) n (omega (arith, counts, part, total));
    taken = λ n less.
        let one = all_taken c n low less in (
          one.0,
          subst (λ m. one.0 < m) settling.len one.1,
          λ e.
              let here = settling.each one.0 e one.1 in
              calls_back p c n here.tried.calls (slice_index_or start one.0 e) (slice_index_or rs one.0 e) (unused c low one.0 e one.1) here.tried.made
              (subst (λ r. Contains (hand_view r).places (place c n)) (get_or_default rs one.0 d e one.1) one.2),
        );
  }

  pub places_reached : (c n : ℕ) → c < first → n < length (list c) → IsPlaceReached p (root_view idle d rs) c n (slice_index_or (list c) n 0)
  places_reached c n low less =
      let one = union p first list start reached d c low (whole c low) n less in
      let lt = there one.0 one.1 in
      let here = settling.each one.0 d lt in
      let a = slice_index_or start one.0 d in
      let b = slice_index_or rs one.0 d in
      record {
        tag = (hand_view b).tag;
        trail = (hand_view b).trail;
        places = (hand_view b).places;
        hand = root_hand idle d rs one.0 lt;
        taken = calls_hold p here.tried.calls a b here.tried.made (place c n) one.2;
        reached = calls_reached p (slice_index_or (list c) n 0) here.tried.calls a b here.tried.made one.3;
      }
