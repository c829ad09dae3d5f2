-- What the runners took from a counter, and what the root's view says of it once they are gathered.
use Rattle.std.proofs.Common.{◌≡◌, ℕ, zero, suc, ◌+◌, ◌<◌, ◌≤◌, Bool, true, false, cond, eqb, List, [], ◌∷◌, length, get_or, map, refl, sym, ap, ◌∙◌, inl, inr, arith}
use Rattle.std.specs.Prelude.{Contains, nat_lt, slice_index, slice_index_or, sum_by}
use Rattle.std.proofs.lemmas.Bool.{cases_eq, cases_lt, cond-true, cond-false, eq-eqb, ne_eqb, le-ltb, lt-ltb}
use Rattle.std.proofs.lemmas.List.Sums.{sum_by-cons, sum_by_push, get_or-le-sum_by}
use Rattle.morph_base.specs.declared.plan.Plan.{Plan}
use Rattle.morph_base.specs.Graphs.{below}
use Rattle.op_words.specs.declared.trail.Place.{Place}
use Rattle.op_words.specs.declared.trail.View.{View}
use Rattle.op_words.specs.Closing.{EndsSound}
use Rattle.op_words.specs.Counting.{place, times}
use Rattle.op_words.specs.Layout.{counter_base}
use Rattle.op_words.specs.Rule.{of_counter, of_joined, one, taken}
use Rattle.op_words.specs.Views.{joined_of, merged}
use Rattle.op_words.proofs.Closing.{is_it}
use Rattle.op_words.proofs.Sizes.{none_left, sum_above, sum_below, sum_inside}
use Rattle.op_eval.specs.declared.runner.Runner.{Runner}
use Rattle.op_eval.specs.Gathering.{gathered}
use Rattle.op_eval.specs.Running.{hand_view}
use Rattle.op_eval.specs.Turns.{TakingCall, Took, Tried}
use Rattle.abort_lazy.specs.Runs.{root_view}
use Rattle.abort_lazy.specs.Sweeps.{MakesCalls, taken_by, weight_at}
use Rattle.abort_lazy.proofs.Idle.{idled_taken}
use Rattle.abort_lazy.proofs.Summing.{below_same, sum_map, sum_none, sum_places, sum_same}

-- ---- one runner

-- the weights of the numbers that the runner took from the counter
abbrev pub weights_of : ℕ → (ℕ → ℕ) → Runner → ℕ
weights_of c weight r = sum_by (of_counter c weight) (hand_view r).places

module _ (c : ℕ) (weight : ℕ → ℕ) where
  pub calls_taken : (p : Plan) (cs : List TakingCall) (a b : Runner) → MakesCalls p cs a b → weights_of c weight b ≡ weights_of c weight a + sum_by (taken_by c weight) cs
  calls_taken p [] a b calls = let same = ap (weights_of c weight) calls in omega (arith, same)
  calls_taken p (Took k n ∷ cs) a b calls =
      let before = calls_taken p cs a calls.0 calls.1 in
      let now = ap (λ (v : View). sum_by (of_counter c weight) v.places) calls.2.view in
      let more = sum_by_push (of_counter c weight) (hand_view calls.0).places (place k n) in
      let first = sum_by-cons (taken_by c weight) (Took k n) cs in
      omega (arith, before, now, more, first)
  calls_taken p (Tried i ∷ cs) a b calls =
      let before = calls_taken p cs a calls.0 calls.1 in
      let does = calls.2.1.does in
      let now = ap (sum_by (of_counter c weight)) does.goes.adds.places in
      let first = sum_by-cons (taken_by c weight) (Tried i) cs in
      omega (arith, before, now, first)

  pub none_taken : (xs : List Place) → times c xs ≡ 0 → sum_by (of_counter c weight) xs ≡ 0
  none_taken [] none = refl
  none_taken (x ∷ xs) none =
      let all = sum_by-cons (of_counter c one) x xs in
      let first = sum_by-cons (of_counter c weight) x xs in
      let rest = none_taken xs (omega (arith, none, all)) in
      let here : of_counter c weight x ≡ 0 = split (eqb x.counter c) (let n : of_counter c one x ≡ 0 = omega (arith, none, all) in n) in
      omega (arith, first, rest, here)
    where
      split : (b : Bool) → cond b (one x.number) 0 ≡ 0 → cond b (weight x.number) 0 ≡ 0
      split true is = absurd (omega (arith, is))
      split false is = refl

  -- ---- all of them

  gathered_taken : (v : View) (ws : List View) → taken c weight (gathered v ws) ≡ taken c weight v + sum_by (λ (w : View). sum_by (of_counter c weight) w.places) ws
  unfolding gathered
  gathered_taken v [] = omega arith
  gathered_taken v (w ∷ ws) =
      let rest = gathered_taken (merged v w) ws in
      let joins = sum_by_push (of_joined c weight) v.joined (joined_of w) in
      let first = sum_by-cons (λ (u : View). sum_by (of_counter c weight) u.places) w ws in
      omega (arith, rest, joins, first)

  pub root_taken : (idle : ℕ) (d : Runner) (rs : List Runner) → 0 < length rs → (hand_view (slice_index_or rs 0 d)).joined ≡ []
      → taken c weight (root_view idle d rs) ≡ sum_by (weights_of c weight) rs
  root_taken idle d [] some none = absurd (omega (arith, some))
  root_taken idle d (r ∷ rs) some none =
      let without = idled_taken c weight idle (gathered (hand_view r) (map hand_view rs)) in
      let all = gathered_taken (hand_view r) (map hand_view rs) in
      let others = sum_map (λ (w : View). sum_by (of_counter c weight) w.places) hand_view rs in
      let joins = ap (sum_by (of_joined c weight)) none in
      let first = sum_by-cons (weights_of c weight) r rs in
      omega (arith, without, all, others, joins, first)

-- numbers without weight
weightless : (c : ℕ) (weight : ℕ → ℕ) → ((n : ℕ) → weight n ≡ 0) → (rs : List Runner) → sum_by (weights_of c weight) rs ≡ 0
weightless c weight none rs =
    sum_same (weights_of c weight) (λ r. 0) rs
    (λ r found.
    sum_same (of_counter c weight) (λ x. 0) (hand_view r).places (λ x inside. nothing (eqb x.counter c) (weight x.number) (none x.number)) ∙ sum_none (hand_view r).places)
    ∙ sum_none rs
  where
    nothing : (b : Bool) (n : ℕ) → n ≡ 0 → cond b n 0 ≡ 0
    nothing true n is = is
    nothing false n is = refl

pub no_events : (c : ℕ) (events : List ℕ) (weight : ℕ → ℕ) (rs : List Runner) → length events ≡ 0 → sum_by (weights_of c (weight_at events weight)) rs ≡ sum_by weight events
no_events c events weight rs none =
    weightless c (weight_at events weight) (λ n. cond-false (nat_lt n (length events)) (weight (get_or events n 0)) 0 (le-ltb n (length events) (omega (arith, none)))) rs
    ∙ sym (ap (sum_by weight) (none_left events none))

-- ---- the closed board

-- with nothing from n on
pub sum_until : (f : ℕ → ℕ) (n m : ℕ) → n ≤ m → ((k : ℕ) → n ≤ k → f k ≡ 0) → sum_by f (below m) ≡ sum_by f (below n)
sum_until f n zero le none = let same : 0 ≡ n = omega (arith, le) in ap (λ k. sum_by f (below k)) same
sum_until f n (suc m) le none =
    elim (cases_eq n (suc m)) [
      | inl same ↦ ap (λ k. sum_by f (below k)) (sym same)
      | inr other ↦
          let before : n ≤ m = omega (arith, le, other) in
          let rest = sum_until f n m before none in
          let more = sum_below f m in
          let here = none m before in
          omega (arith, rest, more, here)
    ]

sum_weights : (events : List ℕ) (weight : ℕ → ℕ) (m : ℕ) → length events ≤ m → sum_by (weight_at events weight) (below m) ≡ sum_by weight events
sum_weights events weight m le =
    sum_until (weight_at events weight) (length events) m le (λ k past. cond-false (nat_lt k (length events)) (weight (get_or events k 0)) 0 (le-ltb k (length events) past))
    ∙ below_same (weight_at events weight) (λ k. weight (get_or events k 0)) (length events)
    (λ k lt. cond-true (nat_lt k (length events)) (weight (get_or events k 0)) 0 (lt-ltb k (length events) lt))
    ∙ sym (sum_places weight events 0)

module _ {p : Plan} {cap counters : ℕ} {ws : List ℕ} {v : View} (end : EndsSound p cap counters ws v) (c : ℕ) (lt : c < counters) where
  -- a number that was taken is below what the counter shows in the end
  pub taken_below : (n : ℕ) → 1 ≤ taken c (is_it n) v → n < slice_index ws (counter_base p + c)
  taken_below n some =
      elim (cases_lt n (slice_index ws (counter_base p + c))) [
        | inl less ↦ less
        | inr past ↦
            let all = end.numbers c lt (is_it n) in
            let none =
            sum_above (is_it n) (slice_index ws (counter_base p + c)) (λ k low. cond-false (eqb k n) 1 0 (ne_eqb k n (λ same. absurd (omega (arith, low, past, same))))) in
            absurd (omega (arith, some, all, none))
      ]

  -- where the last of so many numbers was taken, all of them were, each once
  pub all_taken : (idle : ℕ) (d : Runner) (rs : List Runner) → v ≡ root_view idle d rs → 0 < length rs → (hand_view (slice_index_or rs 0 d)).joined ≡ [] → (k : ℕ) → k < length rs
      → (n : ℕ) → Contains (hand_view (slice_index_or rs k d)).places (place c n) → (events : List ℕ) → length events ≤ n + 1 → (weight : ℕ → ℕ)
      → sum_by (weights_of c (weight_at events weight)) rs ≡ sum_by weight events
  all_taken idle d rs root some none k less n found events long weight =
      sym (root_taken c (weight_at events weight) idle d rs some none) ∙ ap (taken c (weight_at events weight)) (sym root) ∙ end.numbers c lt (weight_at events weight)
      ∙ sum_weights events weight (slice_index ws (counter_base p + c)) (omega (arith, long, reached))
    where
      mine : 1 ≤ weights_of c (is_it n) (slice_index_or rs k d)
      mine =
          let inside = sum_inside (of_counter c (is_it n)) (hand_view (slice_index_or rs k d)).places (place c n) found in
          let it : of_counter c (is_it n) (place c n) ≡ is_it n n = cond-true (eqb c c) (is_it n n) 0 (eq-eqb c c refl) in
          let is : is_it n n ≡ 1 = cond-true (eqb n n) 1 0 (eq-eqb n n refl) in
          omega (arith, inside, it, is)

      reached : n < slice_index ws (counter_base p + c)
      reached =
          taken_below n
          (let whole = ap (taken c (is_it n)) root ∙ root_taken c (is_it n) idle d rs some none in
          let part = get_or-le-sum_by (weights_of c (is_it n)) rs k d less in
          let here = mine in
          omega (arith, whole, part, here))
