-- Over all runners each event is tried once.
use Rattle.std.proofs.Common.{◌≡◌, ◌⊎◌, ℕ, zero, suc, ◌+◌, ◌*◌, ◌<◌, ◌≤◌, cond, eqb, List, [], ◌∷◌, length, refl, sym, ap, ◌∙◌, subst, inl, inr, arith}
use Rattle.std.specs.Prelude.{slice_index_or, sum_by}
use Rattle.std.proofs.lemmas.Bool.{cases_eq, cases_lt, cond-true, cond-false, eq-eqb, ne_eqb}
use Rattle.std.proofs.lemmas.List.{get_or_default}
use Rattle.morph_base.specs.declared.plan.Plan.{Plan}
use Rattle.morph_base.specs.Graphs.{below, IsGraph, IsValidPlan}
use Rattle.morph_base.specs.Plans.{IsPlan, event_at, event_count}
use Rattle.morph_base.proofs.LevelLaws.{event_level-range}
use Rattle.op_words.specs.declared.board.Board.{Board}
use Rattle.op_words.specs.Closing.{EndsSound}
use Rattle.op_words.specs.Hands.{counters_of}
use Rattle.op_words.proofs.Sizes.{sum_above, sum_below}
use Rattle.op_eval.specs.declared.runner.Runner.{Runner}
use Rattle.op_eval.specs.Running.{hand_view}
use Rattle.op_eval.specs.Turns.{TakingCall}
use Rattle.abort_lazy.specs.Ended.{AreAtStart, AreTries}
use Rattle.worker_gate.proofs.Ordering.{counters_fit}
use Rattle.abort_lazy.specs.Runs.{HasTried, AreSettling, events_of, parted_events, root_view, settling_counters}
use Rattle.abort_lazy.specs.Sweeps.{MakesCalls, taken_by, tried_by, weight_at}
use Rattle.abort_lazy.proofs.Levelling.{events_is, levels_len, sum_counters}
use Rattle.abort_lazy.proofs.Summing.{below_same, sum_filter, sum_places, sum_swap}
use Rattle.abort_lazy.proofs.Taking.{weights_of, all_taken, calls_taken, no_events, none_taken, sum_until}

-- ---- the lists of the levels have each event once

-- one of the numbers from 1 to n is m
one_of : (m v n : ℕ) → 0 < m → m ≤ n → sum_by (λ l. cond (eqb m (l + 1)) v 0) (below n) ≡ v
one_of m v zero some le = absurd (omega (arith, some, le))
one_of m v (suc n) some le =
    let more = sum_below (λ l. cond (eqb m (l + 1)) v 0) n in
    elim (cases_eq m (n + 1)) [
      | inl same ↦
          let here = cond-true (eqb m (n + 1)) v 0 (eq-eqb m (n + 1) same) in
          let none = sum_above (λ l. cond (eqb m (l + 1)) v 0) n (λ l lt. cond-false (eqb m (l + 1)) v 0 (ne_eqb m (l + 1) (λ e. absurd (omega (arith, e, same, lt))))) in
          omega (arith, more, here, none)
      | inr other ↦
          let here = cond-false (eqb m (n + 1)) v 0 (ne_eqb m (n + 1) other) in
          let rest = one_of m v n some (omega (arith, le, other)) in
          omega (arith, more, here, rest)
    ]

pub sum_levels : (p : Plan) → IsPlan p → IsGraph p → (weight : ℕ → ℕ)
    → sum_by (λ l. sum_by weight (events_of p l)) (below (length p.event_levels.items)) ≡ sum_by weight (below (event_count p))
sum_levels p valid graph weight =
    below_same (λ l. sum_by weight (events_of p l)) (λ l. sum_by (λ i. of_level i l) (below (event_count p))) (length p.event_levels.items)
    (λ l lt. ap (sum_by weight) (events_is p graph l lt) ∙ sum_filter weight (λ i. eqb (event_at p i).level (l + 1)) (below (event_count p)))
    ∙ sum_swap (λ l i. of_level i l) (below (length p.event_levels.items)) (below (event_count p))
    ∙ below_same (λ i. sum_by (of_level i) (below (length p.event_levels.items))) weight (event_count p)
    (λ i lt.
    let range = event_level-range p valid graph i lt in
    let len = levels_len p graph in
    let high = range.1 in
    one_of (event_at p i).level (weight i) (length p.event_levels.items) range.0 (omega (arith, high, len)))
  where
    of_level : ℕ → ℕ → ℕ
    of_level i l = cond (eqb (event_at p i).level (l + 1)) (weight i) 0

-- ---- the calls of each runner

module _ (p : Plan) (b : Board) (from : ℕ) (start rs : List Runner) (d : Runner) (settling : AreSettling b p from start rs) where
  abbrev pub calls_at : (k : ℕ) → (k < length rs) ⊎ (length rs ≤ k) → List TakingCall
  calls_at k (inl lt) = (settling.each k d lt).tried.calls
  calls_at k (inr past) = []

  abbrev pub calls_of : ℕ → List TakingCall
  calls_of k = calls_at k (cases_lt k (length rs))

  abbrev pub IsTriedBy : ℕ → List TakingCall → Type 0
  IsTriedBy k cs = (t : HasTried p from settling.shares.parts (length p.event_levels.items) (slice_index_or start k d) (slice_index_or rs k d)) × (t.calls ≡ cs)

  tried_at : (k : ℕ) → k < length rs → (x : (k < length rs) ⊎ (length rs ≤ k)) → IsTriedBy k (calls_at k x)
  tried_at k less (inl lt) = ((settling.each k d lt).tried, refl)
  tried_at k less (inr past) = absurd (omega (arith, less, past))

  pub tried_of : (k : ℕ) → k < length rs → IsTriedBy k (calls_of k)
  tried_of k less = tried_at k less (cases_lt k (length rs))

  pub made_of : (k : ℕ) → k < length rs → MakesCalls p (calls_of k) (slice_index_or start k d) (slice_index_or rs k d)
  made_of k less = let is = tried_of k less in subst (λ cs. MakesCalls p cs (slice_index_or start k d) (slice_index_or rs k d)) is.1 is.0.made

  -- the weights of the events that all tried are those of the numbers that they took
  module _ (begun : AreAtStart from start) (weight : ℕ → ℕ) where
    abbrev of_counter : ℕ → TakingCall → ℕ
    of_counter c = taken_by (from + c) (weight_at (parted_events p settling.shares.parts c) weight)

    turns_of : (k : ℕ) → k < length rs → sum_by (tried_by weight) (calls_of k) ≡ sum_by (λ c. sum_by (of_counter c) (calls_of k)) (below (settling_counters p))
    turns_of k less =
        let is = tried_of k less in
        subst (λ cs. sum_by (tried_by weight) cs ≡ sum_by (λ c. sum_by (of_counter c) cs) (below (settling_counters p))) is.1 (is.0.turns weight)

    weights_is : (c k : ℕ) → k < length rs → sum_by (of_counter c) (calls_of k) ≡ weights_of (from + c) (weight_at (parted_events p settling.shares.parts c) weight) (slice_index_or rs k d)
    weights_is c k less =
        let all = calls_taken (from + c) (weight_at (parted_events p settling.shares.parts c) weight) p (calls_of k) (slice_index_or start k d) (slice_index_or rs k d) (made_of k less) in
        let none =
        none_taken (from + c) (weight_at (parted_events p settling.shares.parts c) weight) (hand_view (slice_index_or start k d)).places
        (begun.unused (from + c) (omega arith) k d (subst (λ n. k < n) settling.len less)) in
        omega (arith, all, none)

    pub tried_sum : sum_by (λ k. sum_by (tried_by weight) (calls_of k)) (below (length rs))
        ≡ sum_by (λ c. sum_by (weights_of (from + c) (weight_at (parted_events p settling.shares.parts c) weight)) rs) (below (settling_counters p))
    tried_sum =
        below_same (λ k. sum_by (tried_by weight) (calls_of k)) (λ k. sum_by (λ c. sum_by (of_counter c) (calls_of k)) (below (settling_counters p))) (length rs) turns_of
        ∙ sum_swap (λ k c. sum_by (of_counter c) (calls_of k)) (below (length rs)) (below (settling_counters p))
        ∙ below_same (λ c. sum_by (λ k. sum_by (of_counter c) (calls_of k)) (below (length rs))) (λ c. sum_by (weights_of (from + c) (weight_at (parted_events p settling.shares.parts c) weight)) rs)
        (settling_counters p)
        (λ c lt.
        below_same (λ k. sum_by (of_counter c) (calls_of k)) (λ k. weights_of (from + c) (weight_at (parted_events p settling.shares.parts c) weight) (slice_index_or rs k d)) (length rs) (weights_is c)
        ∙ sym (sum_places (weights_of (from + c) (weight_at (parted_events p settling.shares.parts c) weight)) rs d))

-- ---- once the board is closed

module _ (p : Plan) (valid : IsValidPlan p) (b : Board) (from : ℕ) (start rs : List Runner) (idle : ℕ) (d : Runner) (begun : AreAtStart from start)
    (settling : AreSettling b p from start rs) (some : 0 < length rs) {cap : ℕ} {ws : List ℕ} (end : EndsSound p cap (counters_of b) ws (root_view idle d rs)) where
  abbrev pub calls_made : ℕ → List TakingCall
  calls_made = calls_of p b from start rs d settling

  root_joined : (hand_view (slice_index_or rs 0 d)).joined ≡ []
  root_joined = let first = settling.each 0 d some in first.joined ∙ begun.none_joined d

  counters_few : length p.event_levels.items * settling.shares.parts ≤ settling_counters p
  counters_few = counters_fit settling.shares.parts (length p.event_levels.items) settling.are.few

  counter_sum : (weight : ℕ → ℕ) (c : ℕ) → c < length p.event_levels.items * settling.shares.parts
      → sum_by (weights_of (from + c) (weight_at (parted_events p settling.shares.parts c) weight)) rs ≡ sum_by weight (parted_events p settling.shares.parts c)
  counter_sum weight c lt =
      let last = settling.enough c lt in
      elim (last.2 d) [
        | inl none ↦ no_events (from + c) (parted_events p settling.shares.parts c) weight rs none
        | inr seen ↦
            let counters = settling.counters in
            let few = counters_few in
            all_taken end (from + c) (omega (arith, counters, few, lt)) idle d rs refl some root_joined last.0 last.1 seen.0 seen.1 (parted_events p settling.shares.parts c) seen.2 weight
      ]

  -- no number was taken from the counters that belong to no part
  counter_none : (weight : ℕ → ℕ) (c : ℕ) → length p.event_levels.items * settling.shares.parts ≤ c
      → sum_by (weights_of (from + c) (weight_at (parted_events p settling.shares.parts c) weight)) rs ≡ 0
  counter_none weight c past =
      sum_places (weights_of (from + c) (weight_at (parted_events p settling.shares.parts c) weight)) rs d
      ∙ sum_above (λ k. weights_of (from + c) (weight_at (parted_events p settling.shares.parts c) weight) (slice_index_or rs k d)) (length rs)
      (λ k lt.
      let one = settling.each k d lt in
      none_taken (from + c) (weight_at (parted_events p settling.shares.parts c) weight) (hand_view (slice_index_or rs k d)).places (one.unused c (λ low. absurd (omega (arith, low, past)))))

  pub tried_once : (weight : ℕ → ℕ) → sum_by (λ k. sum_by (tried_by weight) (calls_made k)) (below (length rs)) ≡ sum_by weight (below (event_count p))
  tried_once weight =
      tried_sum p b from start rs d settling begun weight
      ∙ sum_until (λ c. sum_by (weights_of (from + c) (weight_at (parted_events p settling.shares.parts c) weight)) rs) (length p.event_levels.items * settling.shares.parts) (settling_counters p)
      counters_few (counter_none weight)
      ∙ below_same (λ c. sum_by (weights_of (from + c) (weight_at (parted_events p settling.shares.parts c) weight)) rs) (λ c. sum_by weight (parted_events p settling.shares.parts c))
      (length p.event_levels.items * settling.shares.parts) (counter_sum weight)
      ∙ sum_counters p settling.shares.parts settling.are.some weight
      ∙ sum_levels p valid.plan valid.graph weight

  pub are_tries : AreTries p start rs
  are_tries = record {
    calls = calls_made;
    made = λ k e lt.
        let less : k < length rs = subst (λ n. k < n) (sym settling.len) lt in
        subst (λ r. MakesCalls p (calls_made k) (slice_index_or start k e) r) (get_or_default rs k d e less)
        (subst (λ r. MakesCalls p (calls_made k) r (slice_index_or rs k d)) (get_or_default start k d e lt) (made_of p b from start rs d settling k less));
    once = λ weight. ap (λ n. sum_by (λ k. sum_by (tried_by weight) (calls_made k)) (below n)) (sym settling.len) ∙ tried_once weight;
  }

pub all_tried : (p : Plan) → IsValidPlan p → (b : Board) (from : ℕ) (start rs : List Runner) (idle : ℕ) → AreAtStart from start → AreSettling b p from start rs → 0 < length rs
    → {cap : ℕ} {ws : List ℕ} → ((d : Runner) → EndsSound p cap (counters_of b) ws (root_view idle d rs)) → AreTries p start rs
all_tried p valid b from start [] idle begun settling some end = absurd (omega (arith, some))
all_tried p valid b from start (r ∷ rs) idle begun settling some end = are_tries p valid b from start (r ∷ rs) idle r begun settling some (end r)
