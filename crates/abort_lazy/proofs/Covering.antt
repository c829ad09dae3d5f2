-- Few operations are left where few causes are kept.
use Rattle.std.proofs.Common.{◌≡◌, ◌⊎◌, ℕ, zero, suc, ◌+◌, ◌*◌, ◌<◌, ◌≤◌, cond, eqb, not, List, length, get_or, refl, sym, ap, subst, inl, inr, arith}
use Rattle.std.specs.Prelude.{count_by, sum_by}
use Rattle.std.proofs.lemmas.Bool.{cases_Bool, cases_eq, cases_lt, cond-true, cond-false, eq-eqb, ne_eqb}
use Rattle.std.proofs.lemmas.List.Sums.{sum_by-le}
use Rattle.morph_base.specs.declared.limits.TheConstants.{EVENT_OPS}
use Rattle.morph_base.specs.declared.plan.Plan.{Plan}
use Rattle.morph_base.specs.Graphs.{below}
use Rattle.morph_base.specs.Plans.{IsPlan, event_at, event_count, event_of, op_count}
use Rattle.morph_base.specs.Words.{is_settled}
use Rattle.interleaving_core.specs.Core.{Core}
use Rattle.op_words.specs.declared.trail.View.{View}
use Rattle.op_words.proofs.Sizes.{sum_below, sum_most}
use Rattle.op_eval.specs.declared.answers.Left.{Left}
use Rattle.abort_lazy.specs.Ended.{AreCauses, causes, causes_of}
use Rattle.abort_lazy.proofs.Summing.{below_least, sum_swap}

-- what counts at most once, and only from a number on, and for so many
sum_within : (f : ℕ → ℕ) (a m n : ℕ) → ((k : ℕ) → k < n → (f k ≡ 0) ⊎ ((f k ≤ 1) × (a ≤ k) × (k < a + m)))
    → ((sum_by f (below n) ≡ 0) ⊎ (sum_by f (below n) + a ≤ n)) × (sum_by f (below n) ≤ m)
sum_within f a m zero each = (inl refl, omega arith)
sum_within f a m (suc n) each =
    let before = sum_within f a m n (λ k lt. each k (omega (arith, lt))) in
    let more = sum_below f n in
    elim (each n (omega arith)) [
      | inl none ↦ (
        elim before.0 [ inl all ↦ inl (omega (arith, all, more, none)) | inr few ↦ inr (omega (arith, few, more, none)) ],
        (let few = before.1 in omega (arith, few, more, none)),
      )
      | inr within ↦
          let one = within.0 in
          let from = within.1 in
          let to = within.2 in (
            inr (elim before.0 [ inl all ↦ omega (arith, all, more, one, from) | inr few ↦ omega (arith, few, more, one) ]),
            elim before.0 [ inl all ↦ omega (arith, all, more, one, from, to) | inr few ↦ omega (arith, few, more, one, to) ],
          )
    ]

module _ (p : Plan) (valid : IsPlan p) where
  abbrev of_event : ℕ → ℕ → ℕ
  of_event i o = cond (eqb i (event_of p o)) 1 0

  -- an event has few operations, and none where it is not of the plan
  few_of : (i : ℕ) → sum_by (of_event i) (below (op_count p)) ≤ EVENT_OPS
  few_of i =
      elim (cases_lt i (event_count p)) [
        | inl less ↦
            let few = (sum_within (of_event i) (event_at p i).first (event_at p i).count (op_count p) (each less)).1 in
            let most = (valid.numbering.counts i less).1 in
            omega (arith, few, most)
        | inr past ↦
            let few = (sum_within (of_event i) 0 0 (op_count p) (λ o lt. inl (other o (λ same. let home = (valid.numbering.placed o lt).0 in omega (arith, home, same, past))))).1 in
            omega (arith, few)
      ]
    where
      other : (o : ℕ) → (i ≡ event_of p o → ⊥) → of_event i o ≡ 0
      other o apart = cond-false (eqb i (event_of p o)) 1 0 (ne_eqb i (event_of p o) apart)

      each : i < event_count p → (o : ℕ) → o < op_count p → (of_event i o ≡ 0) ⊎ ((of_event i o ≤ 1) × ((event_at p i).first ≤ o) × (o < (event_at p i).first + (event_at p i).count))
      each less o lt =
          elim (cases_eq i (event_of p o)) [
            | inr apart ↦ inl (other o apart)
            | inl same ↦
                let one : of_event i o ≡ 1 = cond-true (eqb i (event_of p o)) 1 0 (eq-eqb i (event_of p o) same) in
                let home = (valid.numbering.placed o lt).1 in
                let from = subst (λ j. (event_at p j).first ≤ o) (sym same) home.from in
                let to = subst (λ j. o < (event_at p j).first + (event_at p j).count) (sym same) home.below in
                inr (omega (arith, one), from, to)
          ]

  -- so each cause stands for few
  few_in : (list : List Left) → sum_by (λ o. count_by (λ (x : Left). eqb x.event (event_of p o)) list) (below (op_count p)) ≤ EVENT_OPS * length list
  few_in list =
      let swapped = sum_swap (λ o (x : Left). of_event x.event o) (below (op_count p)) list in
      let each = sum_by-le (λ (x : Left). sum_by (of_event x.event) (below (op_count p))) EVENT_OPS list (λ k d lt. few_of (get_or list k d).event) in
      omega (arith, swapped, each)

  pub few_left : (c : Core) (v : View) (lists : List (List Left)) → AreCauses p c v lists
      → count_by (λ o. not (is_settled (c.word o).state)) (below (op_count p)) ≤ EVENT_OPS * causes lists
  few_left c v lists are =
      let covered = below_least open_at (λ o. causes_of (event_of p o) lists) (op_count p) covers in
      let swapped = sum_swap (λ o (list : List Left). count_by (λ (x : Left). eqb x.event (event_of p o)) list) (below (op_count p)) lists in
      let each =
      sum_most (λ (list : List Left). sum_by (λ o. count_by (λ (x : Left). eqb x.event (event_of p o)) list) (below (op_count p))) (λ (list : List Left). length list) EVENT_OPS lists
      (λ k list at. few_in list) in
      omega (arith, covered, swapped, each)
    where
      open_at : ℕ → ℕ
      open_at o = cond (not (is_settled (c.word o).state)) 1 0

      covers : (o : ℕ) → o < op_count p → open_at o ≤ causes_of (event_of p o) lists
      covers o lt =
          elim (cases_Bool (is_settled (c.word o).state)) [
            | inl settled ↦ let none : open_at o ≡ 0 = ap (λ t. cond (not t) 1 0) settled in omega (arith, none)
            | inr open_is ↦ let one : open_at o ≡ 1 = ap (λ t. cond (not t) 1 0) open_is in let some = are.some o lt open_is in omega (arith, one, some)
          ]
