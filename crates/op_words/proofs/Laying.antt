-- One word of the row changes, in the table as in the machine.
use Rattle.std.proofs.Common.{◌≡◌, ◌≢◌, ◌⊎◌, ℕ, ◌+◌, ◌<◌, List, length, get_or, set, sym, ap, ◌∙◌, subst, inl, inr, arith, Option, length-set, get_or-set_same}
use Rattle.std.specs.Prelude.{sum_by}
use Rattle.std.specs.List.{range_with_len}
use Rattle.std.proofs.lemmas.Bool.{cases_eq}
use Rattle.morph_base.specs.declared.plan.Plan.{Plan}
use Rattle.morph_base.specs.declared.word.OpWord.{OpWord}
use Rattle.morph_base.specs.Words.{packed}
use Rattle.morph_base.specs.Plans.{op_count}
use Rattle.interleaving_core.specs.declared.entry.Record.{Record}
use Rattle.interleaving_core.specs.Core.{Core, places, put}
use Rattle.interleaving_core.proofs.Basics.{put_here, put_else}
use Rattle.op_words.specs.declared.trail.View.{View}
use Rattle.op_words.specs.Layout.{Shows, record_index, decision_base, counter_base, packed_record, packed_decision}
use Rattle.op_words.specs.Rule.{HasNumbers}
use Rattle.op_words.proofs.Rows.{set_apart}
use Rattle.op_words.proofs.RecordPlaces.{record_before, one_record}

pub numbers_put : {p : Plan} {counters : ℕ} {vs : List (Option View)} (ws : List ℕ) (i a : ℕ) → i < counter_base p → HasNumbers p counters ws vs → HasNumbers p counters (set ws i a) vs
numbers_put {p} {counters} {vs} ws i a lt numbers = record {
  each = λ k below h. numbers.each k below h ∙ ap (λ (n : ℕ). sum_by h (range_with_len 0 n)) (sym (set_apart ws i (counter_base p + k) a (λ e. omega (arith, e, lt))));
}

module _ {p : Plan} {counters : ℕ} {c : Core} (ws : List ℕ) (shows : Shows p counters c ws) where
  module _ (o : ℕ) (lt : o < op_count p) where
    pub op_inside : o < length ws
    op_inside = let l = shows.long in omega (arith, l, lt)

    pub op_below : o < counter_base p
    op_below = omega (arith, lt)

    pub record_below : (j : ℕ) → j < places p o → record_index p o j < decision_base p
    record_below j few = record_before p o j lt few

    pub record_inside : (j : ℕ) → j < places p o → record_index p o j < length ws
    record_inside j few = let l = shows.long in let b = record_below j few in omega (arith, l, b)

    module _ {d : Core} (w : OpWord) (words : (j : ℕ) → d.word j ≡ put c.word o w j) (records : (q j : ℕ) → d.recorded q j ≡ c.recorded q j) (decisions : (j : ℕ) → d.decision j ≡ c.decision j) where
      pub shows_word : Shows p counters d (set ws o (packed w))
      shows_word = record {
        long = length-set ws o (packed w) ∙ shows.long;
        ops = λ j below.
            elim (cases_eq o j) [
              | inl same ↦ subst (λ k. get_or (set ws o (packed w)) k 0 ≡ packed (d.word k)) same (get_or-set_same ws o (packed w) 0 op_inside ∙ sym (ap packed (words o ∙ put_here c.word o w)))
              | inr other ↦ set_apart ws o j (packed w) (λ e. other (sym e)) ∙ shows.ops j below ∙ sym (ap packed (words j ∙ put_else c.word o w j (λ e. other (sym e))))
            ];
        records = λ q j below few. set_apart ws o (record_index p q j) (packed w) (λ e. omega (arith, e, lt)) ∙ shows.records q j below few ∙ sym (ap packed_record (records q j));
        decisions = λ j below. set_apart ws o (decision_base p + j) (packed w) (λ e. omega (arith, e, lt)) ∙ shows.decisions j below ∙ sym (ap packed_decision (decisions j));
      }

    module _ (d : Core) (j : ℕ) (few : j < places p o) (r : Option Record) (words : (q : ℕ) → d.word q ≡ c.word q) (records : (q k : ℕ) → d.recorded q k ≡ put c.recorded o (put (c.recorded o) j r) q k)
        (decisions : (i : ℕ) → d.decision i ≡ c.decision i) where
      at_here : d.recorded o j ≡ r
      at_here = records o j ∙ ap (λ (f : ℕ → Option Record). f j) (put_here c.recorded o (put (c.recorded o) j r)) ∙ put_here (c.recorded o) j r

      at_place : (k : ℕ) → k ≢ j → d.recorded o k ≡ c.recorded o k
      at_place k other = records o k ∙ ap (λ (f : ℕ → Option Record). f k) (put_here c.recorded o (put (c.recorded o) j r)) ∙ put_else (c.recorded o) j r k other

      at_else : (q k : ℕ) → q ≢ o → d.recorded q k ≡ c.recorded q k
      at_else q k other = records q k ∙ ap (λ (f : ℕ → Option Record). f k) (put_else c.recorded o (put (c.recorded o) j r) q other)

      record_at : (q k : ℕ) → q < op_count p → k < places p q → ((q ≡ o) × (k ≡ j)) ⊎ ((record_index p q k ≢ record_index p o j) × (d.recorded q k ≡ c.recorded q k)) → get_or (set ws (record_index p o j) (packed_record r)) (record_index p q k) 0 ≡ packed_record (d.recorded q k)
      record_at q k below small which =
          elim which [
            | inl same ↦
                subst (λ (z : ℕ × ℕ). get_or (set ws (record_index p o j) (packed_record r)) (record_index p z.0 z.1) 0 ≡ packed_record (d.recorded z.0 z.1)) (λ a. (sym same.0 a, sym same.1 a))
                (get_or-set_same ws (record_index p o j) (packed_record r) 0 (record_inside j few) ∙ sym (ap packed_record at_here))
            | inr apart ↦ set_apart ws (record_index p o j) (record_index p q k) (packed_record r) apart.0 ∙ shows.records q k below small ∙ sym (ap packed_record apart.1)
          ]

      which_record : (q k : ℕ) → q < op_count p → k < places p q → ((q ≡ o) × (k ≡ j)) ⊎ ((record_index p q k ≢ record_index p o j) × (d.recorded q k ≡ c.recorded q k))
      which_record q k below small =
          elim (cases_eq q o) [
            | inr other ↦ inr ((λ e. other (one_record p q k o j below small lt few e).0), at_else q k other)
            | inl same ↦
                elim (cases_eq k j) [
                  | inl place ↦ inl (same, place)
                  | inr other ↦ inr ((λ e. other (one_record p q k o j below small lt few e).1), ap (λ n. d.recorded n k) same ∙ at_place k other ∙ ap (λ n. c.recorded n k) (sym same))
                ]
          ]

      pub shows_record : Shows p counters d (set ws (record_index p o j) (packed_record r))
      shows_record = record {
        long = length-set ws (record_index p o j) (packed_record r) ∙ shows.long;
        ops = λ q below. set_apart ws (record_index p o j) q (packed_record r) (λ e. omega (arith, e, below)) ∙ shows.ops q below ∙ sym (ap packed (words q));
        records = λ q k below small. record_at q k below small (which_record q k below small);
        decisions = λ i below. let b = record_below j few in
            set_apart ws (record_index p o j) (decision_base p + i) (packed_record r) (λ e. omega (arith, e, b)) ∙ shows.decisions i below ∙ sym (ap packed_decision (decisions i));
      }
