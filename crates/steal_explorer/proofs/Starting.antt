-- How operations stand before a lone root begins: those of level 1 were pushed, and the others wait.
use Rattle.std.proofs.Common.{◌≡◌, ◌≢◌, ℕ, zero, suc, ◌+◌, ◌<◌, ◌≤◌, Bool, true, false, cond, eqb, List, [], ◌∷◌, length, get_or, filter, map, refl, sym, ap, ◌∙◌, inl, inr, arith, zero-lt-suc, suc-le-suc}
use Rattle.std.specs.Prelude.{sum_by, slice_index_or}
use Rattle.std.proofs.lemmas.Bool.{false≢true, cases_eq, eq-eqb, ne_eqb}
use Rattle.std.proofs.lemmas.List.Sums.{sum_by-cons}
use Rattle.morph_base.specs.declared.plan.Origin.{Origin}
use Rattle.morph_base.specs.declared.plan.Origin.TheVariants.{Base, Op as Written}
use Rattle.morph_base.specs.declared.plan.Plan.{Plan}
use Rattle.morph_base.specs.declared.word.OpWord.{OpWord}
use Rattle.morph_base.specs.Graphs.{below, greatest, op_level, IsValidPlan}
use Rattle.morph_base.specs.Plans.{op_at, op_count, origins_of}
use Rattle.morph_base.proofs.LevelLaws.{op_level-rises, op_level-range}
use Rattle.morph_base.proofs.OutcomeLaws.{source_precedes}
use Rattle.interleaving_core.specs.Core.{blocked, has_run}
use Rattle.interleaving_core.proofs.Bounds.{sum_below}
use Rattle.op_words.specs.declared.trail.Item.{Item}
use Rattle.op_words.specs.Trails.{last_word, IsSourceOf}
use Rattle.op_words.proofs.Trailing.{last-none}
use Rattle.op_eval.specs.Alone.{Ran, NotBegun}
use Rattle.steal_explorer.specs.Alone.{Stands}
use Rattle.steal_explorer.specs.Dealing.{level_one}
use Rattle.steal_explorer.specs.HandingOut.{is_one}
use Rattle.steal_explorer.proofs.Counting.{same_is, other_is}
use Rattle.steal_explorer.proofs.Depending.{origin_source}

-- ---- how often an operation was dealt

sum_filter : (f : ℕ → ℕ) (t : ℕ → Bool) (xs : List ℕ) → sum_by f (filter t xs) ≡ sum_by (λ x. cond (t x) (f x) 0) xs
sum_filter f t [] = refl
sum_filter f t (x ∷ xs) = at (t x) (sum_filter f t xs) ∙ sym (sum_by-cons (λ y. cond (t y) (f y) 0) x xs)
  where
    at : (b : Bool) → sum_by f (filter t xs) ≡ sum_by (λ y. cond (t y) (f y) 0) xs → sum_by f (cond b (x ∷ filter t xs) (filter t xs)) ≡ cond b (f x) 0 + sum_by (λ y. cond (t y) (f y) 0) xs
    at true rest = sum_by-cons f x (filter t xs) ∙ ap (λ n. f x + n) rest
    at false rest = let e = rest in omega arith

module _ (t : ℕ → Bool) (o : ℕ) where
  abbrev kept : ℕ → ℕ
  kept x = cond (t x) (is_one o x) 0

  none_of : (b : Bool) → cond {A = ℕ} b 0 0 ≡ 0
  none_of true = refl
  none_of false = refl

  kept_other : (x : ℕ) → x ≢ o → kept x ≡ 0
  kept_other x other = ap (λ n. cond (t x) n 0) (other_is o x other) ∙ none_of (t x)

  kept_under : (n : ℕ) → n ≤ o → sum_by kept (below n) ≡ 0
  kept_under zero le = refl
  kept_under (suc n) le =
      let a : sum_by kept (below (suc n)) ≡ sum_by kept (below n) + kept n = sum_below kept n in
      let b : kept n ≡ 0 = kept_other n (λ e. absurd (omega arith)) in
      let c = kept_under n (omega arith) in
      omega arith

  kept_past : (n : ℕ) → o < n → sum_by kept (below n) ≡ cond (t o) 1 0
  kept_past zero lt = absurd (omega arith)
  kept_past (suc n) lt =
      let a : sum_by kept (below (suc n)) ≡ sum_by kept (below n) + kept n = sum_below kept n in
      elim (cases_eq n o) [
        | inl same ↦
            let b : kept n ≡ cond (t o) 1 0 = ap kept same ∙ ap (λ k. cond (t o) k 0) (same_is o) in
            let c = kept_under n (omega arith) in
            omega arith
        | inr other ↦
            let b : kept n ≡ 0 = kept_other n other in
            let c = kept_past n (omega arith) in
            omega arith
      ]

dealt_times : (p : Plan) (o : ℕ) → o < op_count p → sum_by (is_one o) (level_one p) ≡ cond (eqb (op_at p o).level 1) 1 0
dealt_times p o lt = sum_filter (is_one o) (λ k. eqb (op_at p k).level 1) (below (op_count p)) ∙ kept_past (λ k. eqb (op_at p k).level 1) o (op_count p) lt

-- ---- level 1 has no sources

greatest_none : {X : Type 0} (f : X → ℕ) (xs : List X) → ((j : ℕ) (d : X) → j < length xs → f (get_or xs j d) ≡ 0) → greatest (map f xs) ≡ 0
greatest_none f [] none = refl
greatest_none f (x ∷ xs) none =
    let here : f x ≡ 0 = none 0 x (zero-lt-suc (length xs)) in
    let rest : greatest (map f xs) ≡ 0 = greatest_none f xs (λ j d lt. none (suc j) d (suc-le-suc lt)) in
    omega arith

module _ (p : Plan) (valid : IsValidPlan p) (o : ℕ) (lt : o < op_count p) where
  without_sources : ((s : ℕ) → IsSourceOf p o s → ⊥) → (op_at p o).level ≡ 1
  without_sources none =
      let is : (op_at p o).level ≡ 1 + greatest (map (op_level p) (origins_of p o)) = valid.graph.op_level_is o lt in
      let low : greatest (map (op_level p) (origins_of p o)) ≡ 0 = greatest_none (op_level p) (origins_of p o) (λ j d inside. at j d inside (get_or (origins_of p o) j d) refl) in
      omega arith
    where
      at : (j : ℕ) (d : Origin) → j < length (origins_of p o) → (q : Origin) → get_or (origins_of p o) j d ≡ q → op_level p q ≡ 0
      at j d inside (Base v) same = refl
      at j d inside (Written s) same = absurd (none s (origin_source p valid.plan o lt j d s inside same))

  no_sources : (op_at p o).level ≡ 1 → (s : ℕ) → IsSourceOf p o s → ⊥
  no_sources first s source =
      let rises : (op_at p s).level < (op_at p o).level = op_level-rises p valid.plan valid.graph o source.place s lt source.in_places source.source_is in
      let inside = (source_precedes p o source.place s valid.plan lt source.in_places source.source_is).in_range in
      let some : 0 < (op_at p s).level = (op_level-range p valid.plan valid.graph s inside).0 in
      absurd (omega arith)

  module _ (t : List Item) (fresh : t ≡ []) (pushed : List ℕ) (dealt : sum_by (is_one o) pushed ≡ sum_by (is_one o) (level_one p)) where
    not_begun : (k : ℕ) → NotBegun t k
    not_begun k = ap (last_word k (blocked 1)) fresh ∙ last-none k (blocked 1)

    none_ran : (k : ℕ) → Ran t k → ⊥
    none_ran k ran = false≢true (sym (ap (λ (w : OpWord). has_run w.state) (not_begun k)) ∙ ran.0)

    pub starts : Stands p [] t pushed o
    starts =
        elim (cases_eq (op_at p o).level 1) [
          | inl first ↦
              inr
              (inl
              (record {
                due = λ s source. absurd (no_sources first s source);
                once = dealt ∙ dealt_times p o lt ∙ ap (λ b. cond b 1 0) (eq-eqb (op_at p o).level 1 first);
                word = inr (not_begun o, no_sources first);
              }))
          | inr later ↦
              inl
              (record {
                fresh = not_begun o;
                unpushed = dealt ∙ dealt_times p o lt ∙ ap (λ b. cond b 1 0) (ne_eqb (op_at p o).level 1 later);
                asked = λ due. absurd (later (without_sources (λ s source. none_ran s (due s source))));
              })
        ]

-- one deque has all that was dealt
pub single_sum : {X : Type 0} (f : X → ℕ) (xs : List X) (d : X) → length xs ≡ 1 → sum_by f xs ≡ f (slice_index_or xs 0 d)
single_sum f [] d single = absurd (omega arith)
single_sum f (x ∷ []) d single = let e : sum_by f (x ∷ []) ≡ f x + 0 = sum_by-cons f x [] in omega arith
single_sum f (x ∷ y ∷ ys) d single = absurd (omega arith)
