-- Targets at places: the places of one operation from one on, and those of all operations.
use Rattle.std.proofs.Common.{◌≡◌, ℕ, zero, suc, ◌+◌, ◌-◌, ◌<◌, ◌≤◌, true, false, List, [], ◌∷◌, ◌++◌, map, refl, sym, ap, ◌∙◌, inl, inr, arith, Some, None}
use Rattle.std.specs.Prelude.{filter}
use Rattle.std.specs.List.{range_with_len, flat_map}
use Rattle.std.proofs.lemmas.Bool.{false≢true, cond-true, cond-false, cases_Bool, cases_eq}
use Rattle.morph_base.specs.declared.plan.Plan.{Plan}
use Rattle.morph_base.specs.Plans.{origin_at}
use Rattle.interleaving_core.specs.Core.{places}
use Rattle.abort_eager.specs.declared.answers.Target.{Target}
use Rattle.abort_eager.specs.declared.answers.Target.TheVariants.{RollBack}
use Rattle.abort_eager.specs.Targets.{is_among, place_targets, reader_targets}
use Rattle.abort_eager.specs.Finding.{IsFirstPlace}

cons_not_nil : (t : Target) (ts : List Target) → (t ∷ ts) ≡ [] → ⊥
cons_not_nil t ts e = cc

module _ (p : Plan) (first end : ℕ) where
  place_here : (q j n : ℕ) → j < n → is_among first end (origin_at p q j) ≡ true
      → place_targets p first end q j (n - j) ≡ RollBack q j ∷ place_targets p first end q (j + 1) (n - (j + 1))
  unfolding place_targets
  place_here q j n lt is =
      let e : n - j ≡ suc (n - (j + 1)) = omega arith in
      ap (λ m. map (λ k. RollBack q k) (filter (λ k. is_among first end (origin_at p q k)) (range_with_len j m))) e
      ∙ ap (map (λ k. RollBack q k)) (cond-true (is_among first end (origin_at p q j)) _ _ is)

  pub place_over : (q j n : ℕ) → j < n → is_among first end (origin_at p q j) ≡ false → place_targets p first end q j (n - j) ≡ place_targets p first end q (j + 1) (n - (j + 1))
  unfolding place_targets
  place_over q j n lt is =
      let e : n - j ≡ suc (n - (j + 1)) = omega arith in
      ap (λ m. map (λ k. RollBack q k) (filter (λ k. is_among first end (origin_at p q k)) (range_with_len j m))) e
      ∙ ap (map (λ k. RollBack q k)) (cond-false (is_among first end (origin_at p q j)) _ _ is)

  place_end : (q j n : ℕ) → n ≤ j → place_targets p first end q j (n - j) ≡ []
  unfolding place_targets
  place_end q j n le =
      let e : n - j ≡ 0 = omega arith in
      ap (λ m. map (λ k. RollBack q k) (filter (λ k. is_among first end (origin_at p q k)) (range_with_len j m))) e

  -- no place reads from them; and one does
  pub places_none : (q j m : ℕ) → ((i : ℕ) → j ≤ i → i < j + m → is_among first end (origin_at p q i) ≡ false) → place_targets p first end q j m ≡ []
  unfolding place_targets
  places_none q j zero none = refl
  places_none q j (suc m) none =
      ap (map (λ k. RollBack q k)) (cond-false (is_among first end (origin_at p q j)) _ _ (none j (omega arith) (omega arith)))
      ∙ places_none q (j + 1) m (λ i low high. none i (omega arith) (omega arith))

  pub places_some : (q j m i : ℕ) → j ≤ i → i < j + m → is_among first end (origin_at p q i) ≡ true → place_targets p first end q j m ≡ [] → ⊥
  unfolding place_targets
  places_some q j zero i low high is e = omega arith
  places_some q j (suc m) i low high is e =
      elim (cases_Bool (is_among first end (origin_at p q j))) [
        | inl here ↦ cons_not_nil (RollBack q j) _ (sym (ap (map (λ k. RollBack q k)) (cond-true (is_among first end (origin_at p q j)) _ _ here)) ∙ e)
        | inr over ↦
            places_some q (j + 1) m i (at_later over) (omega arith) is
            (sym (ap (map (λ k. RollBack q k)) (cond-false (is_among first end (origin_at p q j)) _ _ over)) ∙ e)
      ]
    where
      at_later : is_among first end (origin_at p q j) ≡ false → j + 1 ≤ i
      at_later over =
          elim (cases_eq j i) [
            | inl same ↦ absurd (false≢true (sym over ∙ ap (λ k. is_among first end (origin_at p q k)) same ∙ is))
            | inr other ↦ omega arith
          ]

  -- ---- the targets of one operation after another

  pub readers_first : (q n : ℕ) → q < n → reader_targets p first end q (n - q) ≡ place_targets p first end q 0 (places p q) ++ reader_targets p first end (q + 1) (n - (q + 1))
  unfolding reader_targets
  readers_first q n lt =
      let e : n - q ≡ suc (n - (q + 1)) = omega arith in
      ap (λ m. flat_map (λ t. place_targets p first end t 0 (places p t)) (range_with_len q m)) e

  pub readers_over : (d q n : ℕ) → q + d ≤ n → ((t : ℕ) → q ≤ t → t < q + d → place_targets p first end t 0 (places p t) ≡ [])
      → reader_targets p first end q (n - q) ≡ reader_targets p first end (q + d) (n - (q + d))
  readers_over zero q n le none = let e : q ≡ q + 0 = omega arith in ap (λ k. reader_targets p first end k (n - k)) e
  readers_over (suc d) q n le none =
      let e : q + 1 + d ≡ q + suc d = omega arith in
      readers_first q n (omega arith)
      ∙ ap (λ ts. ts ++ reader_targets p first end (q + 1) (n - (q + 1))) (none q (omega arith) (omega arith))
      ∙ readers_over d (q + 1) n (omega arith) (λ t low high. none t (omega arith) (omega arith))
      ∙ ap (λ k. reader_targets p first end k (n - k)) e

  pub readers_end : (q n : ℕ) → n ≤ q → reader_targets p first end q (n - q) ≡ []
  unfolding reader_targets
  readers_end q n le =
      let e : n - q ≡ 0 = omega arith in
      ap (λ m. flat_map (λ t. place_targets p first end t 0 (places p t)) (range_with_len q m)) e

  -- ---- the first place, where all before j were looked at

  module _ (q from j n : ℕ) (same : n ≡ places p q) (looked : place_targets p first end q from (n - from) ≡ place_targets p first end q j (n - j)) where
    pub found_place : n < 256 → j < n → is_among first end (origin_at p q j) ≡ true → IsFirstPlace p first end q from (Some j)
    found_place small lt is = (
      omega arith,
      omega arith,
      ap (λ m. place_targets p first end q from (m - from)) (sym same)
          ∙ looked
          ∙ place_here q j n lt is
          ∙ ap (λ m. RollBack q j ∷ place_targets p first end q (j + 1) (m - (j + 1))) same,
    )

    pub no_place : n ≤ j → IsFirstPlace p first end q from None
    no_place high = ap (λ m. place_targets p first end q from (m - from)) (sym same) ∙ looked ∙ place_end q j n high
