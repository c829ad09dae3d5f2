-- The last number that passes a test, and one item more that is put at its place.
use Rattle.std.proofs.Common.{◌≡◌, ℕ, zero, suc, ◌+◌, ◌<◌, ◌≤◌, Bool, true, false, cond, eqb, List, length, get_or, set, zero-le, refl, sym, ap, ◌∙◌, inl, inr, add-one, eq-eqb, arith}
use Rattle.std.proofs.lemmas.Bool.{cases_lt, cases_eq, cond_both, ne_eqb, true≢false}
use Rattle.std.proofs.lemmas.List.{get_or-set_same, get_or-set_other, length-set}
use Rattle.morph_base.specs.Links.{last_passing, AreEnds, AreLinked}

module _ (test : ℕ → Bool) where
  pub last_passing-none : (n : ℕ) → n ≡ 0 → last_passing test n ≡ 0
  unfolding last_passing
  last_passing-none n none = ap (last_passing test) none

  pub last_passing-here : (n : ℕ) → test n ≡ true → last_passing test (n + 1) ≡ n + 1
  unfolding last_passing
  last_passing-here n passes =
      ap (last_passing test) (add-one n) ∙ ap (λ b. cond b (suc n) (last_passing test n)) passes ∙ sym (add-one n)

  pub last_passing-skip : (n : ℕ) → test n ≡ false → last_passing test (n + 1) ≡ last_passing test n
  unfolding last_passing
  last_passing-skip n fails =
      ap (last_passing test) (add-one n) ∙ ap (λ b. cond b (suc n) (last_passing test n)) fails

  pub last_passing-le : (n : ℕ) → last_passing test n ≤ n
  unfolding last_passing
  last_passing-le zero = zero-le
  last_passing-le (suc n) =
      let low = last_passing-le n in
      cond_both (test n) (suc n) (last_passing test n) (λ m. m ≤ suc n) (λ _. omega arith) (λ _. omega arith)

  -- it does pass
  pub last_passing-passes : (n m : ℕ) → last_passing test n ≡ m + 1 → test m ≡ true
  unfolding last_passing
  last_passing-passes zero m is = absurd (omega arith)
  last_passing-passes (suc n) m is =
      cond_both (test n) (suc n) (last_passing test n) (λ k. k ≡ m + 1 → test m ≡ true) (λ passes e. (let same : m ≡ n = omega arith in ap test same ∙ passes)) (λ _ e. last_passing-passes n m e) is

  -- and no later one does
  pub last_passing-last : (n m : ℕ) → m < n → test m ≡ true → m < last_passing test n
  unfolding last_passing
  last_passing-last zero m lt passes = absurd (omega arith)
  last_passing-last (suc n) m lt passes =
      cond_both (test n) (suc n) (last_passing test n) (λ k. m < k) (λ _. omega arith)
      (λ fails.
      elim (cases_eq m n) [
        | inl same ↦ absurd (true≢false (sym passes ∙ ap test same ∙ fails))
        | inr other ↦ last_passing-last n m (omega arith) passes
      ])

module _ (p q : ℕ → Bool) where
  not_either : (a b : Bool) → (a ≡ true → b ≡ true) → b ≡ false → a ≡ false
  not_either true b too fails = absurd (true≢false (sym (too refl) ∙ fails))
  not_either false b too fails = refl

  -- where what passes p passes q too, the last that passes p is looked for up to the last that passes q
  pub last_passing-last_passing : ((o : ℕ) → p o ≡ true → q o ≡ true) → (n : ℕ) → last_passing p n ≡ last_passing p (last_passing q n)
  unfolding last_passing
  last_passing-last_passing too zero = refl
  last_passing-last_passing too (suc n) =
      cond_both (q n) (suc n) (last_passing q n) (λ k. cond (p n) (suc n) (last_passing p n) ≡ last_passing p k) (λ _. refl)
      (λ fails. ap (λ b. cond b (suc n) (last_passing p n)) (not_either (p n) (q n) (too n) fails) ∙ last_passing-last_passing too n)

  pub last_passing-same : (n : ℕ) → ((o : ℕ) → o < n → p o ≡ q o) → last_passing p n ≡ last_passing q n
  unfolding last_passing
  last_passing-same zero same = refl
  last_passing-same (suc n) same =
      ap (λ b. cond b (suc n) (last_passing p n)) (same n (omega arith)) ∙ ap (λ k. cond (q n) (suc n) k) (last_passing-same n (λ o lt. same o (omega arith)))

-- ---- one item more, behind n that stay
module _ {X : Type 0} (old new : ℕ → X) (n : ℕ) (same : (i : ℕ) → i < n → new i ≡ old i) where
  pub last_passing-stays : (test : X → Bool) (m : ℕ) → m ≤ n → last_passing (λ i. test (new i)) m ≡ last_passing (λ i. test (old i)) m
  last_passing-stays test m le = last_passing-same (λ i. test (new i)) (λ i. test (old i)) m (λ i lt. ap test (same i (omega arith)))

  -- what the new item is to a test, and what that leaves
  pub last_passing-next : (test : X → Bool) (b : Bool) → test (new n) ≡ b → last_passing (λ i. test (new i)) (n + 1) ≡ cond b (n + 1) (last_passing (λ i. test (old i)) n)
  last_passing-next test true is = last_passing-here (λ i. test (new i)) n is
  last_passing-next test false is =
      last_passing-skip (λ i. test (new i)) n is ∙ last_passing-stays test n (omega arith)

module _ (old new : ℕ → ℕ) (n : ℕ) (same : (i : ℕ) → i < n → new i ≡ old i) where
  pub ends-next : (ends : List ℕ) (here m : ℕ) → here ≡ new n → m ≡ n + 1 → here < length ends → AreEnds old n ends → AreEnds new (n + 1) (set ends here m)
  ends-next ends here m is next inside ended q lt =
      elim (cases_eq q here) [
        | inl at ↦
            ap (λ i. get_or (set ends here m) i 0) at ∙ get_or-set_same ends here m 0 inside ∙ next
            ∙ sym (last_passing-next old new n same (λ x. eqb x q) true (eq-eqb (new n) q (sym is ∙ sym at)))
        | inr other ↦
            let long : length (set ends here m) ≡ length ends = length-set ends here m in
            get_or-set_other ends here q m 0 other ∙ ended q (omega arith)
            ∙ sym (last_passing-next old new n same (λ x. eqb x q) false (ne_eqb (new n) q (λ at. other (sym (is ∙ at)))))
      ]

  pub linked-next : (before after : ℕ → ℕ) → ((i : ℕ) → i < n → after i ≡ before i) → after n ≡ last_passing (λ k. eqb (old k) (new n)) n → AreLinked old n before → AreLinked new (n + 1) after
  linked-next before after stays last linked i lt =
      elim (cases_lt i n) [
        | inl earlier ↦
            stays i earlier ∙ linked i earlier
            ∙ sym (last_passing-stays old new n same (λ x. eqb x (new i)) i (omega arith) ∙ ap (λ x. last_passing (λ k. eqb (old k) x) i) (same i earlier))
        | inr more ↦
            let at : i ≡ n = omega arith in
            ap after at ∙ last ∙ ap (λ k. last_passing (λ j. eqb (old j) (new n)) k) (sym at)
            ∙ ap (λ k. last_passing (λ j. eqb (old j) (new k)) i) (sym at)
            ∙ sym (last_passing-stays old new n same (λ x. eqb x (new i)) i (omega arith))
      ]
