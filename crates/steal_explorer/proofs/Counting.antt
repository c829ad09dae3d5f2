-- Items by their numbers: where none stands twice they are few, and where each number stands once they weigh as all numbers do.
use Rattle.std.proofs.Common.{◌≡◌, ◌≢◌, ◌⊎◌, ℕ, zero, suc, ◌+◌, ◌*◌, ◌<◌, ◌≤◌, cond, List, [], ◌∷◌, length, refl, sym, ap, ◌∙◌, inl, inr, arith}
use Rattle.std.specs.Prelude.{All, sum_by, nat_lt}
use Rattle.std.proofs.lemmas.Bool.{cases_eq}
use Rattle.std.proofs.lemmas.List.Elements.{All-head, All-tail}
use Rattle.std.proofs.lemmas.List.Sums.{sum_by-cons}
use Rattle.morph_base.specs.Graphs.{below}
use Rattle.interleaving_core.proofs.Bounds.{sum_below}
use Rattle.steal_explorer.specs.Handing.{one}
use Rattle.steal_explorer.specs.HandingOut.{is_one}

-- how an item weighs where it is below n
abbrev upto : (ℕ → ℕ) → ℕ → ℕ → ℕ
upto h n x = cond (nat_lt x n) (h x) 0

below_is : (n x v : ℕ) → x < n → cond (nat_lt x n) v 0 ≡ v
below_is n x v lt = grind arith

past_is : (n x v : ℕ) → n ≤ x → cond (nat_lt x n) v 0 ≡ 0
past_is n x v le = grind arith

pub same_is : (n : ℕ) → is_one n n ≡ 1
same_is n = grind arith

pub other_is : (n x : ℕ) → x ≢ n → is_one n x ≡ 0
other_is n x other = grind arith

order : (n x : ℕ) → (x < n) ⊎ ((x ≡ n) ⊎ (n < x))
order n x = grind arith

upto_more : (h : ℕ → ℕ) (n x : ℕ) → upto h (suc n) x ≡ upto h n x + h n * is_one n x
upto_more h n x =
    elim (order n x) [
      | inl lt ↦
          let a : upto h (suc n) x ≡ h x = below_is (suc n) x (h x) (omega arith) in
          let b : upto h n x ≡ h x = below_is n x (h x) lt in
          let c : is_one n x ≡ 0 = other_is n x (λ e. absurd (omega arith)) in
          let d : h n * is_one n x ≡ h n * 0 = ap (λ k. h n * k) c in
          omega arith
      | inr more ↦
          elim more [
            | inl same ↦
                let a : upto h (suc n) x ≡ h x = below_is (suc n) x (h x) (omega arith) in
                let b : upto h n x ≡ 0 = past_is n x (h x) (omega arith) in
                let c : is_one n x ≡ 1 = ap (is_one n) same ∙ same_is n in
                let d : h n * is_one n x ≡ h n * 1 = ap (λ k. h n * k) c in
                let e : h x ≡ h n = ap h same in
                omega arith
            | inr past ↦
                let a : upto h (suc n) x ≡ 0 = past_is (suc n) x (h x) (omega arith) in
                let b : upto h n x ≡ 0 = past_is n x (h x) (omega arith) in
                let c : is_one n x ≡ 0 = other_is n x (λ e. absurd (omega arith)) in
                let d : h n * is_one n x ≡ h n * 0 = ap (λ k. h n * k) c in
                omega arith
          ]
    ]

module _ (h : ℕ → ℕ) where
  sum_upto : (n : ℕ) (xs : List ℕ) → sum_by (upto h (suc n)) xs ≡ sum_by (upto h n) xs + h n * sum_by (is_one n) xs
  sum_upto n [] = omega arith
  sum_upto n (x ∷ xs) =
      let a : sum_by (upto h (suc n)) (x ∷ xs) ≡ upto h (suc n) x + sum_by (upto h (suc n)) xs = sum_by-cons (upto h (suc n)) x xs in
      let b : sum_by (upto h n) (x ∷ xs) ≡ upto h n x + sum_by (upto h n) xs = sum_by-cons (upto h n) x xs in
      let c : h n * sum_by (is_one n) (x ∷ xs) ≡ h n * (is_one n x + sum_by (is_one n) xs) = ap (λ k. h n * k) (sum_by-cons (is_one n) x xs) in
      let here = upto_more h n x in
      let rest : sum_by (upto h (suc n)) xs ≡ sum_by (upto h n) xs + h n * sum_by (is_one n) xs = sum_upto n xs in
      omega arith

  none_below : (xs : List ℕ) → sum_by (upto h 0) xs ≡ 0
  none_below [] = refl
  none_below (x ∷ xs) =
      let a : sum_by (upto h 0) (x ∷ xs) ≡ upto h 0 x + sum_by (upto h 0) xs = sum_by-cons (upto h 0) x xs in
      let b : upto h 0 x ≡ 0 = past_is 0 x (h x) (omega arith) in
      let rest = none_below xs in
      omega arith

  all_below : (n : ℕ) (xs : List ℕ) → All (λ x. x < n) xs → sum_by (upto h n) xs ≡ sum_by h xs
  all_below n [] inside = refl
  all_below n (x ∷ xs) inside =
      let a : sum_by (upto h n) (x ∷ xs) ≡ upto h n x + sum_by (upto h n) xs = sum_by-cons (upto h n) x xs in
      let b : sum_by h (x ∷ xs) ≡ h x + sum_by h xs = sum_by-cons h x xs in
      let c : upto h n x ≡ h x = below_is n x (h x) (All-head (λ y. y < n) x xs inside) in
      let rest : sum_by (upto h n) xs ≡ sum_by h xs = all_below n xs (All-tail (λ y. y < n) x xs inside) in
      omega arith

  each_below : (n : ℕ) (xs : List ℕ) → ((o : ℕ) → o < n → sum_by (is_one o) xs ≡ 1) → sum_by (upto h n) xs ≡ sum_by h (below n)
  each_below zero xs once = none_below xs
  each_below (suc n) xs once =
      let a : sum_by (upto h (suc n)) xs ≡ sum_by (upto h n) xs + h n * sum_by (is_one n) xs = sum_upto n xs in
      let b : h n * sum_by (is_one n) xs ≡ h n * 1 = ap (λ k. h n * k) (once n (omega arith)) in
      let c : sum_by h (below (suc n)) ≡ sum_by h (below n) + h n = sum_below h n in
      let rest : sum_by (upto h n) xs ≡ sum_by h (below n) = each_below n xs (λ o lt. once o (omega arith)) in
      omega arith

  pub each_once : (n : ℕ) (xs : List ℕ) → All (λ x. x < n) xs → ((o : ℕ) → o < n → sum_by (is_one o) xs ≡ 1) → sum_by h xs ≡ sum_by h (below n)
  each_once n xs inside once = sym (all_below n xs inside) ∙ each_below n xs once

-- ---- few

pub many_ones : (xs : List ℕ) → sum_by one xs ≡ length xs
many_ones [] = refl
many_ones (x ∷ xs) = let a : sum_by one (x ∷ xs) ≡ 1 + sum_by one xs = sum_by-cons one x xs in let rest = many_ones xs in omega arith

few_below : (n : ℕ) (xs : List ℕ) → ((o : ℕ) → o < n → sum_by (is_one o) xs ≤ 1) → sum_by (upto one n) xs ≤ n
few_below zero xs few = let none : sum_by (upto one 0) xs ≡ 0 = none_below one xs in omega arith
few_below (suc n) xs few =
    let a : sum_by (upto one (suc n)) xs ≡ sum_by (upto one n) xs + 1 * sum_by (is_one n) xs = sum_upto one n xs in
    let here : sum_by (is_one n) xs ≤ 1 = few n (omega arith) in
    let rest = few_below n xs (λ o lt. few o (omega arith)) in
    omega arith

fewer_below : (n d : ℕ) (xs : List ℕ) → d < n → ((o : ℕ) → o < n → sum_by (is_one o) xs ≤ 1) → sum_by (is_one d) xs ≡ 0 → sum_by (upto one n) xs < n
fewer_below zero d xs lt few none = absurd (omega arith)
fewer_below (suc n) d xs lt few none =
    let a : sum_by (upto one (suc n)) xs ≡ sum_by (upto one n) xs + 1 * sum_by (is_one n) xs = sum_upto one n xs in
    elim (cases_eq d n) [
      | inl same ↦
          let here : sum_by (is_one n) xs ≡ 0 = sym (ap (λ k. sum_by (is_one k) xs) same) ∙ none in
          let rest = few_below n xs (λ o lt. few o (omega arith)) in
          omega arith
      | inr other ↦
          let here : sum_by (is_one n) xs ≤ 1 = few n (omega arith) in
          let rest = fewer_below n d xs (omega arith) (λ o lt. few o (omega arith)) none in
          omega arith
    ]

-- where no number stands twice, there are no more items than numbers, and fewer where one is not there
pub few_items : (n : ℕ) (xs : List ℕ) → All (λ x. x < n) xs → ((o : ℕ) → o < n → sum_by (is_one o) xs ≤ 1) → length xs ≤ n
few_items n xs inside few =
    let a : sum_by (upto one n) xs ≡ sum_by one xs = all_below one n xs inside in
    let b = many_ones xs in
    let c = few_below n xs few in
    omega arith

pub fewer_items : (n d : ℕ) (xs : List ℕ) → All (λ x. x < n) xs → d < n → ((o : ℕ) → o < n → sum_by (is_one o) xs ≤ 1) → sum_by (is_one d) xs ≡ 0 → length xs < n
fewer_items n d xs inside lt few none =
    let a : sum_by (upto one n) xs ≡ sum_by one xs = all_below one n xs inside in
    let b = many_ones xs in
    let c = fewer_below n d xs lt few none in
    omega arith
