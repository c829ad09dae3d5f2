-- Lists that rise by a number of their elements: there is one rising order of elements whose numbers differ.
use Rattle.std.proofs.Common.{◌≡◌, ℕ, zero, suc, ◌<◌, ◌≤◌, ◌≢◌, ◌⊎◌, inl, inr, false, List, [], ◌∷◌, length, map, get_or, refl, sym, ◌∙◌, ap, arith, All, Contains, nat_eq}
use Rattle.std.specs.List.{IsDistinct}
use Rattle.std.specs.List.Sorted.{IsPermutation, IsNonDecreasingBy}
use Rattle.std.proofs.lemmas.List.Elements.{All-head, All-tail, All-contains, Contains-get_or, All-from_recursion, All-map}
use Rattle.std.proofs.lemmas.List.Sorted.{Contains-permutation, IsPermutation-trans, IsPermutation-sym, IsPermutation-map}
use Rattle.std.proofs.lemmas.Bool.{eqb-false, eq-eqb}
use Rattle.std.proofs.lemmas.Bool.Decides.{eqb_tells}
use Rattle.std.proofs.Math.ListN.{get_or-map, length-map}
use Rattle.std.proofs.lemmas.Map.Keys.{IsDistinct-IsPermutation, IsDistinct-head, IsDistinct-tail}

nat_eq_flips : (a b : ℕ) → nat_eq a b ≡ nat_eq b a
nat_eq_flips a b =
    elim (eqb_tells a b) [
      | inl p ↦ p.0 ∙ sym (eq-eqb b a (sym p.1))
      | inr p ↦ elim (eqb_tells b a) [ inl q ↦ absurd (p.1 (sym q.1)) | inr q ↦ p.0 ∙ sym q.0 ]
    ]

module _ {X : Type 0} (n : X → ℕ) where
  -- each element's number is below all later ones
  abbrev pub Rises : List X → Type 0
  Rises [] = Unit {0}
  Rises (x ∷ xs) = All (λ y. n x < n y) xs × Rises xs

  -- an element of a rising list is the first one, or it is among the others and its number is greater
  place_in : (x y : X) (xs : List X) → All (λ z. n y < n z) xs → Contains (y ∷ xs) x → (y ≡ x) ⊎ ((n y < n x) × Contains xs x)
  place_in x y xs above (zero, below, is) = inl is
  place_in x y xs above (suc k, below, is) =
      let inside : Contains xs x = (k, omega arith, is) in inr (All-contains (λ z. n y < n z) xs x above inside, inside)

  -- of two rising lists with the same elements the first elements are the same
  same_first : (x y : X) (xs ys : List X) → Rises (x ∷ xs) → Rises (y ∷ ys) → Contains (y ∷ ys) x → Contains (x ∷ xs) y → x ≡ y
  same_first x y xs ys up up' here there =
      elim (place_in x y ys up'.0 here) [
        | inl e ↦ sym e
        | inr p ↦ elim (place_in y x xs up.0 there) [ inl e ↦ e | inr q ↦ absurd (omega arith) ]
      ]

  -- what is among a rising list and above its first element is among the others
  in_rest : (x y : X) (ys : List X) → n y < n x → Contains (y ∷ ys) x → Contains ys x
  in_rest x y ys above (zero, below, is) = let e : n y ≡ n x = ap n is in absurd (omega arith)
  in_rest x y ys above (suc k, below, is) = (k, omega arith, is)

  rest_within : (x y : X) (xs ys : List X) → x ≡ y → Rises (x ∷ xs) → All (Contains (y ∷ ys)) (x ∷ xs) → All (Contains ys) xs
  rest_within x y xs ys e up within k d lt =
      let above : n x < n (get_or xs k d) = up.0 k d lt in
      let same : n x ≡ n y = ap n e in
      in_rest (get_or xs k d) y ys (omega arith) (All-tail (Contains (y ∷ ys)) x xs within k d lt)

  -- two rising lists with the same elements are the same
  pub rises_once : (xs ys : List X) → Rises xs → Rises ys → All (Contains ys) xs → All (Contains xs) ys → xs ≡ ys
  rises_once [] [] up up' there back = refl
  rises_once [] (y ∷ ys) up up' there back = let c = All-head (Contains []) y ys back in absurd (omega arith)
  rises_once (x ∷ xs) [] up up' there back = let c = All-head (Contains []) x xs there in absurd (omega arith)
  rises_once (x ∷ xs) (y ∷ ys) up up' there back =
      let e = same_first x y xs ys up up' (All-head (Contains (y ∷ ys)) x xs there) (All-head (Contains (x ∷ xs)) y ys back) in
      let rest = rises_once xs ys up.1 up'.1 (rest_within x y xs ys e up there) (rest_within y x ys xs (sym e) up' back) in
      ap (λ z. z ∷ xs) e ∙ ap (λ zs. y ∷ zs) rest

  above : (x : X) (xs : List X) (k : ℕ) (d : X) → n x ≤ n (get_or xs k d) → k < length xs →
      All (λ y. nat_eq (n x) y ≡ false) (map n xs) → n x < n (get_or xs k d)
  above x xs k d le lt other =
      let here : nat_eq (n x) (n (get_or xs k d)) ≡ false = rw (get_or-map n xs k d) at (other k (n d) (simp length-map (omega arith))) in
      let apart : n x ≢ n (get_or xs k d) = eqb-false (n x) (n (get_or xs k d)) here in
      omega arith

  -- a list whose numbers do not fall and differ rises
  pub rises_from : (xs : List X) → IsNonDecreasingBy n xs → IsDistinct nat_eq (map n xs) → Rises xs
  rises_from [] up apart = tt
  rises_from (x ∷ xs) up apart =
      let other = All-from_recursion (λ y. nat_eq (n x) y ≡ false) (map n xs) (IsDistinct-head nat_eq (n x) (map n xs) apart) in (
        λ k d lt. above x xs k d (up zero (suc k) d (omega arith) (omega arith)) lt other,
        rises_from xs (λ i j d le lt. up (suc i) (suc j) d (omega arith) (omega arith)) (IsDistinct-tail nat_eq (n x) (map n xs) apart),
      )

  -- the one rising order of elements whose numbers differ
  pub rising_order_is : (xs ys zs : List X) → IsDistinct nat_eq (map n xs) → IsPermutation xs ys → IsNonDecreasingBy n ys → IsPermutation xs zs → IsNonDecreasingBy n zs → ys ≡ zs
  rising_order_is xs ys zs apart to_ys up_ys to_zs up_zs =
      let there = IsPermutation-trans ys xs zs (IsPermutation-sym xs ys to_ys) to_zs in
      let back = IsPermutation-trans zs xs ys (IsPermutation-sym xs zs to_zs) to_ys in
      rises_once ys zs
      (rises_from ys up_ys (IsDistinct-IsPermutation nat_eq nat_eq_flips (map n xs) (map n ys) (IsPermutation-map n xs ys to_ys) apart))
      (rises_from zs up_zs (IsDistinct-IsPermutation nat_eq nat_eq_flips (map n xs) (map n zs) (IsPermutation-map n xs zs to_zs) apart))
      (λ k d lt. Contains-permutation ys zs (get_or ys k d) there (Contains-get_or ys k d lt))
      (λ k d lt. Contains-permutation zs ys (get_or zs k d) back (Contains-get_or zs k d lt))

  -- an element that is above no other, before a list whose numbers do not fall
  pub IsNonDecreasingBy-cons : (x : X) (xs : List X) → All (λ y. n x ≤ n y) xs → IsNonDecreasingBy n xs → IsNonDecreasingBy n (x ∷ xs)
  IsNonDecreasingBy-cons x xs below up zero zero d le lt = omega arith
  IsNonDecreasingBy-cons x xs below up zero (suc j) d le lt = below j d (omega arith)
  IsNonDecreasingBy-cons x xs below up (suc i) zero d le lt = absurd (omega arith)
  IsNonDecreasingBy-cons x xs below up (suc i) (suc j) d le lt = up i j d (omega arith) (omega arith)

  pub IsNonDecreasingBy-tail : (x : X) (xs : List X) → IsNonDecreasingBy n (x ∷ xs) → IsNonDecreasingBy n xs
  IsNonDecreasingBy-tail x xs up i j d le lt = up (suc i) (suc j) d (omega arith) (omega arith)

  -- what an element's number does not fall below, all along
  pub first_below : (x : X) (xs : List X) → IsNonDecreasingBy n (x ∷ xs) → All (λ y. n x ≤ n y) xs
  first_below x xs up k d lt = up zero (suc k) d (omega arith) (omega arith)

-- a list of images rises as the elements do
pub IsNonDecreasingBy-map : {X Y : Type 0} (n : X → ℕ) (f : Y → X) (ys : List Y) → IsNonDecreasingBy (λ y. n (f y)) ys → IsNonDecreasingBy n (map f ys)
IsNonDecreasingBy-map n f [] up = λ i j d le lt. absurd (omega arith)
IsNonDecreasingBy-map n f (y ∷ ys) up =
    IsNonDecreasingBy-cons n (f y) (map f ys)
    (All-map (λ x. n (f y) ≤ n x) f ys (first_below (λ z. n (f z)) y ys up))
    (IsNonDecreasingBy-map n f ys (IsNonDecreasingBy-tail (λ z. n (f z)) y ys up))
