-- A list whose elements fall into few classes, few in each, is short.
use Rattle.std.proofs.Common.{◌≡◌, ℕ, zero, suc, ◌+◌, ◌*◌, ◌<◌, ◌≤◌, Bool, true, false, cond, not, ◌&&◌, List, [], ◌∷◌, length, get_or, refl, sym, ap, ◌∙◌, arith}
use Rattle.std.specs.Prelude.{All, count_by, filter, ◌==◌}
use Rattle.std.proofs.lemmas.Bool.{eqb-false, not-true}
use Rattle.std.proofs.lemmas.List.Sums.{sum_by-cons, length-filter}
use Rattle.std.proofs.lemmas.List.Filters.{length-filter_both, sum_by-filter_both}
use Rattle.std.proofs.lemmas.List.Elements.{All-head, All-filter, filter_passes}

-- elements that pass two tests, counted among those that pass the first
pub count_by-filter : {X : Type 0} (q r : X → Bool) (xs : List X) → count_by r (filter q xs) ≡ count_by (λ x. q x && r x) xs
count_by-filter q r [] = refl
count_by-filter {X} q r (x ∷ xs) =
    let counted : (X → Bool) → X → ℕ = λ t y. cond (t y) 1 0 in
    let rest : count_by r (filter q xs) ≡ count_by (λ y. q y && r y) xs = count_by-filter q r xs in
    split (q x) refl ∙ ap (λ n. cond (q x && r x) 1 0 + n) rest ∙ sym (sum_by-cons (counted (λ y. q y && r y)) x xs)
  where
    split : (b : Bool) → q x ≡ b → count_by r (cond b (x ∷ filter q xs) (filter q xs)) ≡ cond (b && r x) 1 0 + count_by r (filter q xs)
    split true is = sum_by-cons (λ y. cond (r y) 1 0) x (filter q xs)
    split false is = omega arith

pub count_by-filter-le : {X : Type 0} (q r : X → Bool) (xs : List X) → count_by r (filter q xs) ≤ count_by r xs
count_by-filter-le q r xs =
    let both : count_by r (filter q xs) + count_by r (filter (λ x. not (q x)) xs) ≡ count_by r xs =
    sum_by-filter_both q (λ x. not (q x)) (λ x. refl) (λ x. cond (r x) 1 0) xs in
    omega arith

-- the classes are the numbers from `low` on, n of them, and none has more than m elements
pub length-classes : {X : Type 0} (f : X → ℕ) (low m n : ℕ) (xs : List X) → All (λ x. (low ≤ f x) × (f x < low + n)) xs
    → ((k : ℕ) → count_by (λ x. f x == k) xs ≤ m) → length xs ≤ n * m
length-classes f low m zero [] within few = omega arith
length-classes {X} f low m zero (x ∷ xs) within few =
    let first = All-head (λ (y : X). (low ≤ f y) × (f y < low + 0)) x xs within in absurd (omega (arith, first.0, first.1))
length-classes {X} f low m (suc n) xs within few =
    let last : X → Bool = λ x. f x == (low + n) in
    let earlier : X → Bool = λ x. not (last x) in
    let rest : List X = filter earlier xs in
    let both : length (filter last xs) + length rest ≡ length xs = length-filter_both last earlier (λ x. refl) xs in
    let counted : length (filter last xs) ≡ count_by last xs = length-filter last xs in
    let bound : count_by last xs ≤ m = few (low + n) in
    let inside : All (λ x. (low ≤ f x) × (f x < low + suc n)) rest = All-filter earlier (λ x. (low ≤ f x) × (f x < low + suc n)) xs within in
    let shorter : length rest ≤ n * m =
    length-classes f low m n rest (narrower rest inside (filter_passes earlier xs)) (λ k. let below = count_by-filter-le earlier (λ x. f x == k) xs in let all = few k in omega arith) in
    omega arith
  where
    narrower : (ys : List X) → All (λ x. (low ≤ f x) × (f x < low + suc n)) ys → All (λ x. not (f x == (low + n)) ≡ true) ys → All (λ x. (low ≤ f x) × (f x < low + n)) ys
    narrower ys wide passes k d lt =
        let both = wide k d lt in
        let other : f (get_or ys k d) ≡ low + n → ⊥ = eqb-false (f (get_or ys k d)) (low + n) (not-true (f (get_or ys k d) == (low + n)) (passes k d lt)) in
        (both.0, omega (arith, both.1))
