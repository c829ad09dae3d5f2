-- Sums over lists and over the numbers below one.
use Rattle.std.proofs.Common.{◌≡◌, ℕ, zero, suc, ◌+◌, ◌*◌, ◌<◌, ◌≤◌, Bool, true, false, cond, List, [], ◌∷◌, length, map, refl, sym, ap, ◌∙◌, subst, inl, inr, arith}
use Rattle.std.specs.List.{flat_map}
use Rattle.std.specs.Prelude.{Contains, filter, slice_index_or, sum_by}
use Rattle.std.proofs.lemmas.Bool.{cases_eq, cases_lt}
use Rattle.std.proofs.lemmas.List.FromFn.{fill_by_all, length-range_with_len, get_or-range_with_len}
use Rattle.std.proofs.lemmas.List.Sums.{sum_by-append, sum_by-cons}
use Rattle.morph_base.specs.Graphs.{below}
use Rattle.op_words.proofs.Sizes.{sum_above, sum_below}
use Rattle.op_eval.proofs.Elements.{contains_first, contains_later}

module _ {A : Type 0} where
  pub sum_none : (xs : List A) → sum_by (λ x. 0) xs ≡ 0
  sum_none [] = refl
  sum_none (x ∷ xs) = let rest = sum_none xs in let first = sum_by-cons (λ (y : A). 0) x xs in omega (arith, rest, first)

  pub sum_same : (f g : A → ℕ) (xs : List A) → ((x : A) → Contains xs x → f x ≡ g x) → sum_by f xs ≡ sum_by g xs
  sum_same f g [] same = refl
  sum_same f g (x ∷ xs) same =
      let rest = sum_same f g xs (λ y found. same y (contains_later x xs y found)) in
      let here = same x (contains_first x xs) in
      let one = sum_by-cons f x xs in
      let two = sum_by-cons g x xs in
      omega (arith, rest, here, one, two)

  pub sum_plus : (f g : A → ℕ) (xs : List A) → sum_by (λ x. f x + g x) xs ≡ sum_by f xs + sum_by g xs
  sum_plus f g [] = refl
  sum_plus f g (x ∷ xs) =
      let rest = sum_plus f g xs in
      let both = sum_by-cons (λ (y : A). f y + g y) x xs in
      let one = sum_by-cons f x xs in
      let two = sum_by-cons g x xs in
      omega (arith, rest, both, one, two)

  pub sum_map : {B : Type 0} (f : A → ℕ) (g : B → A) (ys : List B) → sum_by f (map g ys) ≡ sum_by (λ y. f (g y)) ys
  sum_map f g [] = refl
  sum_map {B} f g (y ∷ ys) =
      let rest = sum_map f g ys in
      let one = sum_by-cons f (g y) (map g ys) in
      let two = sum_by-cons (λ (z : B). f (g z)) y ys in
      omega (arith, rest, one, two)

  -- by places
  pub sum_places : (f : A → ℕ) (xs : List A) (d : A) → sum_by f xs ≡ sum_by (λ k. f (slice_index_or xs k d)) (below (length xs))
  sum_places f xs d =
      ap (sum_by f) (fill_by_all (λ k. slice_index_or xs k d) xs (length xs) d refl (λ k lt. refl)) ∙ sum_map f (λ k. slice_index_or xs k d) (below (length xs))

  pub sum_filter : (f : A → ℕ) (q : A → Bool) (xs : List A) → sum_by f (filter q xs) ≡ sum_by (λ x. cond (q x) (f x) 0) xs
  sum_filter f q [] = refl
  sum_filter f q (x ∷ xs) =
      let rest = sum_filter f q xs in
      let one = sum_by-cons (λ (y : A). cond (q y) (f y) 0) x xs in
      let here = split (q x) in
      omega (arith, rest, one, here)
    where
      split : (b : Bool) → sum_by f (cond b (x ∷ filter q xs) (filter q xs)) ≡ cond b (f x) 0 + sum_by f (filter q xs)
      split true = sum_by-cons f x (filter q xs)
      split false = omega arith

-- over the lists that are joined
pub sum_flat_map : {A B : Type 0} (f : A → ℕ) (g : B → List A) (ys : List B) → sum_by f (flat_map g ys) ≡ sum_by (λ y. sum_by f (g y)) ys
sum_flat_map f g [] = refl
sum_flat_map {A} {B} f g (y ∷ ys) =
    let rest = sum_flat_map f g ys in
    let one = sum_by-append f (g y) (flat_map g ys) in
    let two = sum_by-cons (λ (z : B). sum_by f (g z)) y ys in
    omega (arith, rest, one, two)

pub sum_length : {A : Type 0} (xs : List A) → sum_by (λ x. 1) xs ≡ length xs
sum_length [] = refl
sum_length {A} (x ∷ xs) = let rest = sum_length xs in let first = sum_by-cons (λ (y : A). 1) x xs in omega (arith, rest, first)

-- over two lists in either order
pub sum_swap : {A B : Type 0} (f : A → B → ℕ) (xs : List A) (ys : List B) → sum_by (λ x. sum_by (f x) ys) xs ≡ sum_by (λ y. sum_by (λ x. f x y) xs) ys
sum_swap {A} {B} f [] ys = sym (sum_none ys)
sum_swap {A} {B} f (x ∷ xs) ys =
    let rest = sum_swap f xs ys in
    let one = sum_by-cons (λ (z : A). sum_by (f z) ys) x xs in
    let both = sum_plus (f x) (λ y. sum_by (λ z. f z y) xs) ys in
    let each = sum_same (λ y. sum_by (λ z. f z y) (x ∷ xs)) (λ y. f x y + sum_by (λ z. f z y) xs) ys (λ y found. sum_by-cons (λ (z : A). f z y) x xs) in
    one ∙ ap (λ n. sum_by (f x) ys + n) rest ∙ sym both ∙ sym each

-- ---- over the numbers below n

pub below_same : (f g : ℕ → ℕ) (n : ℕ) → ((k : ℕ) → k < n → f k ≡ g k) → sum_by f (below n) ≡ sum_by g (below n)
below_same f g zero same = refl
below_same f g (suc n) same =
    let rest = below_same f g n (λ k lt. same k (omega (arith, lt))) in
    let here = same n (omega arith) in
    let one = sum_below f n in
    let two = sum_below g n in
    omega (arith, rest, here, one, two)

pub below_least : (f g : ℕ → ℕ) (n : ℕ) → ((k : ℕ) → k < n → f k ≤ g k) → sum_by f (below n) ≤ sum_by g (below n)
below_least f g zero least = omega arith
below_least f g (suc n) least =
    let rest = below_least f g n (λ k lt. least k (omega (arith, lt))) in
    let here = least n (omega arith) in
    let one = sum_below f n in
    let two = sum_below g n in
    omega (arith, rest, here, one, two)

-- one of them counts, where the sum is not 0
pub below_some : (f : ℕ → ℕ) (n : ℕ) → 1 ≤ sum_by f (below n) → (k : ℕ) × (k < n) × (1 ≤ f k)
below_some f zero some = absurd (omega (arith, some))
below_some f (suc n) some =
    elim (cases_lt 0 (f n)) [
      | inl here ↦ (n, omega arith, omega (arith, here))
      | inr none ↦ let more = sum_below f n in let before = below_some f n (omega (arith, some, none, more)) in (before.0, (let lt = before.1 in omega (arith, lt)), before.2)
    ]

pub below_has : (n i : ℕ) → i < n → Contains (below n) i
below_has n i lt = (i, subst (λ m. i < m) (sym (length-range_with_len 0 n)) lt, get_or-range_with_len 0 n i i lt ∙ omega arith)

-- where only one of them counts
pub sum_single : (f : ℕ → ℕ) (m n : ℕ) → m < n → ((k : ℕ) → k < n → (k ≡ m → ⊥) → f k ≡ 0) → sum_by f (below n) ≡ f m
sum_single f m zero lt none = absurd (omega (arith, lt))
sum_single f m (suc n) lt none =
    let more = sum_below f n in
    elim (cases_eq m n) [
      | inl same ↦
          let rest = sum_above f n (λ k less. none k (omega (arith, less)) (λ e. absurd (omega (arith, e, same, less)))) in
          let here = ap f same in
          omega (arith, more, rest, here)
      | inr other ↦
          let rest = sum_single f m n (omega (arith, lt, other)) (λ k less. none k (omega (arith, less))) in
          let here = none n (omega arith) (λ e. other (sym e)) in
          omega (arith, more, rest, here)
    ]

pub sum_fewer : (f : ℕ → ℕ) (n m : ℕ) → n ≤ m → sum_by f (below n) ≤ sum_by f (below m)
sum_fewer f n zero le = let same : n ≡ 0 = omega (arith, le) in let e = ap (λ k. sum_by f (below k)) same in omega (arith, e)
sum_fewer f n (suc m) le =
    let more = sum_below f m in
    elim (cases_eq n (suc m)) [
      | inl same ↦ let e = ap (λ k. sum_by f (below k)) same in omega (arith, e)
      | inr other ↦ let rest = sum_fewer f n m (omega (arith, le, other)) in omega (arith, rest, more)
    ]

-- in rows of one length
sum_split : (f : ℕ → ℕ) (n m : ℕ) → sum_by f (below (n + m)) ≡ sum_by f (below n) + sum_by (λ k. f (n + k)) (below m)
sum_split f n zero = let same : n + 0 ≡ n = omega arith in let e = ap (λ k. sum_by f (below k)) same in omega (arith, e)
sum_split f n (suc m) =
    let same : n + suc m ≡ suc (n + m) = omega arith in
    let e = ap (λ k. sum_by f (below k)) same in
    let one = sum_below f (n + m) in
    let two = sum_below (λ k. f (n + k)) m in
    let rest = sum_split f n m in
    omega (arith, e, one, two, rest)

pub sum_rows : (f : ℕ → ℕ) (n m : ℕ) → sum_by f (below (n * m)) ≡ sum_by (λ l. sum_by (λ k. f (l * m + k)) (below m)) (below n)
sum_rows f zero m = let e = ap (λ k. sum_by f (below k)) (none m) in e
  where
    none : (k : ℕ) → 0 * k ≡ 0
    none k = grind arith
sum_rows f (suc n) m =
    let e = ap (λ k. sum_by f (below k)) (more n m) in
    let rest = sum_rows f n m in
    let split = sum_split f (n * m) m in
    let last = sum_below (λ l. sum_by (λ k. f (l * m + k)) (below m)) n in
    omega (arith, e, rest, split, last)
  where
    more : (a b : ℕ) → suc a * b ≡ a * b + b
    more a b = grind arith
