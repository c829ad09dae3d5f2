-- Rows of words and lists of views: what one change does to sums and places.
use Rattle.std.proofs.Common.{◌≡◌, ◌≢◌, ◌⊎◌, ℕ, zero, suc, ◌+◌, ◌<◌, ◌≤◌, List, [], ◌∷◌, ◌++◌, length, get_or, set, refl, sym, ap, ◌∙◌, inl, inr, arith}
use Rattle.std.specs.Prelude.{Contains, sum_by}
use Rattle.std.specs.List.{range_with_len}
use Rattle.std.proofs.lemmas.List.Sums.{sum_by-cons, sum_by_push}
use mathlib.Core.Option.{some, some-injective, some-ne-none}
use lib.ListN.{get_elem?}

module _ {A : Type 0} where
  pub sum_set : (f : A → ℕ) (xs : List A) (i : ℕ) (a b : A) → get_elem? xs i ≡ some a → sum_by f (set xs i b) + f a ≡ sum_by f xs + f b
  sum_set f [] i a b e = absurd (some-ne-none a (sym e))
  sum_set f (x ∷ xs) zero a b e =
      let is : f x ≡ f a = ap f (some-injective x a e) in let p = sum_by-cons f b xs in let q = sum_by-cons f x xs in omega (arith, p, q, is)
  sum_set f (x ∷ xs) (suc i) a b e = let r = sum_set f xs i a b e in let p = sum_by-cons f x (set xs i b) in let q = sum_by-cons f x xs in omega (arith, p, q, r)

  pub sum_has : (f : A → ℕ) (xs : List A) (i : ℕ) (a : A) → get_elem? xs i ≡ some a → f a ≤ sum_by f xs
  sum_has f [] i a e = absurd (some-ne-none a (sym e))
  sum_has f (x ∷ xs) zero a e = let is : f x ≡ f a = ap f (some-injective x a e) in let q = sum_by-cons f x xs in omega (arith, q, is)
  sum_has f (x ∷ xs) (suc i) a e = let r = sum_has f xs i a e in let q = sum_by-cons f x xs in omega (arith, q, r)

  pub here_long : (xs : List A) (i : ℕ) (a : A) → get_elem? xs i ≡ some a → i < length xs
  here_long [] i a e = absurd (some-ne-none a (sym e))
  here_long (x ∷ xs) zero a e = omega arith
  here_long (x ∷ xs) (suc i) a e = let r = here_long xs i a e in omega (arith, r)

  pub snoc_cases : (l : List A) (a b : A) (j : ℕ) → get_elem? (l ++ a ∷ []) j ≡ some b → (get_elem? l j ≡ some b) ⊎ ((j ≡ length l) × (a ≡ b))
  snoc_cases [] a b zero e = inr (refl, some-injective a b e)
  snoc_cases [] a b (suc j) e = absurd (some-ne-none b (sym e))
  snoc_cases (x ∷ xs) a b zero e = inl e
  snoc_cases (x ∷ xs) a b (suc j) e = elim (snoc_cases xs a b j e) [ inl old ↦ inl old | inr new ↦ inr (ap suc new.0, new.1) ]

  pub not_inside : (a : A) → Contains [] a → ⊥
  not_inside a (k, lt, is) = omega (arith, lt)

  pub one_inside : (a b : A) → Contains (a ∷ []) b → a ≡ b
  one_inside a b (zero, lt, is) = is
  one_inside a b (suc k, lt, is) = absurd (omega (arith, lt))

  pub no_more : (xs : List A) → xs ≡ xs ++ []
  no_more [] = refl
  no_more (x ∷ xs) = ap (λ (l : List A). x ∷ l) (no_more xs)

pub set_same : (ws : List ℕ) (i : ℕ) → set ws i (get_or ws i 0) ≡ ws
set_same [] i = refl
set_same (w ∷ ws) zero = refl
set_same (w ∷ ws) (suc i) = ap (λ (l : List ℕ). w ∷ l) (set_same ws i)

pub set_apart : (ws : List ℕ) (i j a : ℕ) → j ≢ i → get_or (set ws i a) j 0 ≡ get_or ws j 0
set_apart [] i j a n = refl
set_apart (w ∷ ws) zero zero a n = absurd (n refl)
set_apart (w ∷ ws) zero (suc j) a n = refl
set_apart (w ∷ ws) (suc i) zero a n = refl
set_apart (w ∷ ws) (suc i) (suc j) a n = set_apart ws i j a (λ e. n (ap suc e))

-- one number more in a range
pub range_more : (a n : ℕ) → range_with_len a (suc n) ≡ range_with_len a n ++ (a + n) ∷ []
range_more a zero = let same : a ≡ a + 0 = omega arith in ap (λ (k : ℕ). k ∷ []) same
range_more a (suc n) = ap (λ (l : List ℕ). a ∷ l) (range_more (a + 1) n) ∙ ap (λ (k : ℕ). a ∷ (range_with_len (a + 1) n ++ k ∷ [])) (sum a n)
  where
    sum : (b m : ℕ) → b + 1 + m ≡ b + suc m
    sum b m = omega arith

pub sum_range_more : (h : ℕ → ℕ) (a n : ℕ) → sum_by h (range_with_len a (suc n)) ≡ sum_by h (range_with_len a n) + h (a + n)
sum_range_more h a n = ap (sum_by h) (range_more a n) ∙ sum_by_push h (range_with_len a n) (a + n)
