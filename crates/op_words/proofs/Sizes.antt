-- Sums over rows of numbers and over lists of views: how great they are.
use Rattle.std.proofs.Common.{◌≡◌, ◌≢◌, ℕ, zero, suc, ◌+◌, ◌*◌, ◌<◌, ◌≤◌, List, [], ◌∷◌, length, refl, sym, ap, ◌∙◌, arith}
use Rattle.std.specs.Prelude.{Contains, sum_by}
use Rattle.std.specs.List.{range_with_len}
use Rattle.std.proofs.lemmas.List.Sums.{sum_by-cons}
use mathlib.Core.Option.{some, some-injective, some-ne-none}
use lib.ListN.{get_elem?}
use Rattle.op_words.proofs.Rows.{sum_has, sum_range_more}

module _ {A : Type 0} where
  pub sum_most : (f g : A → ℕ) (m : ℕ) (xs : List A) → ((i : ℕ) (a : A) → get_elem? xs i ≡ some a → f a ≤ m * g a) → sum_by f xs ≤ m * sum_by g xs
  sum_most f g m [] each = omega arith
  sum_most f g m (x ∷ xs) each =
      let r = sum_most f g m xs (λ i a e. each (suc i) a e) in let p = sum_by-cons f x xs in let q = sum_by-cons g x xs in let here = each 0 x refl in
      let s : m * sum_by g (x ∷ xs) ≡ m * (g x + sum_by g xs) = ap (λ (n : ℕ). m * n) q in
      let t : m * (g x + sum_by g xs) ≡ m * g x + m * sum_by g xs = omega arith in
      omega (arith, p, r, here, s, t)

  pub sum_inside : (f : A → ℕ) (xs : List A) (a : A) → Contains xs a → f a ≤ sum_by f xs
  sum_inside f [] a (k, lt, is) = absurd (omega (arith, lt))
  sum_inside f (x ∷ xs) a (zero, lt, is) = let e : f x ≡ f a = ap f is in let q = sum_by-cons f x xs in omega (arith, q, e)
  sum_inside f (x ∷ xs) a (suc k, lt, is) = let r = sum_inside f xs a (k, less k (length xs) lt, is) in let q = sum_by-cons f x xs in omega (arith, q, r)
    where
      less : (m n : ℕ) → suc m < suc n → m < n
      less m n l = omega (arith, l)

  pub single_sum : (f : A → ℕ) (xs : List A) (a : A) → length xs ≡ 1 → get_elem? xs 0 ≡ some a → sum_by f xs ≡ f a
  single_sum f [] a long e = absurd (some-ne-none a (sym e))
  single_sum f (x ∷ []) a long e = let is : f x ≡ f a = ap f (some-injective x a e) in let q = sum_by-cons f x [] in omega (arith, q, is)
  single_sum f (x ∷ y ∷ ys) a long e = absurd (omega (arith, long))

  pub sum_ones : (f : A → ℕ) (xs : List A) → ((a : A) → f a ≡ 1) → sum_by f xs ≡ length xs
  sum_ones f [] ones = refl
  sum_ones f (x ∷ xs) ones = let q = sum_by-cons f x xs in let here = ones x in let r = sum_ones f xs ones in omega (arith, q, here, r)

  pub sum_zero : (f : A → ℕ) (xs : List A) → ((j : ℕ) (b : A) → get_elem? xs j ≡ some b → f b ≡ 0) → sum_by f xs ≡ 0
  sum_zero f [] none = refl
  sum_zero f (x ∷ xs) none = let r = sum_zero f xs (λ j b is. none (suc j) b is) in let q = sum_by-cons f x xs in let here = none 0 x refl in omega (arith, r, q, here)

  pub total_one : (f : A → ℕ) (xs : List A) (i : ℕ) (a : A) → get_elem? xs i ≡ some a → ((j : ℕ) (b : A) → j ≢ i → get_elem? xs j ≡ some b → f b ≡ 0) → sum_by f xs ≡ f a
  total_one f [] i a at none = absurd (some-ne-none a (sym at))
  total_one f (x ∷ xs) zero a at none =
      let r = sum_zero f xs (λ j b is. none (suc j) b (λ e. omega (arith, e)) is) in let q = sum_by-cons f x xs in let here : f x ≡ f a = ap f (some-injective x a at) in omega (arith, r, q, here)
  total_one f (x ∷ xs) (suc i) a at none =
      let r = total_one f xs i a at (λ j b other is. none (suc j) b (λ e. other (omega (arith, e))) is) in let q = sum_by-cons f x xs in let here = none 0 x (λ e. omega (arith, e)) refl in omega (arith, r, q, here)

  -- two elements apart count both
  pub sum_two : (f : A → ℕ) (xs : List A) (i j : ℕ) (a b : A) → i ≢ j → get_elem? xs i ≡ some a → get_elem? xs j ≡ some b → f a + f b ≤ sum_by f xs
  sum_two f [] i j a b other one two = absurd (some-ne-none a (sym one))
  sum_two f (x ∷ xs) zero zero a b other one two = absurd (other refl)
  sum_two f (x ∷ xs) zero (suc j) a b other one two =
      let here : f x ≡ f a = ap f (some-injective x a one) in let q = sum_by-cons f x xs in let r = sum_has f xs j b two in omega (arith, here, q, r)
  sum_two f (x ∷ xs) (suc i) zero a b other one two =
      let here : f x ≡ f b = ap f (some-injective x b two) in let q = sum_by-cons f x xs in let r = sum_has f xs i a one in omega (arith, here, q, r)
  sum_two f (x ∷ xs) (suc i) (suc j) a b other one two = let q = sum_by-cons f x xs in let r = sum_two f xs i j a b (λ e. other (ap suc e)) one two in omega (arith, q, r)

  pub none_left : (xs : List A) → length xs ≡ 0 → xs ≡ []
  none_left [] e = refl
  none_left (x ∷ xs) e = absurd (omega (arith, e))

pub sum_below : (h : ℕ → ℕ) (n : ℕ) → sum_by h (range_with_len 0 (suc n)) ≡ sum_by h (range_with_len 0 n) + h n
sum_below h n = sum_range_more h 0 n ∙ ap (λ (k : ℕ). sum_by h (range_with_len 0 n) + h k) (zero_plus n)
  where
    zero_plus : (m : ℕ) → 0 + m ≡ m
    zero_plus m = omega arith

pub range_size : (a n : ℕ) → sum_by (λ (k : ℕ). 1) (range_with_len a n) ≡ n
range_size a zero = refl
range_size a (suc n) = let r = range_size a n in let s = sum_range_more (λ (k : ℕ). 1) a n in omega (arith, r, s)

-- no number from n on is below n, and a number counts at most once in a range
pub sum_above : (h : ℕ → ℕ) (n : ℕ) → ((k : ℕ) → k < n → h k ≡ 0) → sum_by h (range_with_len 0 n) ≡ 0
sum_above h zero none = refl
sum_above h (suc n) none = let r = sum_above h n (λ k lt. none k (omega (arith, lt))) in let s = sum_below h n in let z = none n (omega arith) in omega (arith, r, s, z)
