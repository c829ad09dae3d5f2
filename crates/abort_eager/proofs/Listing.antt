-- What a filter, a map and a range have.
use Rattle.std.proofs.Common.{◌≡◌, ℕ, ◌+◌, ◌-◌, ◌<◌, ◌≤◌, List, [], ◌∷◌, map, length, get_or, sym, ap, ◌∙◌, subst, refl, inl, inr, arith, zero-lt-suc, not-suc-le-zero, zero-add}
use Rattle.std.specs.Prelude.{Contains, All}
use Rattle.std.specs.List.{range_with_len, flat_map}
use Rattle.std.proofs.lemmas.List.{length-map, get_or-map}
use Rattle.std.proofs.lemmas.List.Elements.{Contains-append_left, Contains-append_right, Contains-append_cases, All-append}
use Rattle.std.proofs.lemmas.List.FromFn.{length-range_with_len, get_or-range_with_len}
use Rattle.morph_base.specs.Graphs.{below}
use Rattle.op_words.proofs.Rows.{one_inside}

pub contains_map : {X Y : Type 0} (f : X → Y) (xs : List X) (x : X) → Contains xs x → Contains (map f xs) (f x)
contains_map f xs x inside =
    (inside.0, subst (λ n. inside.0 < n) (sym (length-map xs f)) inside.1, get_or-map f xs inside.0 x (f x) inside.1 ∙ ap f inside.2)

pub contains_flat_map : {X Y : Type 0} (f : X → List Y) (xs : List X) (x : X) (y : Y) → Contains xs x → Contains (f x) y → Contains (flat_map f xs) y
contains_flat_map f [] x y inside there = absurd (not-suc-le-zero inside.1)
contains_flat_map f (z ∷ zs) x y inside there =
    elim (Contains-append_cases (z ∷ []) zs x inside) [
      | inl first ↦ Contains-append_left (f z) (flat_map f zs) y (subst (λ w. Contains (f w) y) (sym (one_inside z x first)) there)
      | inr later ↦ Contains-append_right (f z) (flat_map f zs) y (contains_flat_map f zs x y later there)
    ]

pub all_flat_map : {X Y : Type 0} (P : Y → Type 0) (f : X → List Y) (xs : List X) → ((x : X) → Contains xs x → All P (f x)) → All P (flat_map f xs)
all_flat_map P f [] each = λ k d lt. absurd (not-suc-le-zero lt)
all_flat_map P f (z ∷ zs) each =
    All-append P (f z) (flat_map f zs) (each z (0, zero-lt-suc (length zs), refl)) (all_flat_map P f zs (λ x inside. each x (Contains-append_right (z ∷ []) zs x inside)))

pub in_range : (a n k : ℕ) → a ≤ k → k < a + n → Contains (range_with_len a n) k
in_range a n k low high =
    let lt : k - a < n = omega arith in
    let e : a + (k - a) ≡ k = omega arith in
    (k - a, subst (λ m. k - a < m) (sym (length-range_with_len a n)) lt, get_or-range_with_len a n (k - a) k lt ∙ e)

pub range_within : (a n k : ℕ) → Contains (range_with_len a n) k → (a ≤ k) × (k < a + n)
range_within a n k inside =
    let lt : inside.0 < n = subst (λ m. inside.0 < m) (length-range_with_len a n) inside.1 in
    let is : a + inside.0 ≡ k = sym (get_or-range_with_len a n inside.0 k lt) ∙ inside.2 in
    (omega arith, omega arith)

-- the numbers below n
pub below_inside : (n : ℕ) → All (λ o. o < n) (below n)
below_inside n k d lt = let less : k < n = subst (λ m. k < m) (length-range_with_len 0 n) lt in let is : get_or (below n) k d ≡ 0 + k = get_or-range_with_len 0 n k d less in omega arith

pub below_all : (n o : ℕ) → o < n → Contains (below n) o
below_all n o lt = (o, subst (λ m. o < m) (sym (length-range_with_len 0 n)) lt, get_or-range_with_len 0 n o o lt ∙ zero-add o)
