-- The greatest of some numbers, and the numbers below n.
use Rattle.std.proofs.Common.{◌≡◌, ℕ, ◌+◌, ◌<◌, ◌≤◌, Bool, cond, List, [], ◌∷◌, ◌++◌, length, get_or, take, filter, ap, subst, ◌∙◌, arith}
use Rattle.std.specs.Prelude.{max, All}
use Rattle.std.proofs.lemmas.List.{take_more, map-id}
use Rattle.std.proofs.lemmas.List.Elements.{filter-append, All-head, All-tail}
use Rattle.morph_base.specs.Graphs.{greatest, below}
use Rattle.morph_base.proofs.LevelLaws.{below_more, greatest-append, le-greatest}

pub greatest_push : (xs : List ℕ) (y : ℕ) → greatest (xs ++ y ∷ []) ≡ max (greatest xs) y
greatest_push xs y = greatest-append xs (y ∷ []) ∙ omega arith

pub greatest_more : (xs : List ℕ) (i d : ℕ) → i < length xs → greatest (take (i + 1) xs) ≡ max (greatest (take i xs)) (get_or xs i d)
greatest_more xs i d inside = ap greatest (take_more xs i d inside) ∙ greatest_push (take i xs) (get_or xs i d)

pub get_or-le-greatest : (xs : List ℕ) (i d : ℕ) → i < length xs → get_or xs i d ≤ greatest xs
get_or-le-greatest xs i d inside =
    subst (λ ys. get_or xs i d ≤ greatest ys) (map-id xs) (le-greatest (λ (x : ℕ). x) xs i d inside)

pub greatest-le : (m : ℕ) (xs : List ℕ) → All (λ x. x ≤ m) xs → greatest xs ≤ m
greatest-le m [] h = omega arith
greatest-le m (x ∷ xs) h =
    omega (arith, All-head (λ y. y ≤ m) x xs h, greatest-le m xs (All-tail (λ y. y ≤ m) x xs h))

pub filter-below_more : (p : ℕ → Bool) (n : ℕ) → filter p (below (n + 1)) ≡ filter p (below n) ++ cond (p n) (n ∷ []) []
filter-below_more p n = ap (filter p) (below_more n) ∙ filter-append p (below n) (n ∷ [])
