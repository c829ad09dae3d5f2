-- What a list begins with, and what stands further on.
use Rattle.std.proofs.Common.{◌≡◌, ◌⊎◌, ℕ, zero, suc, ◌<◌, Bool, true, false, cond, List, [], ◌∷◌, length, filter, get_or, refl, sym, ap, ◌∙◌, subst, inl, inr, arith, zero-lt-suc, suc-le-suc}
use Rattle.std.specs.Prelude.{Contains}

pub contains_first : {X : Type 0} (x : X) (xs : List X) → Contains (x ∷ xs) x
contains_first x xs = (0, zero-lt-suc (length xs), refl)

pub contains_later : {X : Type 0} (y : X) (xs : List X) (x : X) → Contains xs x → Contains (y ∷ xs) x
contains_later y xs x found = (suc found.0, suc-le-suc found.1, found.2)

-- an element of a list is the first one or one of the others
pub contains_cases : {X : Type 0} (y : X) (xs : List X) (x : X) → Contains (y ∷ xs) x → (x ≡ y) ⊎ Contains xs x
contains_cases y xs x inside = at inside.0 inside.1 inside.2
  where
    at : (n : ℕ) → n < length (y ∷ xs) → get_or (y ∷ xs) n x ≡ x → (x ≡ y) ⊎ Contains xs x
    at zero lt is = inl (sym is)
    at (suc n) lt is = inr (n, lt-from n lt, is)
      where
        lt-from : (j : ℕ) → suc j < suc (length xs) → j < length xs
        lt-from j less = omega arith

pub contains_none : {X : Type 0} (x : X) → Contains [] x → ⊥
contains_none x found = absurd (omega (arith, found.1))

pub contains_filter : {X : Type 0} (t : X → Bool) (xs : List X) (x : X) → Contains xs x → t x ≡ true → Contains (filter t xs) x
contains_filter t [] x inside passes = absurd (omega (arith, inside.1))
contains_filter {X} t (y ∷ ys) x inside passes =
    elim (contains_cases y ys x inside) [
      | inl same ↦
          subst (λ b. Contains (cond b (y ∷ filter t ys) (filter t ys)) x) (sym (ap t (sym same) ∙ passes))
          (subst (λ z. Contains (y ∷ filter t ys) z) (sym same) (contains_first y (filter t ys)))
      | inr later ↦ kept (t y) (filter t ys) (contains_filter t ys x later passes)
    ]
  where
    kept : (b : Bool) (l : List X) → Contains l x → Contains (cond b (y ∷ l) l) x
    kept true l there = contains_later y l x there
    kept false l there = there
