-- The places of a list, and one element of it that changes.
use Rattle.std.proofs.Common.{◌≡◌, ◌≢◌, ℕ, ◌<◌, List, [], ◌∷◌, arith, length, set, get_or, sym, ap, ◌∙◌, subst, inl, inr}
use Rattle.std.specs.Prelude.{slice_index_or}
use Rattle.std.proofs.lemmas.Bool.{cases_eq}
use Rattle.std.proofs.lemmas.List.{get_or-set_same, get_or-set_other, get_or_default, length-set}

module _ {A : Type 0} where
  -- a list with a place has an element
  pub first_of : (xs : List A) {k : ℕ} → k < length xs → A
  first_of [] lt = absurd (omega arith)
  first_of (x ∷ _) lt = x

  -- what is true of all is true of all when one changes
  pub set_at : (P : ℕ → A → Type 0) (xs : List A) (k : ℕ) (y : A) (i : ℕ) (d : A) → i < length (set xs k y) → k < length xs → (i ≡ k → P i y) → (i ≢ k → P i (slice_index_or xs i d)) → P i (slice_index_or (set xs k y) i d)
  set_at P xs k y i d lt inside here there =
      elim (cases_eq i k) [
        | inl same ↦ subst (P i) (sym (ap (λ j. get_or (set xs k y) j d) same ∙ get_or-set_same xs k y d inside)) (here same)
        | inr other ↦ subst (P i) (sym (get_or-set_other xs k i y d other)) (there other)
      ]

  -- the element at an index stands there, whatever stands past the end
  pub at_itself : (xs : List A) (k : ℕ) (d : A) → k < length xs → slice_index_or xs k d ≡ slice_index_or xs k (slice_index_or xs k d)
  at_itself xs k d lt = get_or_default xs k d (slice_index_or xs k d) lt

  pub at_itself_set : (xs : List A) (j : ℕ) (y : A) (k : ℕ) (d : A) → k < length xs → slice_index_or (set xs j y) k d ≡ slice_index_or (set xs j y) k (slice_index_or (set xs j y) k d)
  at_itself_set xs j y k d lt = at_itself (set xs j y) k d (subst (λ n. k < n) (sym (length-set xs j y)) lt)
