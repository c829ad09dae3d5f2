-- A state overwritten one operation after another.
use Rattle.std.proofs.Common.{◌≡◌, ℕ, zero, suc, ◌+◌, ◌<◌, refl, sym, ap, ◌∙◌, arith, add-one, le_refl}
use Rattle.std.proofs.Math.Path.{fun_ext}
use Rattle.morph_base.specs.declared.key.Key.{Key}
use Rattle.morph_base.specs.States.{State, overwritten}
use Rattle.morph_base.specs.Flat.{with_value}

module _ (target : ℕ → Key) (s : State) where
  pub overwritten-zero : (v : ℕ → ℕ) → overwritten target v s 0 ≡ s
  unfolding overwritten
  overwritten-zero v = fun_ext (λ key. refl)

  more : (v : ℕ → ℕ) (n : ℕ) → overwritten target v s (suc n) ≡ with_value (overwritten target v s n) (target n) (v n)
  unfolding overwritten
  more v n = fun_ext (λ key. refl)

  overwritten-more : (v : ℕ → ℕ) (n : ℕ) → overwritten target v s (n + 1) ≡ with_value (overwritten target v s n) (target n) (v n)
  overwritten-more v n = ap (overwritten target v s) (add-one n) ∙ more v n

  -- one key of a state that was overwritten so far is changed
  pub overwritten-step : (v : ℕ → ℕ) (n : ℕ) (front next : State) (key : Key) (x : ℕ) → front ≡ overwritten target v s n → next ≡ with_value front key x →
      key ≡ target n → x ≡ v n → next ≡ overwritten target v s (n + 1)
  overwritten-step v n front next key x so_far one its_key its_value =
      one
      ∙ ap (λ st. with_value st key x) so_far
      ∙ ap (λ k. with_value (overwritten target v s n) k x) its_key
      ∙ ap (with_value (overwritten target v s n) (target n)) its_value
      ∙ sym (overwritten-more v n)

  -- by values that are the same
  pub overwritten-same : (v w : ℕ → ℕ) (n : ℕ) → ((o : ℕ) → o < n → v o ≡ w o) → overwritten target v s n ≡ overwritten target w s n
  unfolding overwritten
  overwritten-same v w zero same = refl
  overwritten-same v w (suc n) same = more v n ∙ ap (λ st. with_value st (target n) (v n)) (overwritten-same v w n (λ o lt. same o (omega arith)))
      ∙ ap (with_value (overwritten target w s n) (target n)) (same n (le_refl (suc n))) ∙ more w n
