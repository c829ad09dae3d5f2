-- How many decimal digits a number has, by the power of ten below it
use Rattle.std.proofs.Common.{◌≡◌, ℕ, zero, suc, ◌+◌, ◌*◌, ◌/◌, ◌^◌, ◌<◌, ◌≤◌, length, ap, ◌∙◌, arith}
use Rattle.std.specs.Fmt.{decimal}
use Rattle.itoa.proofs.Decimal.{length_one, length_step_wide}

power_positive : (k : ℕ) → 0 < 10 ^ k
power_positive zero = omega arith
power_positive (suc k) = omega (arith, power_positive k)

pub digits_at : (k n : ℕ) → 10 ^ k ≤ n → n < 10 * 10 ^ k → n < 2 ^ 64 → length (decimal n) ≡ k + 1
digits_at zero n lo hi small = length_one n (omega (arith, hi))
digits_at (suc k) n lo hi small =
    length_step_wide n (omega (arith, lo, power_positive k)) (omega (arith, small))
    ∙ ap (λ (m : ℕ). m + 1) (digits_at k (n / 10) (omega (arith, lo)) (omega (arith, hi)) (omega (arith, small)))
    ∙ omega arith
