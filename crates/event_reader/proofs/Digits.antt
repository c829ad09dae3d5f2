-- Decimal digits, read one by one.
use Rattle.std.proofs.Common.{◌≡◌, ℕ, ◌+◌, ◌-◌, ◌*◌, ◌<◌, ◌≤◌, true, List, length, take, get_or, min, refl, ◌∙◌, ap, arith}
use Rattle.std.specs.Char.{is_ascii_digit, digit_value}
use Rattle.std.specs.List.{list_all}
use Rattle.std.proofs.lemmas.Bool.Decides.{nat_tests}
use Rattle.std.proofs.lemmas.Int.Digits.{digits_value_more}
use Rattle.std.proofs.lemmas.List.Folds.{list_all_more}
use Rattle.std.proofs.lemmas.Str.{digit_value_digit}
use Rattle.event_reader.specs.Numbers.{value_of}

-- a digit more
pub all_digits_more : (word : List ℕ) (i : ℕ) → i < length word → 48 ≤ get_or word i 0 → get_or word i 0 ≤ 57
    → list_all is_ascii_digit (take i word) ≡ true → list_all is_ascii_digit (take (i + 1) word) ≡ true
all_digits_more word i inside low high all =
    let one : is_ascii_digit (get_or word i 0) ≡ true = grind (arith, nat_tests) in
    list_all_more is_ascii_digit word i 0 inside ∙ rw (all, one) refl

-- the value with a digit more
pub value_more : (word : List ℕ) (i : ℕ) → i < length word → 48 ≤ get_or word i 0 → get_or word i 0 ≤ 57
    → value_of (take (i + 1) word) ≡ 10 * value_of (take i word) + (get_or word i 0 - 48)
value_more word i inside low high =
    let digit : digit_value (get_or word i 0) ≡ get_or word i 0 - 48 = omega (arith, digit_value_digit (get_or word i 0) (low, high)) in
    let more : value_of (take (i + 1) word) ≡ value_of (take i word) * 10 + (get_or word i 0 - 48)
    = digits_value_more 10 word i inside ∙ ap (λ d. value_of (take i word) * 10 + d) digit in omega (arith, more)

-- a value above the greatest stays above it with a digit more
pub great_more : (word : List ℕ) (i limit : ℕ) → i < length word → 48 ≤ get_or word i 0 → get_or word i 0 ≤ 57
    → min (value_of (take i word)) limit ≡ limit → min (value_of (take (i + 1) word)) limit ≡ limit
great_more word i limit inside low high great =
    let more = value_more word i inside low high in omega (arith, more, great)
