-- Numbers as words.
use Rattle.std.proofs.Common.{◌≡◌, ℕ, zero, suc, ◌^◌, ◌<◌, ◌≤◌, Bool, true, false, ◌&&◌, not, nat_le, List, [], ◌∷◌, length, get_or, refl, sym, ◌∙◌, ap, arith, Some, None}
use Rattle.std.specs.Prelude.{◌==◌, ◌||◌, decimal, slice_index, if◌then◌else◌}
use Rattle.std.specs.Char.{is_ascii_digit}
use Rattle.std.specs.List.{All, list_all}
use Rattle.std.specs.Str.Parse.{AllDigits}
use Rattle.std.proofs.lemmas.Bool.Decides.{nat_tests}
use Rattle.std.proofs.lemmas.Fmt.{decimal_is_IsNumeral, decimal_digit, decimal_nonempty, first_decimal, decimal-digits_value}
use Rattle.std.proofs.lemmas.List.Elements.{All-weaker, All-from_get_or}
use Rattle.std.proofs.lemmas.List.Sums.{list_all-from_AllPass}
use Rattle.std.proofs.lemmas.Str.{digit_value_digit}
use Rattle.std.proofs.lemmas.Str.Parse.{digit_at, numerals_by_value, tells_digits}
use Rattle.event_reader.specs.Numbers.{is_number, value_of}
use Rattle.run_checker.specs.LineEvents.{number_up_to}

-- ---- what is written

-- the bytes of a number are digits
pub decimal_bytes : (n : ℕ) → n < 2 ^ 64 → All (λ b. (48 ≤ b) × (b ≤ 57)) (decimal n)
decimal_bytes n fits =
    All-from_get_or (λ b. (48 ≤ b) × (b ≤ 57)) (decimal n) 0 (λ i inside. digit_at (decimal n) i (decimal_is_IsNumeral n fits).0.1 inside)

digit_is_ascii : (b : ℕ) → (48 ≤ b) × (b ≤ 57) → is_ascii_digit b ≡ true
digit_is_ascii b digit = grind (arith, nat_tests, digit.0, digit.1)

all_digits : (n : ℕ) → n < 2 ^ 64 → list_all is_ascii_digit (decimal n) ≡ true
all_digits n fits =
    list_all-from_AllPass is_ascii_digit (decimal n)
    (All-weaker (λ b. (48 ≤ b) × (b ≤ 57)) (λ b. is_ascii_digit b ≡ true) digit_is_ascii (decimal n) (decimal_bytes n fits))

is_number_decimal : (n : ℕ) → n < 2 ^ 64 → is_number (decimal n) ≡ true
is_number_decimal zero fits = rw (decimal_digit 0 (omega arith)) refl
is_number_decimal (suc k) fits =
    let first = first_decimal (suc k) (omega arith) fits in
    let some = decimal_nonempty (suc k) fits in
    let long : nat_le 1 (length (decimal (suc k))) ≡ true = grind (arith, nat_tests) in
    let no_zero : (slice_index (decimal (suc k)) 0 == 48) ≡ false = grind (arith, nat_tests) in
    rw (long, all_digits (suc k) fits, no_zero) refl

pub number_written : (greatest n : ℕ) → greatest < 2 ^ 64 → n ≤ greatest → number_up_to greatest (decimal n) ≡ Some n
number_written greatest n small inside =
    let fits : n < 2 ^ 64 = omega arith in
    let low : nat_le n greatest ≡ true = grind (arith, nat_tests) in
    rw (is_number_decimal n fits, (decimal_is_IsNumeral n fits).1, low) refl

-- ---- what is read

pub both_true : (a b : Bool) → (a && b) ≡ true → (a ≡ true) × (b ≡ true)
both_true true b is = (refl, is)
both_true false b is = absurd (cc)

digits_from : (word : List ℕ) → list_all is_ascii_digit word ≡ true → AllDigits 10 word
digits_from [] all = tt
digits_from (b ∷ word) all =
    let parts = both_true (is_ascii_digit b) (list_all is_ascii_digit word) all in
    let low : 48 ≤ b = grind (arith, nat_tests, parts.0) in
    let high : b ≤ 57 = grind (arith, nat_tests, parts.0) in
    (omega (arith, digit_value_digit b (low, high)), digits_from word parts.1)

-- a number is spelled in one way
spelled : (word : List ℕ) → is_number word ≡ true → value_of word < 2 ^ 64 → decimal (value_of word) ≡ word
spelled word is small =
    let parts = both_true (nat_le 1 (length word) && list_all is_ascii_digit word) (not (slice_index word 0 == 48) || length word == 1) is in
    let front = both_true (nat_le 1 (length word)) (list_all is_ascii_digit word) parts.0 in
    decimal-digits_value (numerals_by_value (AllDigits 10) tells_digits) word (digits_from word front.1) (grind (arith, nat_tests, front.0)) (alone parts.1) small
  where
    alone : (not (slice_index word 0 == 48) || length word == 1) ≡ true → get_or word 0 0 ≡ 48 → length word ≡ 1
    alone test first = let zero_first : (slice_index word 0 == 48) ≡ true = grind (arith, nat_tests) in grind (arith, nat_tests)

pub number_read : (greatest n : ℕ) (word : List ℕ) → greatest < 2 ^ 64 → number_up_to greatest word ≡ Some n → (decimal n ≡ word) × (n ≤ greatest)
number_read greatest n word small is = by_tests (is_number word) (nat_le (value_of word) greatest) refl refl is
  where
    by_tests : (number low : Bool) → is_number word ≡ number → nat_le (value_of word) greatest ≡ low
        → (if number && low then Some (value_of word) else None) ≡ Some n → (decimal n ≡ word) × (n ≤ greatest)
    by_tests true true number low is =
        let same : value_of word ≡ n = cc in
        let inside : value_of word ≤ greatest = grind (arith, nat_tests) in
        (ap decimal (sym same) ∙ spelled word number (omega arith), omega arith)
    by_tests true false number low is = absurd (cc)
    by_tests false low number _ is = absurd (cc)
