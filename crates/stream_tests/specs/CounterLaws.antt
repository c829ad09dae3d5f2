-- The events of the tests' application are valid, and so are the lines that it writes
use Rattle.std.proofs.Common.{◌≡◌, ℕ, ◌^◌, ◌<◌, ◌≤◌, Bool, true, false, if◌then◌else◌, List, [], ◌∷◌, length, refl, ◌∙◌, ap, subst, arith, Some, Ok, Err}
use Rattle.std.specs.Prelude.{◌==◌, ◌||◌, decimal, nat_le, nat_lt, slice_index, slice_index_or}
use Rattle.std.specs.List.{All, IsDistinct, list_all}
use Rattle.std.proofs.lemmas.Bool.Decides.{nat_tests}
use Rattle.std.proofs.lemmas.Fmt.{decimal_is_IsNumeral, decimal_nonempty, first_decimal, length-decimal-le}
use Rattle.std.proofs.lemmas.List.Elements.{All-head, All-weaker, All-from_get_or}
use Rattle.std.proofs.lemmas.List.Sums.{list_all-from_AllPass}
use Rattle.std.proofs.lemmas.List.Splits.{slice_split_none}
use Rattle.std.proofs.lemmas.Str.Parse.{digit_at}
use Rattle.std.specs.Char.{is_ascii_digit}
use Rattle.morph_base.specs.declared.operation.Func.TheVariants.{Add}
use Rattle.morph_base.specs.Operations.{IsShaped, InLayout, reads}
use Rattle.morph_base.specs.Transactions.{Transaction}
use Rattle.morph_base.specs.Limits.{latest_time}
use Rattle.morph_base.proofs.ShapeLaws.{all_of}
use Rattle.event_reader.specs.Limits.{greatest_number, generated_events}
use Rattle.event_reader.specs.declared.cause.Cause.{Cause}
use Rattle.event_reader.specs.declared.cause.Cause.TheVariants.{Form, Range, Same}
use Rattle.event_reader.specs.declared.number.Number.{Number}
use Rattle.event_reader.specs.declared.number.Number.TheVariants.{Value, TooGreat, NotNumber}
use Rattle.event_reader.specs.declared.version.Version.{Version}
use Rattle.event_reader.specs.declared.version.Version.TheVariants.{One}
use Rattle.event_reader.specs.Versions.{greatest_of, is_version_line}
use Rattle.event_reader.specs.VersionLaws.{first_at_most, op_in-shaped}
use Rattle.event_reader.specs.Generated.{IsEventLine}
use Rattle.event_reader.specs.Numbers.{is_number, number_of}
use Rattle.event_reader.specs.Words.{is_space, is_word, parts_of, words_of}
use Rattle.event_reader.specs.Steps.{said_by, is_ignored, is_punctuation}
use Rattle.event_reader.specs.Reader.{IsOfWords, IsEventOf}
use Rattle.stream_tests.specs.Counter.{count_at, count_by, count_event, count_drawn}

count_is_valid : (version : Version) (size ts : ℕ) → 0 < ts → ts ≤ latest_time → 0 < size
    → IsEventOf version (record { tables = 1; size = size }) (count_at version ts)
unfolding IsDistinct
count_is_valid version size ts start end some = (
  record {
    after_start = start;
    latest = end;
    some = omega arith;
    few = omega arith;
    shaped = all_of IsShaped (count_at version ts).ops (
      op_in-shaped version Add (record { table = 0; id = 0 }) [] 1 (omega arith) (omega arith) (let most = first_at_most version in omega (arith, most)),
      tt,
    );
    distinct = (tt, tt);
  },
  all_of (λ op. All (InLayout (record { tables = 1; size = size })) (reads op)) (count_at version ts).ops (
    all_of (InLayout (record { tables = 1; size = size })) (record { table = 0; id = 0 } ∷ []) (record { table = omega arith; id = some }, tt),
    tt,
  ),
  all_of (λ op. op.high ≡ greatest_of version) (count_at version ts).ops (refl, tt),
)

-- Each event that words say is valid
pub count_valid : (size : ℕ) (version : Version) (words : List (List ℕ)) (e : Transaction) → count_event size version words ≡ Ok e
    → IsEventOf version (record { tables = 1; size = size }) e
count_valid size version words e is = by_count (length words == 2) (length words == 1) is
  where
    by_test : (ts : ℕ) (t : Bool) → (ts == 0 || (nat_lt latest_time ts || size == 0)) ≡ t → (if t then Err Range else Ok (count_at version ts)) ≡ Ok e
        → IsEventOf version (record { tables = 1; size = size }) e
    by_test ts true is said = absurd (cc)
    by_test ts false is said =
        let same : count_at version ts ≡ e = cc in
        subst (λ f. IsEventOf version (record { tables = 1; size = size }) f) same
        (count_is_valid version size ts (grind (arith, nat_tests, is)) (grind (arith, nat_tests, is)) (grind (arith, nat_tests, is)))

    by_number : (n : Number) → count_by version size n ≡ Ok e → IsEventOf version (record { tables = 1; size = size }) e
    by_number NotNumber said = absurd (cc)
    by_number TooGreat said = absurd (cc)
    by_number (Value ts) said = by_test ts (ts == 0 || (nat_lt latest_time ts || size == 0)) refl said

    by_count : (two one : Bool) → (if two then Err Same else (if one then count_by version size (number_of (slice_index_or words 0 [])) else Err Form)) ≡ Ok e
        → IsEventOf version (record { tables = 1; size = size }) e
    by_count true one said = absurd (cc)
    by_count false false said = absurd (cc)
    by_count false true said = by_number (number_of (slice_index_or words 0 [])) said

-- The causes are form, range and same
is_form : (cause : Cause) → Form ≡ cause → IsOfWords cause
is_form cause is = subst IsOfWords is tt

is_range : (cause : Cause) → Range ≡ cause → IsOfWords cause
is_range cause is = subst IsOfWords is tt

is_same : (cause : Cause) → Same ≡ cause → IsOfWords cause
is_same cause is = subst IsOfWords is tt

-- Words have no other causes than form, range and same
pub count_causes : (size : ℕ) (version : Version) (words : List (List ℕ)) (cause : Cause) → count_event size version words ≡ Err cause → IsOfWords cause
count_causes size version words cause is = by_count (length words == 2) (length words == 1) is
  where
    by_test : (ts : ℕ) (t : Bool) → (if t then Err Range else Ok (count_at version ts)) ≡ Err cause → IsOfWords cause
    by_test ts true said = is_range cause (cc)
    by_test ts false said = absurd (cc)

    by_number : (n : Number) → count_by version size n ≡ Err cause → IsOfWords cause
    by_number NotNumber said = is_form cause (cc)
    by_number TooGreat said = is_range cause (cc)
    by_number (Value ts) said = by_test ts (ts == 0 || (nat_lt latest_time ts || size == 0)) said

    by_count : (two one : Bool) → (if two then Err Same else (if one then count_by version size (number_of (slice_index_or words 0 [])) else Err Form)) ≡ Err cause
        → IsOfWords cause
    by_count true one said = is_same cause (cc)
    by_count false false said = is_form cause (cc)
    by_count false true said = by_number (number_of (slice_index_or words 0 [])) said

-- A number is a word of digits, which says it
digits_of : (n : ℕ) → n ≤ greatest_number → All (λ b. (48 ≤ b) × (b ≤ 57)) (decimal n)
digits_of n small =
    let fits : n < 2 ^ 64 = omega arith in
    All-from_get_or (λ b. (48 ≤ b) × (b ≤ 57)) (decimal n) 0 (λ i inside. digit_at (decimal n) i (decimal_is_IsNumeral n fits).0.1 inside)

no_space : (b : ℕ) → (48 ≤ b) × (b ≤ 57) → is_space b ≡ false
no_space b digit = grind (arith, nat_tests, digit.0)

is_ascii : (b : ℕ) → (48 ≤ b) × (b ≤ 57) → is_ascii_digit b ≡ true
is_ascii b digit = grind (arith, nat_tests, digit.0, digit.1)

words_of_decimal : (n : ℕ) → n ≤ greatest_number → words_of (decimal n) ≡ Some (decimal n ∷ [])
words_of_decimal n small =
    let fits : n < 2 ^ 64 = omega arith in
    let some = decimal_nonempty n fits in
    let word : is_word (decimal n) ≡ true = grind (arith, nat_tests) in
    let parts : parts_of (decimal n) ≡ decimal n ∷ []
    = slice_split_none is_space (decimal n) (All-weaker (λ b. (48 ≤ b) × (b ≤ 57)) (λ b. is_space b ≡ false) no_space (decimal n) (digits_of n small)) in
    rw (parts, word) refl

all_ascii : (n : ℕ) → n ≤ greatest_number → list_all is_ascii_digit (decimal n) ≡ true
all_ascii n small =
    list_all-from_AllPass is_ascii_digit (decimal n)
    (All-weaker (λ b. (48 ≤ b) × (b ≤ 57)) (λ b. is_ascii_digit b ≡ true) is_ascii (decimal n) (digits_of n small))

number_is : (n : ℕ) → 0 < n → n ≤ greatest_number → is_number (decimal n) ≡ true
number_is n start small =
    let fits : n < 2 ^ 64 = omega arith in
    let first = first_decimal n start fits in
    let some = decimal_nonempty n fits in
    let long : nat_le 1 (length (decimal n)) ≡ true = grind (arith, nat_tests) in
    let no_zero : (slice_index (decimal n) 0 == 48) ≡ false = grind (arith, nat_tests) in
    rw (long, all_ascii n small, no_zero) refl

decimal_says : (n : ℕ) → 0 < n → n ≤ greatest_number → number_of (decimal n) ≡ Value n
decimal_says n start small =
    let fits : n < 2 ^ 64 = omega arith in
    let low : nat_le n greatest_number ≡ true = grind (arith, nat_tests) in
    rw (number_is n start small, (decimal_is_IsNumeral n fits).1, low) refl

-- The line of an event is neither ignored nor a punctuation
counts_decimal : (bytes : List ℕ) → All (λ b. (48 ≤ b) × (b ≤ 57)) bytes → 0 < length bytes → is_ignored bytes ≡ false
counts_decimal [] digits some = absurd (omega arith)
counts_decimal (b ∷ bytes) digits some =
    let first = All-head (λ b. (48 ≤ b) × (b ≤ 57)) b bytes digits in
    let long : (length (b ∷ bytes) == 0) ≡ false = grind (arith, nat_tests) in
    let other : (b == 35) ≡ false = grind (arith, nat_tests, first.0) in
    rw (long, other) refl

no_mark_decimal : (bytes : List ℕ) → All (λ b. (48 ≤ b) × (b ≤ 57)) bytes → is_punctuation bytes ≡ false
no_mark_decimal [] digits = refl
no_mark_decimal (b ∷ bytes) digits =
    let first = All-head (λ b. (48 ≤ b) × (b ≤ 57)) b bytes digits in
    let other : (b == 80) ≡ false = grind (arith, nat_tests, first.1) in
    rw other refl

no_version_decimal : (bytes : List ℕ) → All (λ b. (48 ≤ b) × (b ≤ 57)) bytes → is_version_line bytes ≡ false
no_version_decimal [] digits = refl
no_version_decimal (b ∷ bytes) digits =
    let first = All-head (λ b. (48 ≤ b) × (b ≤ 57)) b bytes digits in
    let other : (b == 109) ≡ false = grind (arith, nat_tests, first.1) in
    rw other refl

printable : (b : ℕ) → (48 ≤ b) × (b ≤ 57) → 32 ≤ b
printable b digit = omega (arith, digit.0)

-- Each line that the application writes is an event's, at the time of its number
pub count_generates : (size i state : ℕ) → 0 < size → 0 < i → i ≤ generated_events → IsEventLine (count_event size One) i (count_drawn i state).line
count_generates size i state some start last =
    let small : i ≤ greatest_number = omega arith in
    let fits : i < 2 ^ 64 = omega arith in
    let long = decimal_nonempty i fits in
    let later : (i == 0 || (nat_lt latest_time i || size == 0)) ≡ false = grind (arith, nat_tests) in
    let digits = digits_of i small in
    let short = length-decimal-le 13 i (omega arith) (omega arith) (omega arith) in
    record {
      event = count_at One i;
      says = ap (said_by (count_event size One)) (words_of_decimal i small) ∙ ap (count_by One size) (decimal_says i start small) ∙ rw later refl;
      time = refl;
      printable = All-weaker (λ b. (48 ≤ b) × (b ≤ 57)) (λ b. 32 ≤ b) printable (decimal i) digits;
      counts = counts_decimal (decimal i) digits long;
      no_mark = no_mark_decimal (decimal i) digits;
      no_version = no_version_decimal (decimal i) digits;
      short = omega (arith, short);
    }
