-- Lines of one letter and numbers: their words, what these say, and their bytes.
use Rattle.std.proofs.Common.{◌≡◌, ℕ, zero, suc, ◌+◌, ◌*◌, ◌^◌, ◌<◌, ◌≤◌, Bool, true, false, ◌&&◌, nat_le, List, [], ◌∷◌, ◌++◌, length, take, get_or, map, refl, sym, ◌∙◌, ap, arith, Some, Ok, append_assoc, append-nil, length-append}
use Rattle.std.specs.Prelude.{◌==◌, decimal, slice_index}
use Rattle.std.specs.Char.{is_ascii_digit}
use Rattle.std.specs.List.{All, list_all, slice_split}
use Rattle.std.proofs.lemmas.Bool.Decides.{nat_tests}
use Rattle.std.proofs.lemmas.Fmt.{decimal_is_IsNumeral, decimal_digit, decimal_nonempty, first_decimal, length-decimal-le}
use Rattle.std.proofs.lemmas.List.{take_more, length-map}
use Rattle.std.proofs.lemmas.List.Elements.{All-nil, All-cons, All-append, All-head, All-tail, All-weaker, All-from_get_or}
use Rattle.std.proofs.lemmas.List.Sums.{list_all-from_AllPass}
use Rattle.std.proofs.lemmas.List.Splits.{slice_split_at, slice_split_none}
use Rattle.std.proofs.lemmas.Str.Parse.{digit_at}
use Rattle.morph_base.specs.Transactions.{Transaction}
use Rattle.event_reader.specs.Limits.{greatest_number, line_words}
use Rattle.event_reader.specs.declared.ranges.Range.{Range}
use Rattle.event_reader.specs.Versions.{is_version_line}
use Rattle.event_reader.specs.Generated.{IsEventLine}
use Rattle.event_reader.specs.Numbers.{is_number, value_of, are_in, numbers_in}
use Rattle.event_reader.specs.PlainLines.{spaced, plain_line}
use Rattle.event_reader.specs.Steps.{Saying, said_by, is_ignored, is_punctuation}
use Rattle.event_reader.specs.Words.{is_space, is_word, parts_of, words_of}

-- a number that a word can say
abbrev pub IsSmall : ℕ → Type 0
IsSmall n = n ≤ greatest_number

spaced_append : (ms ns : List ℕ) → spaced (ms ++ ns) ≡ spaced ms ++ spaced ns
unfolding spaced
spaced_append [] ns = refl
spaced_append (m ∷ ms) ns =
    ap (λ rest. 32 ∷ (decimal m ++ rest)) (spaced_append ms ns) ∙ ap (λ rest. 32 ∷ rest) (sym (append_assoc (decimal m) (spaced ms) (spaced ns)))

-- a number more
pub plain_more : (letter : ℕ) (ns line spaced_line longer : List ℕ) (i : ℕ) → i < length ns → line ≡ plain_line letter (take i ns)
    → spaced_line ≡ line ++ 32 ∷ [] → longer ≡ spaced_line ++ decimal (get_or ns i 0) → longer ≡ plain_line letter (take (i + 1) ns)
unfolding spaced
plain_more letter ns line spaced_line longer i inside is space digits =
    let n = get_or ns i 0 in
    digits ∙ ap (λ front. front ++ decimal n) space
    ∙ append_assoc line (32 ∷ []) (decimal n)
    ∙ ap (λ front. front ++ 32 ∷ decimal n) is
    ∙ ap (λ digits. letter ∷ (spaced (take i ns) ++ 32 ∷ digits)) (sym (append-nil (decimal n)))
    ∙ ap (λ rest. letter ∷ rest) (sym (spaced_append (take i ns) (n ∷ [])))
    ∙ ap (plain_line letter) (sym (take_more ns i 0 inside))

-- the bytes of a number are digits
decimal_bytes : (n : ℕ) → IsSmall n → All (λ b. (48 ≤ b) × (b ≤ 57)) (decimal n)
decimal_bytes n small =
    let fits : n < 2 ^ 64 = omega arith in
    All-from_get_or (λ b. (48 ≤ b) × (b ≤ 57)) (decimal n) 0 (λ i inside. digit_at (decimal n) i (decimal_is_IsNumeral n fits).0.1 inside)

digit_no_space : (b : ℕ) → (48 ≤ b) × (b ≤ 57) → is_space b ≡ false
digit_no_space b digit = grind (arith, nat_tests, digit.0)

no_space : (n : ℕ) → IsSmall n → All (λ b. is_space b ≡ false) (decimal n)
no_space n small = All-weaker (λ b. (48 ≤ b) × (b ≤ 57)) (λ b. is_space b ≡ false) digit_no_space (decimal n) (decimal_bytes n small)

-- a word in front of numbers is the first part
parts_spaced : (word ns : List ℕ) → All (λ b. is_space b ≡ false) word → All IsSmall ns → slice_split is_space (word ++ spaced ns) ≡ word ∷ map decimal ns
unfolding spaced
parts_spaced word [] none small = ap (slice_split is_space) (append-nil word) ∙ slice_split_none is_space word none
parts_spaced word (n ∷ ns) none small =
    slice_split_at is_space word 32 (decimal n ++ spaced ns) none refl
    ∙ ap (λ parts. word ∷ parts) (parts_spaced (decimal n) ns (no_space n (All-head IsSmall n ns small)) (All-tail IsSmall n ns small))

-- numbers are words
number_is_word : (n : ℕ) → IsSmall n → is_word (decimal n) ≡ true
number_is_word n small =
    let fits : n < 2 ^ 64 = omega arith in
    let some = decimal_nonempty n fits in
    grind (arith, nat_tests)

numbers_are_words : (ns : List ℕ) → All IsSmall ns → list_all is_word (map decimal ns) ≡ true
numbers_are_words [] small = refl
numbers_are_words (n ∷ ns) small =
    rw (number_is_word n (All-head IsSmall n ns small), numbers_are_words ns (All-tail IsSmall n ns small)) refl

-- the words of a plain line
pub words_plain : (letter : ℕ) (ns : List ℕ) → 32 < letter → length ns < line_words → All IsSmall ns
    → words_of (plain_line letter ns) ≡ Some ((letter ∷ []) ∷ map decimal ns)
words_plain letter ns visible few small =
    let other : is_space letter ≡ false = grind (arith, nat_tests) in
    let none = All-cons (λ b. is_space b ≡ false) letter [] other (All-nil (λ b. is_space b ≡ false)) in
    let parts : parts_of (plain_line letter ns) ≡ (letter ∷ []) ∷ map decimal ns = parts_spaced (letter ∷ []) ns none small in
    let room : nat_le (length ((letter ∷ []) ∷ map decimal ns)) line_words ≡ true = grind (arith, nat_tests, length-map ns decimal) in
    rw (parts, numbers_are_words ns small, room) refl

-- what they say
digit_is_ascii : (b : ℕ) → (48 ≤ b) × (b ≤ 57) → is_ascii_digit b ≡ true
digit_is_ascii b digit = grind (arith, nat_tests, digit.0, digit.1)

all_digits : (n : ℕ) → IsSmall n → list_all is_ascii_digit (decimal n) ≡ true
all_digits n small =
    list_all-from_AllPass is_ascii_digit (decimal n)
    (All-weaker (λ b. (48 ≤ b) × (b ≤ 57)) (λ b. is_ascii_digit b ≡ true) digit_is_ascii (decimal n) (decimal_bytes n small))

number_of_decimal : (n : ℕ) → IsSmall n → is_number (decimal n) ≡ true
number_of_decimal zero small = rw (decimal_digit 0 (omega arith)) refl
number_of_decimal (suc k) small =
    let fits : suc k < 2 ^ 64 = omega arith in
    let first = first_decimal (suc k) (omega arith) fits in
    let some = decimal_nonempty (suc k) fits in
    let long : nat_le 1 (length (decimal (suc k))) ≡ true = grind (arith, nat_tests) in
    let no_zero : (slice_index (decimal (suc k)) 0 == 48) ≡ false = grind (arith, nat_tests) in
    rw (long, all_digits (suc k) small, no_zero) refl

values_of_decimals : (ns : List ℕ) → All IsSmall ns → map value_of (map decimal ns) ≡ ns
values_of_decimals [] small = refl
values_of_decimals (n ∷ ns) small =
    let here = All-head IsSmall n ns small in
    let fits : n < 2 ^ 64 = omega arith in
    rw ((decimal_is_IsNumeral n fits).1, values_of_decimals ns (All-tail IsSmall n ns small)) refl

numbers_of_decimals : (ns : List ℕ) → All IsSmall ns → list_all is_number (map decimal ns) ≡ true
numbers_of_decimals [] small = refl
numbers_of_decimals (n ∷ ns) small =
    rw (number_of_decimal n (All-head IsSmall n ns small), numbers_of_decimals ns (All-tail IsSmall n ns small)) refl

pub numbers_plain : (ranges : List Range) (ns : List ℕ) → All IsSmall ns → are_in ranges ns ≡ true → numbers_in ranges (map decimal ns) ≡ Ok ns
numbers_plain ranges ns small fits =
    rw (numbers_of_decimals ns small, values_of_decimals ns small, fits) refl

-- the bytes of such a line
spaced_bytes : (ns : List ℕ) → All IsSmall ns → All (λ b. 32 ≤ b) (spaced ns)
unfolding spaced
spaced_bytes [] small = All-nil (λ b. 32 ≤ b)
spaced_bytes (n ∷ ns) small =
    let digits = All-weaker (λ b. (48 ≤ b) × (b ≤ 57)) (λ b. 32 ≤ b) (λ b digit. omega (arith, digit.0)) (decimal n) (decimal_bytes n (All-head IsSmall n ns small)) in
    let rest = spaced_bytes ns (All-tail IsSmall n ns small) in
    All-cons (λ b. 32 ≤ b) 32 (decimal n ++ spaced ns) (omega arith) (All-append (λ b. 32 ≤ b) (decimal n) (spaced ns) digits rest)

length-spaced : (ns : List ℕ) → All IsSmall ns → length (spaced ns) ≤ 15 * length ns
unfolding spaced
length-spaced [] small = omega arith
length-spaced (n ∷ ns) small =
    let here = All-head IsSmall n ns small in
    let digits = length-decimal-le 14 n (omega arith) (omega arith) (omega arith) in
    omega (arith, length-append (decimal n) (spaced ns), digits, length-spaced ns (All-tail IsSmall n ns small))

counts_plain : (letter : ℕ) (ns : List ℕ) → 35 < letter → is_ignored (plain_line letter ns) ≡ false
counts_plain letter ns visible =
    let some : (length (plain_line letter ns) == 0) ≡ false = grind (arith, nat_tests) in
    let other : (letter == 35) ≡ false = grind (arith, nat_tests) in
    rw (some, other) refl

no_and : (b : Bool) → (b && false) ≡ false
no_and true = refl
no_and false = refl

no_mark_plain : (letter : ℕ) (ns : List ℕ) → 0 < length ns → is_punctuation (plain_line letter ns) ≡ false
unfolding spaced
no_mark_plain letter [] some = absurd (omega arith)
no_mark_plain letter (n ∷ ns) some = no_and (letter == 80)

no_version_plain : (letter : ℕ) (ns : List ℕ) → 0 < length ns → is_version_line (plain_line letter ns) ≡ false
unfolding spaced
no_version_plain letter [] some = absurd (omega arith)
no_version_plain letter (n ∷ ns) some = no_and (letter == 109)

-- a plain line whose words are an event at a time is a line of it
pub plain_event : (meaning : Saying) (i letter : ℕ) (ns : List ℕ) (e : Transaction) → 35 < letter → 0 < length ns → length ns < line_words → All IsSmall ns
    → meaning ((letter ∷ []) ∷ map decimal ns) ≡ Ok e → e.ts ≡ i → IsEventLine meaning i (plain_line letter ns)
plain_event meaning i letter ns e visible some few small says time =
    let words = words_plain letter ns (omega arith) few small in record {
      event = e;
      says = ap (said_by meaning) words ∙ says;
      time = time;
      printable = All-cons (λ b. 32 ≤ b) letter (spaced ns) (omega arith) (spaced_bytes ns small);
      counts = counts_plain letter ns (omega arith);
      no_mark = no_mark_plain letter ns some;
      no_version = no_version_plain letter ns some;
      short = omega (arith, length-spaced ns small);
    }
