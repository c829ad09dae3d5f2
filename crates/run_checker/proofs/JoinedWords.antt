-- The words of a line, with one space between each two.
use Rattle.std.proofs.Common.{◌≡◌, ℕ, ◌^◌, ◌<◌, ◌≤◌, Bool, true, false, ◌&&◌, nat_le, List, [], ◌∷◌, length, refl, sym, ◌∙◌, ap, arith, Some, None}
use Rattle.std.specs.Prelude.{decimal, if◌then◌else◌}
use Rattle.std.specs.List.{All, list_all, slice_split, join_with_byte}
use Rattle.std.proofs.lemmas.Bool.Decides.{nat_tests}
use Rattle.std.proofs.lemmas.Fmt.{decimal_nonempty}
use Rattle.std.proofs.lemmas.List.Elements.{All-nil, All-cons, All-append, All-head, All-tail, All-weaker}
use Rattle.std.proofs.lemmas.List.Splits.{slice_split_at, slice_split_none, join_with_byte-slice_split}
use Rattle.event_reader.specs.Limits.{line_words}
use Rattle.event_reader.specs.Words.{is_space, is_word, parts_of, words_of}
use Rattle.run_checker.proofs.Numbers.{decimal_bytes}

-- a word has a byte, and none that is a space or below
pub record IsPart (word : List ℕ) : Type 0 where
  pub some : 0 < length word
  pub visible : All (λ b. 32 < b) word

pub one_byte : (b : ℕ) → 32 < b → IsPart (b ∷ [])
one_byte b visible = record { some = omega arith; visible = All-cons (λ c. 32 < c) b [] visible (All-nil (λ c. 32 < c)) }

pub number_part : (n : ℕ) → n < 2 ^ 64 → IsPart (decimal n)
number_part n fits = record {
  some = decimal_nonempty n fits;
  visible = All-weaker (λ b. (48 ≤ b) × (b ≤ 57)) (λ b. 32 < b) (λ b digit. omega (arith, digit.0)) (decimal n) (decimal_bytes n fits);
}

no_space : (word : List ℕ) → IsPart word → All (λ b. is_space b ≡ false) word
no_space word part = All-weaker (λ b. 32 < b) (λ b. is_space b ≡ false) (λ b visible. grind (arith, nat_tests)) word part.visible

-- words that are joined are the parts of the line
parts_joined : (word : List ℕ) (words : List (List ℕ)) → All IsPart (word ∷ words) → slice_split is_space (join_with_byte 32 (word ∷ words)) ≡ word ∷ words
parts_joined word [] all = slice_split_none is_space word (no_space word (All-head IsPart word [] all))
parts_joined word (next ∷ words) all =
    slice_split_at is_space word 32 (join_with_byte 32 (next ∷ words)) (no_space word (All-head IsPart word (next ∷ words) all)) refl
    ∙ ap (λ parts. word ∷ parts) (parts_joined next words (All-tail IsPart word (next ∷ words) all))

all_words : (words : List (List ℕ)) → All IsPart words → list_all is_word words ≡ true
all_words [] all = refl
all_words (word ∷ words) all =
    let part = All-head IsPart word words all in
    let some : is_word word ≡ true = grind (arith, nat_tests, part.some) in
    rw (some, all_words words (All-tail IsPart word words all)) refl

pub words_joined : (word : List ℕ) (words : List (List ℕ)) → All IsPart (word ∷ words) → length words < line_words
    → words_of (join_with_byte 32 (word ∷ words)) ≡ Some (word ∷ words)
words_joined word words all few =
    let parts = parts_joined word words all in
    let room : nat_le (length (word ∷ words)) line_words ≡ true = grind (arith, nat_tests) in
    rw (parts, all_words (word ∷ words) all, room) refl

-- and the parts of a line, joined, are the line
pub joined_words : (line : List ℕ) (words : List (List ℕ)) → words_of line ≡ Some words → join_with_byte 32 words ≡ line
joined_words line words is = by_test (list_all is_word (parts_of line) && nat_le (length (parts_of line)) line_words) is
  where
    by_test : (test : Bool) → (if test then Some (parts_of line) else None) ≡ Some words → join_with_byte 32 words ≡ line
    by_test true is = let same : parts_of line ≡ words = cc in ap (join_with_byte 32) (sym same) ∙ join_with_byte-slice_split 32 line
    by_test false is = absurd (cc)

-- the bytes of a joined line are spaces, or stand above them
word_bytes : (word : List ℕ) → IsPart word → All (λ b. 32 ≤ b) word
word_bytes word part = All-weaker (λ b. 32 < b) (λ b. 32 ≤ b) (λ b visible. omega (arith, visible)) word part.visible

pub joined_bytes : (words : List (List ℕ)) → All IsPart words → All (λ b. 32 ≤ b) (join_with_byte 32 words)
joined_bytes [] all = All-nil (λ b. 32 ≤ b)
joined_bytes (word ∷ []) all = word_bytes word (All-head IsPart word [] all)
joined_bytes (word ∷ next ∷ words) all =
    All-append (λ b. 32 ≤ b) word (32 ∷ join_with_byte 32 (next ∷ words)) (word_bytes word (All-head IsPart word (next ∷ words) all))
    (All-cons (λ b. 32 ≤ b) 32 (join_with_byte 32 (next ∷ words)) (omega arith) (joined_bytes (next ∷ words) (All-tail IsPart word (next ∷ words) all)))
