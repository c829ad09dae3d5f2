-- A line that begins with digits: its first part, and what follows that.
use Rattle.std.proofs.Common.{◌≡◌, ℕ, ◌+◌, ◌<◌, true, false, List, [], ◌∷◌, ◌++◌, length, take, drop, get_or, refl, sym, ◌∙◌, ap, arith, append-nil}
use Rattle.std.specs.Char.{is_ascii_digit}
use Rattle.std.specs.List.{All, list_all, slice_split, onto_first}
use Rattle.std.proofs.lemmas.Bool.{and_parts}
use Rattle.std.proofs.lemmas.Bool.Decides.{nat_tests}
use Rattle.std.proofs.lemmas.List.{drop_more, drop_all, take-append-drop}
use Rattle.std.proofs.lemmas.List.Elements.{All-nil, All-cons}
use Rattle.std.proofs.lemmas.List.Folds.{list_all-append}
use Rattle.std.proofs.lemmas.List.Splits.{slice_split-cons_no}
use Rattle.event_reader.specs.Words.{is_space, parts_of}
use Rattle.event_reader.proofs.Pieces.{some_piece, first_piece}

-- digits are no spaces
no_space : (byte : ℕ) → is_ascii_digit byte ≡ true → is_space byte ≡ false
no_space byte digit = grind (arith, nat_tests)

no_spaces : (digits : List ℕ) → list_all is_ascii_digit digits ≡ true → All (λ b. is_space b ≡ false) digits
no_spaces [] all = All-nil (λ b. is_space b ≡ false)
no_spaces (digit ∷ digits) all =
    let parts = and_parts (is_ascii_digit digit) (list_all is_ascii_digit digits) all in
    All-cons (λ b. is_space b ≡ false) digit digits (no_space digit parts.0) (no_spaces digits parts.1)

-- the digits stand in front of the first part of what follows them
behind : (line : List ℕ) (len : ℕ) (part : List ℕ) (more : List (List ℕ)) → list_all is_ascii_digit (take len line) ≡ true
    → slice_split is_space (drop len line) ≡ part ∷ more → parts_of line ≡ (take len line ++ part) ∷ more
behind line len part more digits rest =
    ap (slice_split is_space) (sym (take-append-drop len line))
    ∙ first_piece is_space (take len line) (drop len line) part more (no_spaces (take len line) digits) rest

-- nothing follows them
pub to_the_end : (line : List ℕ) (len : ℕ) → list_all is_ascii_digit (take len line) ≡ true → length line ≡ len
    → parts_of line ≡ take len line ∷ []
to_the_end line len digits all =
    let none : slice_split is_space (drop len line) ≡ [] ∷ [] = ap (slice_split is_space) (drop_all len line (omega arith)) in
    behind line len [] [] digits none ∙ ap (λ part. part ∷ []) (append-nil (take len line))

-- a space does
pub to_a_space : (line : List ℕ) (len : ℕ) → list_all is_ascii_digit (take len line) ≡ true → len < length line → get_or line len 0 ≡ 32
    → parts_of line ≡ take len line ∷ parts_of (drop (len + 1) line)
to_a_space line len digits inside space =
    let first : slice_split is_space (drop len line) ≡ [] ∷ parts_of (drop (len + 1) line)
    = ap (slice_split is_space) (drop_more line len 0 inside ∙ ap (λ b. b ∷ drop (len + 1) line) space) in
    behind line len [] (parts_of (drop (len + 1) line)) digits first
    ∙ ap (λ part. part ∷ parts_of (drop (len + 1) line)) (append-nil (take len line))

-- another byte does
pub to_another : (line : List ℕ) (len : ℕ) → list_all is_ascii_digit (take len line) ≡ true → len < length line
    → is_ascii_digit (get_or line len 0) ≡ false → is_space (get_or line len 0) ≡ false
    → list_all is_ascii_digit (get_or (parts_of line) 0 []) ≡ false
to_another line len digits inside none other =
    let byte = get_or line len 0 in
    let some = some_piece is_space (drop (len + 1) line) in
    let first : slice_split is_space (drop len line) ≡ (byte ∷ some.0) ∷ some.1
    = ap (slice_split is_space) (drop_more line len 0 inside)
    ∙ slice_split-cons_no is_space byte (drop (len + 1) line) other
    ∙ ap (onto_first byte) some.2 in
    let parts = behind line len (byte ∷ some.0) some.1 digits first in
    ap (λ ps. list_all is_ascii_digit (get_or ps 0 [])) parts
    ∙ list_all-append is_ascii_digit (take len line) (byte ∷ some.0)
    ∙ rw (digits, none) refl
