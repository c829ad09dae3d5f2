-- Bytes cut at each byte of one kind, and lines.
use Rattle.std.proofs.Common.{◌≡◌, ℕ, ◌+◌, ◌-◌, ◌<◌, ◌≤◌, Bool, true, false, if◌then◌else◌, List, [], ◌∷◌, ◌++◌, length, take, drop, map, None, Some, refl, sym, ◌∙◌, ap, arith, inl, inr, append_assoc, append-nil, length-append, lt-ltb}
use Rattle.std.specs.List.{slice_split, onto_first, position, position_or_len, All}
use Rattle.std.specs.Prelude.{slice_index, ◌==◌}
use Rattle.std.proofs.lemmas.Bool.{cases_lt, false_from_ne_true}
use Rattle.std.proofs.lemmas.List.{take-append-drop, drop_more, length-take-le, get_or-take, length-take}
use Rattle.std.proofs.lemmas.List.Elements.{All-head, All-tail, All-from_get_or}
use Rattle.std.proofs.lemmas.List.Quantifiers.{position-Some}
use Rattle.std.proofs.lemmas.List.Sums.{fails_before_first}
use Rattle.std.proofs.lemmas.List.Splits.{slice_split_at, slice_split_none, slice_split-cons_no}
use Rattle.memchr.specs.Find.{NoneBefore, Nowhere, Passes}
use Rattle.event_reader.specs.Limits.{deciding_bytes}
use Rattle.event_reader.specs.Lines.{is_line_feed, pieces, last_if, without_cr, IsLongFirst}

-- where no byte passes a test, none does
pub none_pass : (test : ℕ → Bool) (bytes : List ℕ) → Nowhere (Passes test bytes) 0 (length bytes) → All (λ b. test b ≡ false) bytes
none_pass test bytes h =
    All-from_get_or (λ b. test b ≡ false) bytes 0 (λ i lt. false_from_ne_true _ (h i (omega arith) lt))

-- no byte in front of the first that passes does
pub none_pass_before : (test : ℕ → Bool) (bytes : List ℕ) (at : ℕ) → NoneBefore (Passes test bytes) 0 (length bytes) at → All (λ b. test b ≡ false) (take at bytes)
none_pass_before test bytes at h =
    let inside : at ≤ length bytes = omega (arith, h.high) in
    let long : length (take at bytes) ≡ at = length-take-le at bytes inside in
    All-from_get_or (λ b. test b ≡ false) (take at bytes) 0
    (λ i lt. let lt' : i < at = omega arith in rw get_or-take (false_from_ne_true _ (h.before i (omega arith) lt')))

-- bytes are those in front of a place, the one there, and those behind it
pub split_at_place : (bytes rest : List ℕ) (at : ℕ) → at < length bytes
    → bytes ++ rest ≡ take at bytes ++ slice_index bytes at ∷ (drop (at + 1) bytes ++ rest)
split_at_place bytes rest at h =
    ap (λ xs. xs ++ rest) (sym (take-append-drop at bytes) ∙ ap (λ xs. take at bytes ++ xs) (drop_more bytes at 0 h))
    ∙ append_assoc (take at bytes) (slice_index bytes at ∷ drop (at + 1) bytes) rest

-- there is a first piece
pub some_piece : (test : ℕ → Bool) (bytes : List ℕ) → (piece : List ℕ) × (more : List (List ℕ)) × (slice_split test bytes ≡ piece ∷ more)
some_piece test [] = ([], [], refl)
some_piece test (b ∷ bytes) = found (test b) (some_piece test bytes)
  where
    found : (t : Bool) → (piece : List ℕ) × (more : List (List ℕ)) × (slice_split test bytes ≡ piece ∷ more)
        → (piece : List ℕ) × (more : List (List ℕ)) × ((if t then [] ∷ slice_split test bytes else onto_first b (slice_split test bytes)) ≡ piece ∷ more)
    found true (piece, more, is) = ([], slice_split test bytes, refl)
    found false (piece, more, is) = (b ∷ piece, more, ap (onto_first b) is)

-- bytes that do not pass stand in front of the first piece of what follows them
pub first_piece : (test : ℕ → Bool) (bytes rest piece : List ℕ) (more : List (List ℕ)) → All (λ b. test b ≡ false) bytes
    → slice_split test rest ≡ piece ∷ more → slice_split test (bytes ++ rest) ≡ (bytes ++ piece) ∷ more
first_piece test [] rest piece more none is = is
first_piece test (b ∷ bytes) rest piece more none is =
    slice_split-cons_no test b (bytes ++ rest) (All-head (λ c. test c ≡ false) b bytes none)
    ∙ ap (onto_first b) (first_piece test bytes rest piece more (All-tail (λ c. test c ≡ false) b bytes none) is)

-- the lines that a test of the last piece gives
abbrev pub lines_by : (List ℕ → Bool) → List ℕ → List (List ℕ)
lines_by test bytes = map without_cr (last_if test (pieces bytes))

-- a piece in front of others stays
pub last_if-cons : (test : List ℕ → Bool) (piece bytes : List ℕ) → last_if test (piece ∷ pieces bytes) ≡ piece ∷ last_if test (pieces bytes)
unfolding last_if
last_if-cons test piece bytes =
    let some = some_piece is_line_feed bytes in
    rw some.2 refl

-- the bytes up to an LF are a line
pub line_at : (test : List ℕ → Bool) (bytes rest : List ℕ) → All (λ b. is_line_feed b ≡ false) bytes
    → lines_by test (bytes ++ 10 ∷ rest) ≡ without_cr bytes ∷ lines_by test rest
line_at test bytes rest none =
    ap (λ ps. map without_cr (last_if test ps)) (slice_split_at is_line_feed bytes 10 rest none refl)
    ∙ ap (map without_cr) (last_if-cons test bytes rest)

-- bytes without an LF are one piece, the last
pub lines_open : (test : List ℕ → Bool) (bytes : List ℕ) → All (λ b. is_line_feed b ≡ false) bytes
    → lines_by test bytes ≡ map without_cr (if test bytes then bytes ∷ [] else [])
unfolding last_if
lines_open test bytes none = ap (λ ps. map without_cr (last_if test ps)) (slice_split_none is_line_feed bytes none)

-- the last piece may be the first
pub first_if : (test : List ℕ → Bool) (piece : List ℕ) (more : List (List ℕ)) → test piece ≡ true
    → (rest : List (List ℕ)) × (map without_cr (last_if test (piece ∷ more)) ≡ without_cr piece ∷ rest)
unfolding last_if
first_if test piece [] passes = ([], rw passes refl)
first_if test piece (next ∷ more) passes = (map without_cr (last_if test (next ∷ more)), refl)

-- a piece has at most one byte more than its line
pub length-without_cr : (piece : List ℕ) → length piece ≤ length (without_cr piece) + 1
length-without_cr piece = by_test (slice_index piece (length piece - 1) == 13)
  where
    by_test : (t : Bool) → length piece ≤ length (if t then take (length piece - 1) piece else piece) + 1
    by_test true = omega (arith, length-take (length piece - 1) piece)
    by_test false = omega arith

-- so many bytes without an LF begin a line that is too long, whatever follows them
pub long_open : (test : List ℕ → Bool) → ((piece : List ℕ) → deciding_bytes ≤ length piece → test piece ≡ true) → (bytes rest : List ℕ)
    → All (λ b. is_line_feed b ≡ false) bytes → deciding_bytes ≤ length bytes → IsLongFirst (lines_by test (bytes ++ rest))
long_open test passes bytes rest none many =
    let some = some_piece is_line_feed rest in
    let long : deciding_bytes ≤ length (bytes ++ some.0) = omega (arith, length-append bytes some.0) in
    let line = first_if test (bytes ++ some.0) some.1 (passes (bytes ++ some.0) long) in
    let is : lines_by test (bytes ++ rest) ≡ without_cr (bytes ++ some.0) ∷ line.0
    = ap (λ ps. map without_cr (last_if test ps)) (first_piece is_line_feed bytes rest some.0 some.1 none some.2) ∙ line.1 in
    (without_cr (bytes ++ some.0), line.0, is, omega (arith, length-without_cr (bytes ++ some.0)))

-- the first part ends at the first byte that passes
pub first_split : (test : ℕ → Bool) (bytes : List ℕ) (at : ℕ) → position test bytes ≡ Some at → slice_split test bytes ≡ take at bytes ∷ slice_split test (drop (at + 1) bytes)
first_split test bytes at is =
    let first = position-Some test bytes at 0 is in
    let long : length (take at bytes) ≡ at = length-take-le at bytes (omega (arith, first.0)) in
    let before : All (λ b. test b ≡ false) (take at bytes)
    = All-from_get_or (λ b. test b ≡ false) (take at bytes) 0 (λ i lt. let lt' : i < at = omega arith in rw get_or-take (first.2 i lt')) in
    ap (slice_split test) (sym (append-nil bytes) ∙ split_at_place bytes [] at first.0)
    ∙ slice_split_at test (take at bytes) (slice_index bytes at) (drop (at + 1) bytes ++ []) before first.1
    ∙ ap (λ rest. take at bytes ∷ slice_split test rest) (append-nil (drop (at + 1) bytes))

-- where no byte passes there is one part
pub no_split : (test : ℕ → Bool) (bytes : List ℕ) → position test bytes ≡ None → slice_split test bytes ≡ bytes ∷ []
no_split test bytes none =
    slice_split_none test bytes
    (All-from_get_or (λ b. test b ≡ false) bytes 0
    (λ k lt. elim (cases_lt (position_or_len test bytes) (length bytes)) [
      | inl inside ↦ (let found : Some (position_or_len test bytes) ≡ None = rw (lt-ltb (position_or_len test bytes) (length bytes) inside) at none in cc)
      | inr past ↦ fails_before_first test bytes k 0 (omega arith)
    ]))
