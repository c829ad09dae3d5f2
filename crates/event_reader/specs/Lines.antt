-- How bytes are cut into lines
use Rattle.std.specs.Prelude.{◌≡◌, ℕ, ◌-◌, ◌<◌, Bool, true, false, ◌==◌, nat_le, fold, if◌then◌else◌, List, [], ◌∷◌, ◌++◌, length, take, drop, map, slice_index}
use Rattle.std.specs.List.{slice_split}
use Rattle.event_reader.specs.Limits.{longest_line, deciding_bytes}

-- The test whether a byte is an LF
abbrev pub is_line_feed : ℕ → Bool
is_line_feed b = b == 10

-- The bytes cut at each LF. Every piece but the last ends at one, and the last is what follows the last LF
abbrev pub pieces : List ℕ → List (List ℕ)
pieces bytes = slice_split is_line_feed bytes

-- The bytes behind the last LF
abbrev pub behind_last_feed : List ℕ → List ℕ
behind_last_feed bytes = fold (λ behind b. if is_line_feed b then [] else behind ++ b ∷ []) [] bytes

-- The pieces, with the last one only if it passes a test
unfoldable pub last_if : (List ℕ → Bool) → List (List ℕ) → List (List ℕ)
last_if test [] = []
last_if test (piece ∷ []) = if test piece then piece ∷ [] else []
last_if test (piece ∷ next ∷ more) = piece ∷ last_if test (next ∷ more)

-- The piece without one CR at its end
abbrev pub without_cr : List ℕ → List ℕ
without_cr piece = if slice_index piece (length piece - 1) == 13 then take (length piece - 1) piece else piece

-- The lines of a whole input. Its last piece is a line if it has a byte
abbrev pub lines_of : List ℕ → List (List ℕ)
lines_of input = map without_cr (last_if (λ piece. nat_le 1 (length piece)) (pieces input))

-- The lines that the front of an input decides, whatever follows it: those that end in it, and its last piece if that
-- has so many bytes that its line is too long
abbrev pub decided_lines : List ℕ → List (List ℕ)
decided_lines front = map without_cr (last_if (λ piece. nat_le deciding_bytes (length piece)) (pieces front))

-- Lines one after another, and whether they are cut off at the end, so that more lines may follow
pub record Reading : Type 0 where
  pub lines : List (List ℕ)
  pub cut : Bool

-- The lines of a whole input
abbrev pub whole : List ℕ → Reading
whole input = record { lines = lines_of input; cut = false }

-- The lines that the front of an input decides
abbrev pub front : List ℕ → Reading
front bytes = record { lines = decided_lines bytes; cut = true }

-- The lines of an input of which at most `room` bytes are read
unfoldable pub within : (room : ℕ) → List ℕ → Reading
within room input = if nat_le (length input) room then whole input else front (take room input)

-- The reading with one more line in front of the others
abbrev pub with_line : List ℕ → Reading → Reading
with_line line reading = record { lines = line ∷ reading.lines; cut = reading.cut }

-- What follows the first line of a reading
abbrev pub behind_first : Reading → Reading
behind_first reading = record { lines = drop 1 reading.lines; cut = reading.cut }

-- There is a first line, and it is too long
abbrev pub IsLongFirst : List (List ℕ) → Type 0
IsLongFirst lines = (line : List ℕ) × (more : List (List ℕ)) × (lines ≡ line ∷ more) × (longest_line < length line)
