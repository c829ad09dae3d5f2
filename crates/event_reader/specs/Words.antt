-- The words of a line
use Rattle.std.specs.Prelude.{ℕ, Bool, ◌&&◌, ◌==◌, nat_le, if◌then◌else◌, List, length, Option, Some, None}
use Rattle.std.specs.List.{slice_split, list_all}
use Rattle.event_reader.specs.Limits.{line_words}

-- The test whether a byte is a space
abbrev pub is_space : ℕ → Bool
is_space b = b == 32

-- The parts of a line between its spaces
abbrev pub parts_of : List ℕ → List (List ℕ)
parts_of line = slice_split is_space line

-- The test whether a part is a word: it has a byte
abbrev pub is_word : List ℕ → Bool
is_word part = nat_le 1 (length part)

-- The words of a line, with one space between each two; None if one would be empty or there are too many
abbrev pub words_of : List ℕ → Option (List (List ℕ))
words_of line =
    if list_all is_word (parts_of line) && nat_le (length (parts_of line)) line_words then Some (parts_of line)
    else None
