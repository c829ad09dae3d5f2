-- What words say as numbers
use Rattle.std.specs.Prelude.{◌≡◌, ℕ, ◌+◌, Bool, true, not, ◌&&◌, ◌||◌, ◌==◌, nat_le, min, if◌then◌else◌, List, [], ◌∷◌, length, map, slice_index, Result, Ok, Err}
use Rattle.std.specs.Char.{is_ascii_digit}
use Rattle.std.specs.List.{list_all}
use Rattle.std.specs.Str.Parse.{digits_value}
use Rattle.event_reader.specs.Limits.{greatest_number}
use Rattle.event_reader.specs.declared.cause.Cause.{Cause}
use Rattle.event_reader.specs.declared.cause.Cause.TheVariants.{Form, Range as OutOfRange}
use Rattle.event_reader.specs.declared.number.Number.{Number}
use Rattle.event_reader.specs.declared.ranges.Range.{Range}
use Rattle.event_reader.specs.declared.number.Number.TheVariants.{Value, TooGreat, NotNumber}

-- The test whether a word is a number: one or more decimal digits, the first of which is no 0 unless it is the only one
abbrev pub is_number : List ℕ → Bool
is_number word =
    nat_le 1 (length word) && list_all is_ascii_digit word && (not (slice_index word 0 == 48) || length word == 1)

-- The number that decimal digits represent
abbrev pub value_of : List ℕ → ℕ
value_of word = digits_value 10 word

-- What a word says as a number: its value, that it is too great, or that it is no number
abbrev pub number_of : List ℕ → Number
number_of word =
    if is_number word then (if nat_le (value_of word) greatest_number then Value (value_of word) else TooGreat)
    else NotNumber

-- The test whether a number is in a range
abbrev pub is_in : Range → ℕ → Bool
is_in range n = nat_le range.least n && nat_le n range.greatest

-- The test whether numbers are in the ranges of their places
unfoldable pub are_in : List Range → List ℕ → Bool
are_in [] ns = true
are_in (range ∷ ranges) [] = true
are_in (range ∷ ranges) (n ∷ ns) = is_in range n && are_in ranges ns

-- The numbers that words say in their places. The cause is form if a word is no number, and else range if a number is
-- outside its place's range, however long it is
abbrev pub numbers_in : List Range → List (List ℕ) → Result (List ℕ) Cause
numbers_in ranges words =
    if list_all is_number words then (if are_in ranges (map value_of words) then Ok (map value_of words) else Err OutOfRange)
    else Err Form

-- The number that digits represent. One above the greatest number stands for all that are greater
abbrev pub cut_value : List ℕ → ℕ
cut_value word = min (value_of word) (greatest_number + 1)

-- All words are numbers, and `numbers` are what they say, cut in this way
pub record AreCutNumbers (words : List (List ℕ)) (numbers : List ℕ) : Type 0 where
  pub all : list_all is_number words ≡ true
  pub values : numbers ≡ map cut_value words
