-- Inside the crate: a line that is taken part by part
use Rattle.std.specs.Prelude.{◌≡◌, ℕ, ◌+◌, ◌<◌, ◌≤◌, true, false, ◌&&◌, nat_le, if◌then◌else◌, List, [], ◌∷◌, length, map, take, drop, slice_index_or, Option, Some, None}
use Rattle.std.specs.Borrow.{Bor}
use Rattle.std.specs.List.{list_all}
use Rattle.event_reader.specs.Limits.{line_words}
use Rattle.event_reader.specs.Words.{is_word, parts_of}
use Rattle.event_reader.specs.Numbers.{is_number, cut_value}

-- The parts of what follows a part of a line: none if nothing follows it
abbrev pub parts_after : Option (Bor (List ℕ)) → List (List ℕ)
parts_after None = []
parts_after (Some rest) = parts_of rest.now

-- If the line has more than one part, the others are those of `rest`
abbrev pub HasRest : (line rest : List ℕ) → Type 0
HasRest line rest = 1 < length (parts_of line) → parts_of rest ≡ drop 1 (parts_of line)

-- The first part of the line says `number`, which stands for all greater ones if it is one above the greatest. The
-- other parts are `others`
pub record StartsWithNumber (line : List ℕ) (number : ℕ) (others : List (List ℕ)) : Type 0 where
  pub part : List ℕ
  pub parts : parts_of line ≡ part ∷ others
  pub is : is_number part ≡ true
  pub says : number ≡ cut_value part

-- How many parts there are, if all are words and there are at most so many
abbrev pub counted : (most : ℕ) → List (List ℕ) → Option ℕ
counted most parts = if list_all is_word parts && nat_le (length parts) most then Some (length parts) else None

-- The first `known` parts are numbers, and `numbers` begins with what they say, cut at one above the greatest
pub record AreNumbersUpTo (parts : List (List ℕ)) (known : ℕ) (numbers : List ℕ) : Type 0 where
  pub inside : known ≤ length parts
  pub all : list_all is_number (take known parts) ≡ true
  pub values : take known numbers ≡ map cut_value (take known parts)

-- The parts are cut into those that are known as numbers, and the others. If there was room for more numbers, the first
-- of the others is none
pub record AreCutUpTo (parts : List (List ℕ)) (known : ℕ) (numbers : List ℕ) (others : List (List ℕ)) : Type 0 where
  pub numbers_are : AreNumbersUpTo parts known numbers
  pub few : known < line_words
  pub others_are : others ≡ drop known parts
  pub stops : known + 1 < line_words → 0 < length others → is_number (slice_index_or others 0 []) ≡ false

-- The line has so many parts, no more than words that a line can have. Of those behind the first, as many are known as
-- numbers as there are `numbers`, which are what they say; if there is a next one, it is none
pub record HasParts (line : List ℕ) (count : ℕ) (numbers : List ℕ) : Type 0 where
  pub all : count ≡ length (parts_of line)
  pub few : count ≤ line_words
  pub numbers_are : AreNumbersUpTo (drop 1 (parts_of line)) (length numbers) numbers
  pub stops : length numbers + 1 < count → is_number (slice_index_or (parts_of line) (length numbers + 1) []) ≡ false
