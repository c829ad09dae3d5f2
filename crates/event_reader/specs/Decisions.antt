-- Inside the crate: what the bytes that a reader keeps say of the first line of all that is unread, whatever follows
-- them
use Rattle.std.specs.Prelude.{◌≡◌, ℕ, ◌<◌, ◌≤◌, Bool, false, IsTrue, List, [], ◌∷◌, ◌++◌, length, take, drop}
use Rattle.event_reader.specs.Limits.{longest_line, deciding_bytes}
use Rattle.event_reader.specs.declared.decision.Decision.{Decision}
use Rattle.event_reader.specs.declared.decision.Decision.TheVariants.{Line, Long, End, Open}
use Rattle.event_reader.specs.Lines.{lines_of, decided_lines, behind_last_feed, without_cr, IsLongFirst}

-- Nothing follows if the source came to its end
abbrev pub MayFollow : (ended : Bool) → List ℕ → Type 0
MayFollow ended rest = IsTrue ended → rest ≡ []

-- The first line is the first `len` of the bytes kept. With its end, which is an LF if more may follow, it takes up
-- `used` of them
pub record DecidesLine (kept : List ℕ) (ended : Bool) (len used : ℕ) : Type 0 where
  pub short : len ≤ longest_line
  pub inside : len ≤ used
  pub some : 0 < used
  pub held : used ≤ length kept
  pub all : (rest : List ℕ) → MayFollow ended rest
      → lines_of (kept ++ rest) ≡ take len kept ∷ lines_of (drop used kept ++ rest)
  pub whole : ended ≡ false → behind_last_feed (take used kept) ≡ []
  pub open_end : ended ≡ false → (rest : List ℕ)
      → decided_lines (kept ++ rest) ≡ take len kept ∷ decided_lines (drop used kept ++ rest)

-- The first line is too long
pub record DecidesLong (kept : List ℕ) (ended : Bool) : Type 0 where
  pub some : 0 < length kept
  pub all : (rest : List ℕ) → MayFollow ended rest → IsLongFirst (lines_of (kept ++ rest))
  pub open_end : ended ≡ false → (rest : List ℕ) → IsLongFirst (decided_lines (kept ++ rest))

-- The bytes decide no line, and more may follow
pub record DecidesNone (kept : List ℕ) (ended : Bool) : Type 0 where
  pub goes_on : ended ≡ false
  pub few : length kept < deciding_bytes
  pub none : decided_lines kept ≡ []

-- The decision is right for the bytes kept: they have a first line, it is too long, there is none, or they decide
-- nothing
abbrev pub Decides : List ℕ → (ended : Bool) → Decision → Type 0
Decides kept ended (Line len used) = DecidesLine kept ended len used
Decides kept ended Long = DecidesLong kept ended
Decides kept ended End = (kept ≡ []) × IsTrue ended
Decides kept ended Open = DecidesNone kept ended

-- The decision is right for a piece that is a whole line and takes up `used` bytes with its end
abbrev pub DecidesPiece : List ℕ → (used : ℕ) → Decision → Type 0
DecidesPiece piece used (Line len taken) =
    (len ≤ longest_line) × (len ≤ length piece) × (take len piece ≡ without_cr piece) × (taken ≡ used)
DecidesPiece piece used Long = longest_line < length (without_cr piece)
DecidesPiece piece used _ = ⊥
