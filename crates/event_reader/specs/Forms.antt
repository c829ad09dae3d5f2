-- Forms of event lines, and what the words of a line say if there is a kind of event for each form
use Rattle.std.specs.Prelude.{◌≡◌, ℕ, ◌+◌, ◌-◌, ◌<◌, ◌≤◌, Bool, false, ◌&&◌, ◌==◌, nat_le, if◌then◌else◌, List, [], ◌∷◌, ◌++◌, length, drop, replicate, slice_index_or, Option, Some, None, Result, Ok, Err}
use Rattle.std.specs.List.{All}
use Rattle.morph_base.specs.Transactions.{Transaction}
use Rattle.event_reader.specs.Limits.{line_words, greatest_number}
use Rattle.event_reader.specs.declared.cause.Cause.{Cause}
use Rattle.event_reader.specs.declared.cause.Cause.TheVariants.{Form as NoForm, Same}
use Rattle.event_reader.specs.declared.ranges.Range.{Range}
use Rattle.event_reader.specs.Numbers.{numbers_in}
use Rattle.event_reader.specs.Ranges.{nothing}
use Rattle.event_reader.specs.Steps.{Saying}

-- A form of line: its letter, the ranges of the numbers that each of its lines has, the range of those that may follow
-- them, and the least and the greatest count of the latter
pub record Form : Type 0 where
  pub letter : ℕ
  pub places : List Range
  pub more : Range
  pub least : ℕ
  pub most : ℕ

-- The lines of the form fit the words of a line, and its numbers are ones that a word can say
pub record IsForm (form : Form) : Type 0 where
  pub few : length form.places + form.most < line_words
  pub ordered : form.least ≤ form.most
  pub small : All (λ range. range.greatest ≤ greatest_number) form.places
  pub small_more : form.more.greatest ≤ greatest_number

-- It is a form with `many` places
pub record IsFormOf (many : ℕ) (form : Form) : Type 0 where
  pub places : length form.places ≡ many
  pub formed : IsForm form

-- The form of a letter and places, without more numbers than those
abbrev pub form_of : (letter : ℕ) → List Range → Form
form_of letter places = record { letter = letter; places = places; more = nothing; least = 0; most = 0 }

-- The test whether lines of the form can have `count` numbers
abbrev pub has_count : Form → (count : ℕ) → Bool
has_count form count = nat_le (length form.places + form.least) count && nat_le count (length form.places + form.most)

-- The ranges of `count` numbers: those of the places, and for each further number the one for these
abbrev pub ranges_of : Form → (count : ℕ) → List Range
ranges_of form count = form.places ++ replicate (count - length form.places) form.more

-- The only byte of a word
abbrev pub only : List ℕ → Option ℕ
only (byte ∷ []) = Some byte
only _ = None

-- The letter of a line: the only byte of its first word
abbrev pub letter_of : List (List ℕ) → Option ℕ
letter_of words = only (slice_index_or words 0 [])

-- The test whether a byte is this letter
abbrev pub is_letter : ℕ → Option ℕ → Bool
is_letter letter (Some byte) = byte == letter
is_letter letter None = false

-- The test whether words have the form's letter
abbrev pub has_letter : Form → List (List ℕ) → Bool
has_letter form words = is_letter form.letter (letter_of words)

-- The test whether words have the form's letter, and are as many as it allows
abbrev pub has_form : Form → List (List ℕ) → Bool
has_form form words = has_letter form words && has_count form (length words - 1)

-- The numbers that words say as a line of the form. The cause is form if their letter or their count does not fit or a
-- word is no number, and else range if a number is outside its place's range
abbrev pub numbers_by : Form → List (List ℕ) → Result (List ℕ) Cause
numbers_by form words =
    if has_form form words then numbers_in (ranges_of form (length words - 1)) (drop 1 words) else Err NoForm

-- A kind of event line: its form, and what its numbers say if they are in their ranges
pub record Kind : Type 0 where
  pub form : Form
  pub says : List ℕ → Result Transaction Cause

-- What numbers say, or the cause why there are none
abbrev pub said : (List ℕ → Result Transaction Cause) → Result (List ℕ) Cause → Result Transaction Cause
said says (Ok numbers) = says numbers
said says (Err cause) = Err cause

-- The event, unless two of its keys are the same that have to differ: then the cause is same
abbrev pub unless : (same : Bool) → Transaction → Result Transaction Cause
unless same e = if same then Err Same else Ok e

-- What words say as a line of the kind
abbrev pub said_in : Kind → Saying
said_in kind words = said kind.says (numbers_by kind.form words)

-- What words say by the kind whose letter they have. If there is none, the cause is form
abbrev pub event_by : List Kind → Saying
event_by [] words = Err NoForm
event_by (kind ∷ kinds) words = if has_letter kind.form words then said_in kind words else event_by kinds words
