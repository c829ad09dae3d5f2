-- Which line of an input is the first that is refused, and why: each cause by a condition of its own
use Rattle.std.specs.Prelude.{◌≡◌, ℕ, ◌+◌, ◌-◌, ◌<◌, ◌≤◌, true, false, fold, if◌then◌else◌, List, [], ◌∷◌, ◌++◌, length, take, slice_index_or, Some, Err}
use Rattle.morph_base.specs.Transactions.{Transaction}
use Rattle.event_reader.specs.Limits.{longest_line}
use Rattle.event_reader.specs.declared.cause.Cause.{Cause}
use Rattle.event_reader.specs.declared.cause.Cause.TheVariants.{Long, Form, Range, Same, Late, Twice, Full}
use Rattle.event_reader.specs.Words.{words_of}
use Rattle.event_reader.specs.declared.version.Version.{Version}
use Rattle.event_reader.specs.Versions.{has_version_line, lines_read, version_of}
use Rattle.event_reader.specs.Steps.{Saying, Meaning, Rules, rules_of, latest_with, has_time, said_by, is_ignored, is_punctuation}
use Rattle.event_reader.specs.LineEvents.{event_said, events_said}
use Rattle.event_reader.specs.Reader.{IsOfWords}

-- The causes by their order: long, form, range, same, late, twice, full
abbrev pub rank : Cause → ℕ
rank Long = 0
rank Form = 1
rank Range = 2
rank Same = 3
rank Late = 4
rank Twice = 5
rank Full = 6

-- Words have no other causes than form, range and same
abbrev pub HasWordCauses : Saying → Type 0
HasWordCauses saying = (words : List (List ℕ)) (cause : Cause) → saying words ≡ Err cause → IsOfWords cause

-- The lines behind the last punctuation
abbrev pub open_lines : List (List ℕ) → List (List ℕ)
open_lines lines = fold (λ open_since line. if is_punctuation line then [] else open_since ++ line ∷ []) [] lines

-- The lines up to the last punctuation, with it
abbrev pub closed_lines : List (List ℕ) → List (List ℕ)
closed_lines lines = take (length lines - length (open_lines lines)) lines

-- The greatest timestamp of the batches that these lines close; 0 if there is none
abbrev pub closed_time : Saying → List (List ℕ) → ℕ
closed_time saying lines = latest_with (events_said saying (closed_lines lines)) 0

-- The events of the batch that these lines leave unfinished
abbrev pub unfinished : Saying → List (List ℕ) → List Transaction
unfinished saying lines = events_said saying (open_lines lines)

-- A cause applies to a line after others: long by its length; late, twice and full by the event that it says; and the
-- others if its words say so
abbrev pub Applies : Rules → (before : List (List ℕ)) → (line : List ℕ) → Cause → Type 0
Applies rules before line Long = longest_line < length line
Applies rules before line Late =
    (e : Transaction) × (event_said rules.says line ≡ Some e) × (e.ts ≤ closed_time rules.says before)
Applies rules before line Twice =
    (e : Transaction) × (event_said rules.says line ≡ Some e) × (has_time (unfinished rules.says before) e.ts ≡ true)
Applies rules before line Full =
    (e : Transaction) × (event_said rules.says line ≡ Some e) × (rules.most ≤ length (unfinished rules.says before))
Applies rules before line cause =
    (is_ignored line ≡ false) × (is_punctuation line ≡ false) × (said_by rules.says (words_of line) ≡ Err cause)

-- No cause applies to the line
abbrev pub NoneApplies : Rules → (before : List (List ℕ)) → (line : List ℕ) → Type 0
NoneApplies rules before line = (cause : Cause) → ¬ Applies rules before line cause

-- The cause applies to the line, and no lesser one does
pub record IsLeastCause (rules : Rules) (before : List (List ℕ)) (line : List ℕ) (cause : Cause) : Type 0 where
  pub applies : Applies rules before line cause
  pub least : (other : Cause) → Applies rules before line other → rank cause ≤ rank other

-- The line of this number, counted from 1, is the first to which a cause applies, and `cause` is the least that does
pub record IsFirstRefused (rules : Rules) (lines : List (List ℕ)) (number : ℕ) (cause : Cause) : Type 0 where
  pub place : ℕ
  pub counts : number ≡ place + 1
  pub inside : place < length lines
  pub earlier : (i : ℕ) → i < place → NoneApplies rules (take i lines) (slice_index_or lines i [])
  pub refused : IsLeastCause rules (take place lines) (slice_index_or lines place []) cause

-- In every version, words have no other causes than form, range and same
abbrev pub HasCauses : Meaning → Type 0
HasCauses meaning = (version : Version) → HasWordCauses (meaning version)

-- The line of this number is the first refused one of an input by its version. The version line is never refused, and
-- the others are lines of that version
abbrev pub IsFirstRefusedIn : Meaning → (lines : List (List ℕ)) → (number : ℕ) → Cause → Type 0
IsFirstRefusedIn meaning lines number cause =
    IsFirstRefused (rules_of meaning (version_of lines)) (lines_read lines) (number - (if has_version_line lines then 1 else 0)) cause
