-- What contracts see of a reader, and what its answers say
use Rattle.std.specs.Prelude.{All, ◌≡◌, ℕ, ◌+◌, ◌-◌, ◌<◌, ◌≤◌, Bool, true, false, if◌then◌else◌, List, [], ◌++◌, length, Option, option_map, IfSome, Result, Ok, Err}
use Rattle.morph_base.specs.declared.key.Layout.{Layout}
use Rattle.morph_base.specs.Transactions.{Transaction, IsTransaction, HasKeysIn, HasHigh, IsBatch, BatchKeysIn, transactions_of, transaction}
use Rattle.morph_base.specs.declared.operation.Op.{Op}
use Rattle.morph_io.specs.Told.{ahead}
use Rattle.event_reader.specs.Limits.{longest_line}
use Rattle.event_reader.specs.declared.cause.Cause.{Cause}
use Rattle.event_reader.specs.declared.cause.Cause.TheVariants.{Form, Range, Same}
use Rattle.event_reader.specs.declared.cause.LineFault.{LineFault}
use Rattle.event_reader.specs.declared.cause.LineFault.TheVariants.{Refused as LineRefused, OutOfMemory as NoMemory}
use Rattle.event_reader.specs.declared.fault.ReaderFault.{ReaderFault}
use Rattle.event_reader.specs.declared.fault.ReaderFault.TheVariants.{ReadFault, TooLong, OutOfMemory}
use Rattle.event_reader.specs.declared.answers.LineNext.{LineNext}
use Rattle.event_reader.specs.declared.answers.LineNext.TheVariants.{Line, Long, End as NoLine}
use Rattle.event_reader.specs.declared.answers.Next.{Next}
use Rattle.event_reader.specs.declared.answers.Next.TheVariants.{Batch, End, Refused}
use Rattle.event_reader.specs.Lines.{Reading, front, within, with_line, IsLongFirst}
use Rattle.event_reader.specs.declared.past.Past.{Past}
use Rattle.event_reader.specs.declared.version.Version.{Version}
use Rattle.event_reader.specs.declared.version.Version.TheVariants.{One}
use Rattle.event_reader.specs.Versions.{greatest_of, version_of}
use Rattle.event_reader.specs.Steps.{Meaning}
use Rattle.event_reader.specs.Accepted.{Accepted, Ended, RefusedAt, CutOff, accepted_behind, with_batch}

-- An application's answer for the words of a line is what they say, an event's time with its operations or a cause,
-- unless it is out of memory
abbrev pub GivesEvent : Result Transaction Cause → Result ℕ LineFault → List Op → Type 0
GivesEvent said (Ok ts) ops = said ≡ Ok (transaction ts ops)
GivesEvent said (Err (LineRefused cause)) ops = said ≡ Err cause
GivesEvent said (Err NoMemory) ops = Unit {0}

-- The cause is one that the words of a line can have
abbrev pub IsOfWords : Cause → Type 0
IsOfWords Form = Unit {0}
IsOfWords Range = Unit {0}
IsOfWords Same = Unit {0}
IsOfWords _ = ⊥

-- The event is one of an input of the version: valid, with its keys in the layout, and with the greatest value of the
-- version
abbrev pub IsEventOf : Version → Layout → Transaction → Type 0
IsEventOf version layout e = IsTransaction e × HasKeysIn layout e × HasHigh (greatest_of version) e

-- Every event that an application's words say is an event of its tables and of the version
abbrev pub GivesValid : {App : Type 0} → (table_count : App → ℕ) → (App → ℕ → Meaning) → Type 0
GivesValid {App} table_count event_of =
    (app : App) (size : ℕ) (version : Version) (words : List (List ℕ)) (e : Transaction) → event_of app size version words ≡ Ok e
    → IsEventOf version (record { tables = table_count app; size = size }) e

-- A reader of lines: the bytes that it took and gave no line of yet, the line that it gave last, how many lines it
-- gave, how many bytes it took, the limit of these, whether the source came to its end, and whether it may be asked
-- again
pub record LinesView : Type 0 where
  pub kept : List ℕ
  pub line : List ℕ
  pub number : ℕ
  pub taken : ℕ
  pub limit : ℕ
  pub ended : Bool
  pub live : Bool

-- A new reader of lines
abbrev pub new_lines : (limit : ℕ) → LinesView
new_lines limit = record { kept = []; line = []; number = 0; taken = 0; limit = limit; ended = false; live = true }

-- The number of bytes that it may still give lines of: those that it keeps, and those that it may still take
abbrev pub room : LinesView → ℕ
room v = length v.kept + (v.limit - v.taken)

-- The bytes that it may still be given by a source that has `left`. There are none if the source came to the end of its
-- input, whatever it has left
abbrev pub left_for : LinesView → Option (List ℕ) → Option (List ℕ)
left_for v left = if v.ended then option_map (λ _. []) left else left

-- The lines that it has still to give, if the source reveals its bytes
abbrev pub reading_of : LinesView → Option (List ℕ) → Option Reading
reading_of v left = option_map (within (room v)) (ahead v.kept (left_for v left))

-- Bytes were taken from a source, and `Shows` holds of them
pub record TakesBytes (old new : Option (List ℕ)) (Shows : List ℕ → Type 0) : Type 0 where
  pub got : List ℕ
  pub taken : old ≡ ahead got new
  pub shows : Shows got

-- What an answer of a reader of lines says, by what it had to give before and what it has to give after
abbrev pub AnswersLine : Option Reading → Result LineNext ReaderFault → List ℕ → Option Reading → Type 0
AnswersLine before (Ok Line) line after = (before ≡ option_map (with_line line) after) × (length line ≤ longest_line)
AnswersLine before (Ok Long) line after = IfSome before (λ reading. IsLongFirst reading.lines)
AnswersLine before (Ok NoLine) line after =
    (before ≡ after) × IfSome before (λ reading. reading ≡ record { lines = []; cut = false })
AnswersLine before (Err TooLong) line after = IfSome before (λ reading. reading ≡ record { lines = []; cut = true })
AnswersLine before (Err ReadFault) line after = before ≡ after
AnswersLine before (Err OutOfMemory) line after = ⊥

-- What the bytes taken show, whatever follows them. If a line was given, they have it, and it may have been cut from
-- them before the source came to its end. If the source failed, they have no line
abbrev pub ShowsLine : LinesView → Result LineNext ReaderFault → LinesView → List ℕ → Type 0
ShowsLine before (Ok Line) after got =
    after.ended ≡ false → (more : List ℕ) → front (before.kept ++ got ++ more) ≡ with_line after.line (front (after.kept ++ more))
ShowsLine before (Err ReadFault) after got = front (before.kept ++ got) ≡ record { lines = []; cut = true }
ShowsLine before _ after got = Unit {0}

-- The test whether an answer gives a line, so that the reader may be asked again
abbrev pub is_line : Result LineNext ReaderFault → Bool
is_line (Ok Line) = true
is_line _ = false

-- The number of lines that an answer gives. A line that is too long counts
abbrev pub lines_given : Result LineNext ReaderFault → ℕ
lines_given (Ok Line) = 1
lines_given (Ok Long) = 1
lines_given _ = 0

-- A reader of batches: the application, the number of ids in each of its tables, what was read before (the version, and
-- the greatest timestamp of the closed batches), the reader of lines, and whether it may be asked again
pub record ReaderView (App : Type 0) : Type 0 where
  pub app : App
  pub size : ℕ
  pub past : Past
  pub lines : LinesView
  pub live : Bool

-- What was read before the first line: nothing
abbrev pub no_past : Past
no_past = record { version = One; closed = 0 }

-- A new reader of batches
abbrev pub new_reader : {App : Type 0} → App → (size limit : ℕ) → ReaderView App
new_reader app size limit = record { app = app; size = size; past = no_past; lines = new_lines limit; live = true }

-- The batches of a reading that comes after what the reader of lines v has given and after what was read before, if no
-- event is pending
abbrev pub accepted_next : Meaning → Past → LinesView → Reading → Accepted
accepted_next meaning past v reading = accepted_behind meaning past.version v.number past.closed [] reading

-- The batches that are still to be given, if the source reveals its bytes
abbrev pub accepted_at : Meaning → Past → LinesView → Option (List ℕ) → Option Accepted
accepted_at meaning past v left = option_map (accepted_next meaning past v) (reading_of v left)

-- The batches of a reading that comes after what a reader of batches has given
abbrev pub accepted_after : {App : Type 0} → (App → ℕ → Meaning) → ReaderView App → Reading → Accepted
accepted_after event_of v reading = accepted_next (event_of v.app v.size) v.past v.lines reading

-- The batches that a reader of batches has still to give, if the source reveals its bytes
abbrev pub accepted_by : {App : Type 0} → (App → ℕ → Meaning) → ReaderView App → Option (List ℕ) → Option Accepted
accepted_by event_of v left = accepted_at (event_of v.app v.size) v.past v.lines left

-- What an answer of a reader of batches says, by what it had to give before and what it has to give after
abbrev pub AnswersNext : Option Accepted → Result Next ReaderFault → Option Accepted → Type 0
AnswersNext before (Ok (Batch batch)) after = before ≡ option_map (with_batch (transactions_of batch)) after
AnswersNext before (Ok End) after = IfSome before (λ all. all ≡ record { batches = []; ending = Ended })
AnswersNext before (Ok (Refused line cause)) after =
    IfSome before (λ all. all ≡ record { batches = []; ending = RefusedAt line cause })
AnswersNext before (Err TooLong) after = IfSome before (λ all. all ≡ record { batches = []; ending = CutOff })
AnswersNext before (Err _) after = Unit {0}

-- What the bytes taken show, whatever follows them. If a batch was given, they have the punctuation that closes it,
-- unless the source came to its end. If the source failed, they have no punctuation that closes a batch, and no refused
-- line
abbrev pub ShowsBatch : Meaning → Past → LinesView → Result Next ReaderFault → Past → LinesView → List ℕ → Type 0
ShowsBatch meaning past before (Ok (Batch batch)) past' after got =
    after.ended ≡ false → (more : List ℕ)
    → accepted_next meaning past before (front (before.kept ++ got ++ more))
    ≡ with_batch (transactions_of batch) (accepted_next meaning past' after (front (after.kept ++ more)))
ShowsBatch meaning past before (Err ReadFault) past' after got =
    accepted_next meaning past before (front (before.kept ++ got)) ≡ record { batches = []; ending = CutOff }
ShowsBatch meaning past before _ past' after got = Unit {0}

-- What the bytes taken show of an answer of a reader of batches
abbrev pub ShowsNext : {App : Type 0} → (App → ℕ → Meaning) → ReaderView App → Result Next ReaderFault → ReaderView App
    → List ℕ → Type 0
ShowsNext event_of before answer after got =
    ShowsBatch (event_of before.app before.size) before.past before.lines answer after.past after.lines got

-- A batch that is given has an event and is valid, with its keys in the layout, and with the greatest value of the
-- version
abbrev pub IsValidNext : Version → Layout → Next → Type 0
IsValidNext version layout (Batch batch) =
    (0 < length (transactions_of batch)) × IsBatch batch × BatchKeysIn layout batch
    × All (HasHigh (greatest_of version)) (transactions_of batch)
IsValidNext version layout _ = Unit {0}

-- If no line was given before and one was given now, the version is that of the lines that were still to be given
abbrev pub KnowsVersion : (before : ℕ) → (told : Option Reading) → (number : ℕ) → Version → Type 0
KnowsVersion before told number version =
    before ≡ 0 → 0 < number → IfSome told (λ reading. version ≡ version_of reading.lines)

-- The version of an input stays the same once its first line was given, and its greatest value never falls
pub record KeepsVersion {App : Type 0} (before after : ReaderView App) : Type 0 where
  pub numbered : before.lines.number ≤ after.lines.number
  pub stays : 0 < before.lines.number → after.past.version ≡ before.past.version
  pub rises : greatest_of before.past.version ≤ greatest_of after.past.version

-- The reader has the same application and input, as many ids in each table, and the same limit
abbrev pub SameReader : {App : Type 0} → ReaderView App → ReaderView App → Type 0
SameReader before after =
    (after.app ≡ before.app) × (after.size ≡ before.size) × (after.lines.limit ≡ before.lines.limit)
    × KeepsVersion before after

-- The number of events that an answer gives
abbrev pub event_count : Next → ℕ
event_count (Batch batch) = length (transactions_of batch)
event_count _ = 0

-- The test whether an answer gives a batch, so that the reader may be asked again
abbrev pub goes_on : Result Next ReaderFault → Bool
goes_on (Ok (Batch batch)) = true
goes_on _ = false
