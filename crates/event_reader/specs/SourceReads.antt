-- How a reader of lines asks its source for bytes
use Rattle.std.specs.Prelude.{◌≡◌, ℕ, ◌-◌, Bool, true, false, ◌==◌, ◌||◌, min, if◌then◌else◌, List, [], ◌++◌, length, Option, Result, Ok, Err, IfOk}
use Rattle.morph_io.specs.Told.{ahead}
use Rattle.morph_io.specs.declared.source.ReadFailed.{ReadFailed}
use Rattle.event_reader.specs.Limits.{buffer_bytes}
use Rattle.event_reader.specs.Lines.{behind_last_feed, decided_lines, front}
use Rattle.event_reader.specs.declared.past.Past.{Past}
use Rattle.event_reader.specs.Steps.{Meaning}
use Rattle.event_reader.specs.Accepted.{CutOff}
use Rattle.event_reader.specs.declared.answers.LineNext.{LineNext}
use Rattle.event_reader.specs.declared.answers.LineNext.TheVariants.{Line}
use Rattle.event_reader.specs.declared.fault.ReaderFault.{ReaderFault}
use Rattle.event_reader.specs.Reader.{LinesView, ReaderView, ShowsLine, accepted_next}

-- The number of bytes that a reader asks for in one read, if it keeps `kept` bytes and the limit leaves `room`: as many
-- as are free in its buffer, at most as many as the limit leaves, and one if it leaves none
abbrev pub bytes_asked : (kept room : ℕ) → ℕ
bytes_asked kept room = if room == 0 then 1 else min (buffer_bytes - kept) room

-- The test whether a reader asks no more after an answer: the read failed, it came to the end of the input, or the
-- limit was reached before
abbrev pub is_last : (room : ℕ) → Result ℕ ReadFailed → Bool
is_last room (Ok count) = count == 0 || room == 0
is_last room (Err _) = true

-- The bytes are those that came with the answer
abbrev pub CameWith : Result ℕ ReadFailed → List ℕ → Type 0
CameWith (Ok count) bytes = length bytes ≡ count
CameWith (Err _) bytes = bytes ≡ []

-- Before a read: how many bytes the reader keeps, and how many the limit leaves
pub record ReadRoom : Type 0 where
  pub kept : ℕ
  pub room : ℕ

-- The room with these numbers
abbrev pub read_room : (kept room : ℕ) → ReadRoom
read_room kept room = record { kept = kept; room = room }

-- The bytes of a read, and whether it was the last
pub record ReadPiece : Type 0 where
  pub bytes : List ℕ
  pub last : Bool

-- The read of these bytes
abbrev pub read_piece : List ℕ → (last : Bool) → ReadPiece
read_piece bytes last = record { bytes = bytes; last = last }

-- One read with this room, and what it gave
pub record AsksOnce {S : Type 0} (left_of : S → Option (List ℕ)) (reads : S → ℕ → Result ℕ ReadFailed → S → Type 0)
    (at : ReadRoom) (source : S) (piece : ReadPiece) (source' : S) : Type 0 where
  pub answer : Result ℕ ReadFailed
  pub asks : reads source (bytes_asked at.kept at.room) answer source'
  pub came : CameWith answer piece.bytes
  pub gives : left_of source ≡ ahead piece.bytes (left_of source')
  pub ends : piece.last ≡ is_last at.room answer

-- Reads one after another, from the bytes kept at the start, those that the limit left then, and whether the input had
-- ended. Each one is made only if the bytes kept until then decide no line and none before it was the last
pub data ReadsInOrder {S : Type 0} (left_of : S → Option (List ℕ)) (reads : S → ℕ → Result ℕ ReadFailed → S → Type 0)
    (kept₀ : List ℕ) (room₀ : ℕ) (ended₀ : Bool) (source₀ : S) : (kept : List ℕ) (room : ℕ) (last : Bool)
    (source : S) → Type 0 where
  no_read : ReadsInOrder left_of reads kept₀ room₀ ended₀ source₀ kept₀ room₀ ended₀ source₀
  one_more : (kept bytes : List ℕ) (room : ℕ) (last : Bool) (source source' : S)
      → ReadsInOrder left_of reads kept₀ room₀ ended₀ source₀ kept room false source
      → decided_lines kept ≡ [] → AsksOnce left_of reads (read_room (length kept) room) source (read_piece bytes last) source'
      → ReadsInOrder left_of reads kept₀ room₀ ended₀ source₀ (kept ++ bytes) (room - length bytes) last source'

-- If a line was given before the input ended, the reader keeps what comes behind whole lines
abbrev pub KeepsBehind : (bytes : List ℕ) → Result LineNext ReaderFault → LinesView → Type 0
KeepsBehind bytes (Ok Line) after =
    after.ended ≡ false → (used : List ℕ) × (bytes ≡ used ++ after.kept) × (behind_last_feed used ≡ [])
KeepsBehind bytes _ after = Unit {0}

-- A reader of lines, and its source
pub record LineState (S : Type 0) : Type 0 where
  pub lines : LinesView
  pub source : S

-- The reader of lines with this source
abbrev pub line_state : {S : Type 0} → LinesView → S → LineState S
line_state lines source = record { lines = lines; source = source }

-- The reads of one call for a line, with what their bytes show. If the call is answered, the last read came to the end
-- of the input exactly if the reader says so
pub record AsksForLine {S : Type 0} (left_of : S → Option (List ℕ)) (reads : S → ℕ → Result ℕ ReadFailed → S → Type 0)
    (before : LineState S) (answer : Result LineNext ReaderFault) (after : LineState S) : Type 0 where
  pub got : List ℕ
  pub taken : left_of before.source ≡ ahead got (left_of after.source)
  pub shows : ShowsLine before.lines answer after.lines got
  pub room : ℕ
  pub last : Bool
  pub asks : ReadsInOrder left_of reads before.lines.kept (before.lines.limit - before.lines.taken) before.lines.ended
      before.source (before.lines.kept ++ got) room last after.source
  pub ends : IfOk answer (λ _. (last ≡ after.lines.ended) × (room ≡ after.lines.limit - after.lines.taken))
  pub keeps : KeepsBehind (before.lines.kept ++ got) answer after.lines

-- Reads one after another for a batch. Each one is made only if the bytes got until then show no closed batch and no
-- refused line, and none before it was the last. The number of bytes asked for follows from those behind the last LF,
-- which the reader keeps
pub data AsksBatch {S : Type 0} (left_of : S → Option (List ℕ)) (reads : S → ℕ → Result ℕ ReadFailed → S → Type 0)
    (meaning : Meaning) (past : Past) (before : LinesView) (source₀ : S) : (got : List ℕ) (last : Bool)
    (source : S) → Type 0 where
  not_yet : AsksBatch left_of reads meaning past before source₀ [] before.ended source₀
  once_more : (got bytes : List ℕ) (last : Bool) (source source' : S)
      → AsksBatch left_of reads meaning past before source₀ got false source
      → accepted_next meaning past before (front (before.kept ++ got)) ≡ record { batches = []; ending = CutOff }
      → AsksOnce left_of reads (read_room (length (behind_last_feed (before.kept ++ got))) (before.limit - before.taken - length got)) source (read_piece bytes last) source'
      → AsksBatch left_of reads meaning past before source₀ (got ++ bytes) last source'

-- How far a reader of batches has read: what was read before, its reader of lines, and its source
pub record ReadState (S : Type 0) : Type 0 where
  pub past : Past
  pub lines : LinesView
  pub source : S

-- How far a reader of batches has read that has this past, reader of lines and source
abbrev pub read_state : {S : Type 0} → Past → LinesView → S → ReadState S
read_state past lines source = record { past = past; lines = lines; source = source }

-- The reads of one call for a batch. If the call is answered, the last read came to the end of the input exactly if the
-- reader says so
pub record AsksForBatch {S A : Type 0} (left_of : S → Option (List ℕ))
    (reads : S → ℕ → Result ℕ ReadFailed → S → Type 0) (meaning : Meaning) (before : ReadState S)
    (answer : Result A ReaderFault) (after : LineState S) : Type 0 where
  pub got : List ℕ
  pub taken : left_of before.source ≡ ahead got (left_of after.source)
  pub last : Bool
  pub asks : AsksBatch left_of reads meaning before.past before.lines before.source got last after.source
  pub ends : IfOk answer (λ _. last ≡ after.lines.ended)

-- The reads of one call of a reader of batches
abbrev pub AsksForNext : {S App A : Type 0} → (S → Option (List ℕ)) → (S → ℕ → Result ℕ ReadFailed → S → Type 0)
    → (App → ℕ → Meaning) → ReaderView App → S → Result A ReaderFault → ReaderView App → S → Type 0
AsksForNext left_of reads event_of before source answer after source' =
    AsksForBatch left_of reads (event_of before.app before.size) (read_state before.past before.lines source) answer (line_state after.lines source')
