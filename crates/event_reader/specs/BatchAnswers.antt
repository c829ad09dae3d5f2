-- What one call of a reader of batches says
use Rattle.std.specs.Prelude.{◌≡◌, ℕ, ◌+◌, ◌≤◌, false, IsTrue, List, Option, Result, IfOk, IsErrOf}
use Rattle.morph_base.specs.declared.key.Layout.{Layout}
use Rattle.morph_io.specs.Told.{IsAtEnd, HasRisen}
use Rattle.morph_io.specs.declared.source.ReadFailed.{ReadFailed}
use Rattle.event_reader.specs.declared.answers.Next.{Next}
use Rattle.event_reader.specs.declared.fault.ReaderFault.{ReaderFault}
use Rattle.event_reader.specs.declared.fault.ReaderFault.TheVariants.{ReadFault, TooLong}
use Rattle.event_reader.specs.Steps.{Meaning}
use Rattle.event_reader.specs.Reader.{accepted_at, reading_of, event_count, AnswersNext, IsValidNext, KnowsVersion, ShowsBatch, TakesBytes}
use Rattle.event_reader.specs.SourceReads.{line_state, AsksForBatch, ReadState}

-- What a source says of itself: the bytes that it has left, its count of faults, and its reads
pub record SourceMembers (S : Type 0) : Type 1 where
  pub left : S → Option (List ℕ)
  pub faults : S → ℕ
  pub reads : S → ℕ → Result ℕ ReadFailed → S → Type 0

-- The members of a source
abbrev pub members : {S : Type 0} → (left : S → Option (List ℕ)) → (faults : S → ℕ)
    → (reads : S → ℕ → Result ℕ ReadFailed → S → Type 0) → SourceMembers S
members left faults reads = record { left = left; faults = faults; reads = reads }

-- What the answer of one call for a batch says of the bytes of the source, and by which reads it came, from how far the
-- reader had read before to how far it has read after, with what lines mean to it then
pub record IsBatchAnswer {S : Type 0} (source : SourceMembers S) (meaning : Meaning) (before : ReadState S)
    (answer : Result Next ReaderFault) (meaning' : Meaning) (after : ReadState S) : Type 0 where
  pub answers : AnswersNext (accepted_at meaning before.past before.lines (source.left before.source)) answer
      (accepted_at meaning' after.past after.lines (source.left after.source))
  pub shows : TakesBytes (source.left before.source) (source.left after.source)
      (ShowsBatch meaning before.past before.lines answer after.past after.lines)
  pub asks : AsksForBatch source.left source.reads meaning before answer (line_state after.lines after.source)

-- What one call for a batch gives: a batch is valid, and has at most as many events as lines were given for it; and the
-- version is that of the input
pub record GivesBatch {S : Type 0} (source : SourceMembers S) (layout : Layout) (before : ReadState S)
    (answer : Result Next ReaderFault) (after : ReadState S) : Type 0 where
  pub valid : IfOk answer (IsValidNext after.past.version layout)
  pub version : KnowsVersion before.lines.number (reading_of before.lines (source.left before.source)) after.lines.number
      after.past.version
  pub counted : IfOk answer (λ next. before.lines.number + event_count next ≤ after.lines.number)

-- How the reader of lines and its source come out of one call for a batch. The source's count of faults rises exactly
-- with the answer `ReadFault`
pub record HasReadOn {S : Type 0} (source : SourceMembers S) (before : ReadState S) (answer : Result Next ReaderFault)
    (after : ReadState S) : Type 0 where
  pub bound : after.lines.number ≤ after.lines.limit + 1
  pub at_end : before.lines.ended ≡ false → IsTrue after.lines.ended → IsAtEnd (source.left after.source)
  pub idle : IsTrue before.lines.ended → after.source ≡ before.source
  pub unended : after.lines.ended ≡ false → before.lines.ended ≡ false
  pub full : IsErrOf answer TooLong → after.lines.taken ≡ after.lines.limit
  pub asked : IsErrOf answer ReadFault → before.lines.ended ≡ false
  pub never_falls : source.faults before.source ≤ source.faults after.source
  pub steady : (IsErrOf answer ReadFault → ⊥) → source.faults after.source ≡ source.faults before.source
  pub cause : IsErrOf answer ReadFault → HasRisen (source.faults before.source) (source.faults after.source)
