-- Inside the crate: what a reader of lines has after it asked its source for more bytes
use Rattle.std.specs.Prelude.{◌≡◌, ℕ, ◌+◌, ◌-◌, ◌<◌, ◌≤◌, true, false, IsTrue, List, [], ◌∷◌, ◌++◌, length, Option, Result, Ok, Err}
use Rattle.morph_io.specs.Told.{ahead, IsAtEnd}
use Rattle.event_reader.specs.declared.fault.ReaderFault.{ReaderFault}
use Rattle.event_reader.specs.declared.fault.ReaderFault.TheVariants.{ReadFault, TooLong, OutOfMemory}
use Rattle.morph_io.specs.declared.source.ReadFailed.{ReadFailed}
use Rattle.event_reader.specs.Reader.{LinesView}
use Rattle.event_reader.specs.SourceReads.{read_piece, read_room, AsksOnce}

-- The reader keeps `got` more bytes, or the source came to its end
pub record KeepsMore (before : LinesView) (left : Option (List ℕ)) (after : LinesView)
    (left' : Option (List ℕ)) : Type 0 where
  pub got : List ℕ
  pub told : left ≡ ahead got left'
  pub kept : after.kept ≡ before.kept ++ got
  pub taken : after.taken ≡ before.taken + length got
  pub bound : after.taken ≤ after.limit
  pub number : after.number ≡ before.number
  pub limit : after.limit ≡ before.limit
  pub live : after.live ≡ before.live
  pub more : after.ended ≡ false → 0 < length got
  pub at_end : IsTrue after.ended → IsAtEnd left'
  pub short : after.line ≡ []

-- The reader was refused bytes, and keeps what it kept
pub record KeepsAll (before after : LinesView) : Type 0 where
  pub kept : after.kept ≡ before.kept
  pub taken : after.taken ≡ before.taken
  pub number : after.number ≡ before.number
  pub limit : after.limit ≡ before.limit
  pub stops : after.live ≡ false
  pub ended : after.ended ≡ false
  pub short : after.line ≡ []

-- The source gave bytes beyond the limit
pub record GivesMore (left left' : Option (List ℕ)) : Type 0 where
  pub byte : ℕ
  pub more : List ℕ
  pub told : left ≡ ahead (byte ∷ more) left'

-- What a reader has after it asked its source for bytes: more bytes or the end; what it had, at a fault; and evidence
-- of one more byte if the input is too long
abbrev pub Fills : LinesView → Option (List ℕ) → Result (Unit {0}) ReaderFault → LinesView → Option (List ℕ) → Type 0
Fills before left (Ok _) after left' = KeepsMore before left after left'
Fills before left (Err ReadFault) after left' = KeepsAll before after × (left ≡ left')
Fills before left (Err TooLong) after left' = KeepsAll before after × GivesMore left left' × (after.taken ≡ after.limit)
Fills before left (Err OutOfMemory) after left' = ⊥

-- The reader was filled by one read. It keeps that read's bytes, and the read was the last if the input ended
pub record KeepsRead {S : Type 0} (left_of : S → Option (List ℕ)) (reads : S → ℕ → Result ℕ ReadFailed → S → Type 0)
    (before : LinesView) (source : S) (after : LinesView) (source' : S) : Type 0 where
  pub bytes : List ℕ
  pub asks : AsksOnce left_of reads (read_room (length before.kept) (before.limit - before.taken)) source (read_piece bytes after.ended) source'
  pub kept : after.kept ≡ before.kept ++ bytes
  pub room : after.limit - after.taken ≡ before.limit - before.taken - length bytes

-- By which read the reader was filled or refused
abbrev pub FillsBy : {S : Type 0} → (S → Option (List ℕ)) → (S → ℕ → Result ℕ ReadFailed → S → Type 0) → LinesView → S
    → Result (Unit {0}) ReaderFault → LinesView → S → Type 0
FillsBy left_of reads before source (Ok _) after source' = KeepsRead left_of reads before source after source'
FillsBy left_of reads before source (Err ReadFault) after source' =
    AsksOnce left_of reads (read_room (length before.kept) (before.limit - before.taken)) source (read_piece [] true) source'
FillsBy left_of reads before source (Err _) after source' =
    (bytes : List ℕ) × AsksOnce left_of reads (read_room (length before.kept) (before.limit - before.taken)) source (read_piece bytes true) source'
