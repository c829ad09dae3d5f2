-- Some batches that a reader gives, one after another
use Rattle.std.specs.Prelude.{◌≡◌, ℕ, ◌+◌, ◌<◌, ◌≤◌, false, List, ◌++◌, length, All, sum_by, Option, option_map}
use Rattle.morph_base.specs.Transactions.{Transaction}
use Rattle.event_reader.specs.Lines.{front}
use Rattle.event_reader.specs.Steps.{Meaning}
use Rattle.event_reader.specs.Accepted.{Accepted}
use Rattle.event_reader.specs.Reader.{ReaderView, SameReader, accepted_by, accepted_after, TakesBytes}

-- The result with these batches put in front of the others
abbrev pub with_batches : List (List Transaction) → Accepted → Accepted
with_batches batches all = record { batches = batches ++ all.batches; ending = all.ending }

-- A reader, and the bytes that its source reveals to be left
pub record Stand (App : Type 0) : Type 0 where
  pub reader : ReaderView App
  pub left : Option (List ℕ)

-- The stand of a reader and the bytes that its source has left
abbrev pub stand : {App : Type 0} → ReaderView App → Option (List ℕ) → Stand App
stand reader left = record { reader = reader; left = left }

module _ {App : Type 0} (event_of : App → ℕ → Meaning) where
  -- What the bytes taken show, whatever follows them: they have these batches, unless the source came to its end
  abbrev pub ShowsBatches : ReaderView App → List (List Transaction) → ReaderView App → List ℕ → Type 0
  ShowsBatches r batches r' got =
      r'.lines.ended ≡ false → (more : List ℕ)
      → accepted_after event_of r (front (r.lines.kept ++ got ++ more)) ≡ with_batches batches (accepted_after event_of r' (front (r'.lines.kept ++ more)))

  -- From a to b the reader has given these batches, in order and each once, and no other
  pub record GivesBatches (a : Stand App) (batches : List (List Transaction)) (b : Stand App) : Type 0 where
    pub next : accepted_by event_of a.reader a.left ≡ option_map (with_batches batches) (accepted_by event_of b.reader b.left)
    pub shows : TakesBytes a.left b.left (ShowsBatches a.reader batches b.reader)
    pub some : All (λ batch. 0 < length batch) batches
    pub counted : a.reader.lines.number + sum_by (λ (batch : List Transaction). length batch) batches ≤ b.reader.lines.number
    pub bound : a.reader.lines.number ≤ a.reader.lines.limit + 1 → b.reader.lines.number ≤ b.reader.lines.limit + 1
    pub unended : b.reader.lines.ended ≡ false → a.reader.lines.ended ≡ false
    pub same : SameReader a.reader b.reader
