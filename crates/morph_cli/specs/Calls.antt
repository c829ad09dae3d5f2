-- How a run reads its source: by the calls of its reader alone
use Rattle.std.specs.Prelude.{ℕ, Bool, true, List, Option, Result}
use Rattle.morph_io.specs.declared.source.ReadFailed.{ReadFailed}
use Rattle.event_reader.specs.declared.answers.Next.{Next}
use Rattle.event_reader.specs.declared.fault.ReaderFault.{ReaderFault}
use Rattle.event_reader.specs.declared.past.Past.{Past}
use Rattle.event_reader.specs.SourceReads.{read_state, line_state, AsksForBatch}
use Rattle.event_reader.specs.Reader.{LinesView, ShowsBatch, TakesBytes, goes_on, new_lines, no_past}
use Rattle.event_reader.specs.Steps.{Meaning}
use Rattle.morph_cli.specs.Headline.{input_limit}

-- Calls for batches, one after another. Each call reads as the reader asks, from where the call before it left the
-- source, and no call follows an answer that gave no batch
pub data AsksForBatches {S : Type 0} (left_of : S → Option (List ℕ)) (reads : S → ℕ → Result ℕ ReadFailed → S → Type 0)
    (meaning : Meaning) (past₀ : Past) (lines₀ : LinesView) (source₀ : S) : (past : Past) (lines : LinesView)
    (live : Bool) (source : S) → Type 0 where
  no_call : AsksForBatches left_of reads meaning past₀ lines₀ source₀ past₀ lines₀ true source₀
  one_call : (past past' : Past) (lines lines' : LinesView) (source source' : S) (answer : Result Next ReaderFault)
      → AsksForBatches left_of reads meaning past₀ lines₀ source₀ past lines true source
      → AsksForBatch left_of reads meaning (read_state past lines source) answer (line_state lines' source')
      → TakesBytes (left_of source) (left_of source') (ShowsBatch meaning past lines answer past' lines')
      → AsksForBatches left_of reads meaning past₀ lines₀ source₀ past' lines' (goes_on answer) source'

-- The source was read by such calls of a new reader, and by nothing else
pub record IsReadBy {S : Type 0} (left_of : S → Option (List ℕ)) (reads : S → ℕ → Result ℕ ReadFailed → S → Type 0)
    (meaning : Meaning) (source source' : S) : Type 0 where
  pub past : Past
  pub lines : LinesView
  pub live : Bool
  pub calls : AsksForBatches left_of reads meaning no_past (new_lines input_limit) source past lines live source'
