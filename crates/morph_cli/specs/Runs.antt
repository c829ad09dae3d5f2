-- The result of a run: what is read, where it ends, and what stands in the sink
use Rattle.std.specs.Prelude.{◌≡◌, ℕ, List, ◌++◌, Option, Some, Result, Ok, Err}
use Rattle.morph_base.specs.declared.key.Layout.{Layout}
use Rattle.morph_base.specs.Transactions.{Transaction}
use Rattle.morph_io.specs.Told.{behind, AppendsPrefix}
use Rattle.event_reader.specs.declared.cause.Cause.{Cause}
use Rattle.event_reader.specs.Steps.{Meaning}
use Rattle.event_reader.specs.Accepted.{Accepted, Ended, RefusedAt, CutOff, accepted_within, closed_batches}
use Rattle.morph_cli.specs.declared.run.Finish.{Finish}
use Rattle.morph_cli.specs.declared.run.Finish.TheVariants.{Complete, Refused}
use Rattle.morph_cli.specs.declared.fault.Fault.{Fault}
use Rattle.morph_cli.specs.declared.fault.Fault.TheVariants.{Read, Write, OutOfMemory, TooLong}
use Rattle.run_text.specs.declared.report.Report.{Report}
use Rattle.run_text.specs.Text.{Telling, event_lines, whole_text}

-- A layout of tables with `size` ids each
abbrev pub layout_of : (tables size : ℕ) → Layout
layout_of tables size = record { tables = tables; size = size }

-- What is reported of the events of the first few batches, whole, was appended
pub record AppendsBatches (report : Report) (batches : List (List Transaction))
    (old new : Option (List ℕ)) : Type 0 where
  pub done : List (List Transaction)
  pub rest : List (List Transaction)
  pub parts : batches ≡ done ++ rest
  pub appended : new ≡ behind old (event_lines report done)

-- Some bytes of the input were taken, and what is reported of the events of the batches closed within them was appended
pub record AppendsClosed (report : Report) (meaning : Meaning) (input : List ℕ)
    (left old new : Option (List ℕ)) : Type 0 where
  pub taken : List ℕ
  pub rest : List ℕ
  pub parts : input ≡ taken ++ rest
  pub left_is : left ≡ Some rest
  pub appended : new ≡ behind old (event_lines report (closed_batches meaning taken))

-- How a run over an input ends, if at most `limit` bytes of it are read
module _ (meaning : Meaning) (telling : Telling) (limit : ℕ) (input : List ℕ) where
  -- The accepted batches of the input, if at most `limit` bytes of it are read
  abbrev pub all : Accepted
  all = accepted_within meaning limit input

  -- How the run ends, by its answer: what the accepted batches are, and what was appended to the sink
  abbrev pub EndsSo : (left old : Option (List ℕ)) → Result Finish Fault → (new : Option (List ℕ)) → Type 0
  EndsSo left old (Ok Complete) new = (all.ending ≡ Ended) × (new ≡ behind old (whole_text telling all))
  EndsSo left old (Ok Refused) new =
      (line : ℕ) × (cause : Cause) × (all.ending ≡ RefusedAt line cause) × (new ≡ behind old (whole_text telling all))
  EndsSo left old (Err Read) new = AppendsClosed telling.report meaning input left old new
  EndsSo left old (Err TooLong) new =
      (all.ending ≡ CutOff) × (new ≡ behind old (event_lines telling.report all.batches))
  EndsSo left old (Err OutOfMemory) new = AppendsBatches telling.report all.batches old new
  EndsSo left old (Err Write) new = AppendsPrefix old (whole_text telling all) new

-- A run over an input that the program makes is read to its end, or a write fails, or memory is refused
abbrev pub EndsMade : Result Finish Fault → Type 0
EndsMade (Ok Complete) = Unit {0}
EndsMade (Ok Refused) = ⊥
EndsMade (Err Read) = ⊥
EndsMade (Err TooLong) = ⊥
EndsMade (Err OutOfMemory) = Unit {0}
EndsMade (Err Write) = Unit {0}
