-- What contracts see of the streams of a run
use Rattle.std.specs.Prelude.{ℕ, List, Option}
use Rattle.morph_cli.specs.Outputs.{Outputs, outputs_of}

-- How often a source, a sink and the notes have failed so far
pub record FaultCounts : Type 0 where
  pub source : ℕ
  pub sink : ℕ
  pub notes : ℕ

-- The counts of faults of these three
abbrev pub fault_counts : (source sink notes : ℕ) → FaultCounts
fault_counts source sink notes = record { source = source; sink = sink; notes = notes }

-- What contracts see of the source, the sink and the notes of a run: the bytes that are left and those that were
-- written, as far as they are revealed, and the counts of faults
pub record Streams : Type 0 where
  pub left : Option (List ℕ)
  pub outputs : Outputs
  pub faults : FaultCounts

-- The streams that have these bytes left, these bytes written and these counts of faults
abbrev pub streams_of : (left sink notes : Option (List ℕ)) → FaultCounts → Streams
streams_of left sink notes faults = record { left = left; outputs = outputs_of sink notes; faults = faults }
