-- The headline: what stands in the sink and which status the run has, by what the input is
use Rattle.std.specs.Prelude.{◌≡◌, ℕ, ◌<◌, ◌≤◌, ◌⊎◌, List, length, take, Option}
use Rattle.morph_io.specs.Told.{behind, AppendsPrefix}
use Rattle.event_reader.specs.declared.cause.Cause.{Cause}
use Rattle.event_reader.specs.Steps.{Meaning}
use Rattle.event_reader.specs.Accepted.{Ended, RefusedAt, CutOff, accepted, accepted_within, closed_batches}
use Rattle.run_text.specs.Text.{Telling, event_lines, whole_text}
use Rattle.morph_cli.specs.Runs.{AppendsBatches, AppendsClosed}

-- 2^30, the most bytes of an input
abbrev pub input_limit : ℕ
input_limit = 1073741824

-- The headline of a run over an input of which at most `limit` bytes are read: by the status, what the input is and
-- what was appended to the sink. The whole text is that of applying the events one transaction at a time, in the order
-- of time, to a plain map
pub record Headline (meaning : Meaning) (telling : Telling) (limit : ℕ) (input : List ℕ)
    (left old new : Option (List ℕ)) (status : ℕ) : Type 0 where
  -- At status 0 all was read and accepted, and the whole text was written
  pub done : status ≡ 0
      → (length input ≤ limit) × ((accepted meaning input).ending ≡ Ended) × (new ≡ behind old (whole_text telling (accepted meaning input)))
  -- At status 3 a line was refused, and the whole text with the refused text was written
  pub refused : status ≡ 3 → (line : ℕ) × (cause : Cause) × ((accepted meaning input).ending ≡ RefusedAt line cause)
      × (new ≡ behind old (whole_text telling (accepted meaning input)))
  -- At status 4 reading failed, and what is reported of the events of the batches closed within the bytes taken was
  -- written
  pub read : status ≡ 4 → AppendsClosed telling.report meaning input left old new
  -- At status 5 writing failed, and a prefix of the whole text was written
  pub write : status ≡ 5 → AppendsPrefix old (whole_text telling (accepted meaning input)) new
  -- At status 6 the run was out of memory, and what is reported of the events of the first few accepted batches, whole,
  -- was written
  pub memory : status ≡ 6 → AppendsBatches telling.report (accepted meaning input).batches old new
  -- At status 7 the input is too long, and what is reported of the events of the batches closed within the limit was
  -- written. None of their lines is refused
  pub long : status ≡ 7 → (limit < length input) × ((accepted_within meaning limit input).ending ≡ CutOff)
      × (new ≡ behind old (event_lines telling.report (closed_batches meaning (take limit input))))

-- The status is the one that the input asks for, unless the run is out of memory
pub record Completes (meaning : Meaning) (limit : ℕ) (input : List ℕ) (status : ℕ) : Type 0 where
  pub done : length input ≤ limit → (accepted meaning input).ending ≡ Ended → (status ≡ 0) ⊎ (status ≡ 6)
  pub refused : (line : ℕ) (cause : Cause) → (accepted_within meaning limit input).ending ≡ RefusedAt line cause
      → (status ≡ 3) ⊎ (status ≡ 6)
  pub long : (accepted_within meaning limit input).ending ≡ CutOff → (status ≡ 7) ⊎ (status ≡ 6)
