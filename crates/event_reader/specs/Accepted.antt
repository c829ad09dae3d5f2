-- The batches that an input has, up to its first refused line
use Rattle.std.specs.Prelude.{ℕ, ◌+◌, ◌==◌, Bool, true, false, if◌then◌else◌, List, [], ◌∷◌, ◌++◌}
use Rattle.morph_base.specs.Transactions.{Transaction}
use Rattle.event_reader.specs.declared.cause.Cause.{Cause}
use Rattle.event_reader.specs.declared.version.Version.{Version}
use Rattle.event_reader.specs.declared.version.Version.TheVariants.{One, Two}
use Rattle.event_reader.specs.Lines.{Reading, whole, front, within, behind_first}
use Rattle.event_reader.specs.Steps.{Meaning, Rules, rules_of, Step, Ignored, Closes, Adds, Refuses, latest_with, step_of}
use Rattle.event_reader.specs.Versions.{has_version_line}

-- How the batches end: the input ends, a line is refused, or the lines are cut off with none refused
pub data Ending : Type 0 where
  Ended : Ending
  RefusedAt : (line : ℕ) → Cause → Ending
  CutOff : Ending

-- Batches one after another, and how they end
pub record Accepted : Type 0 where
  pub batches : List (List Transaction)
  pub ending : Ending

-- The result with one more batch in front of the others. A batch without events is left out
abbrev pub with_batch : List Transaction → Accepted → Accepted
with_batch [] all = all
with_batch (e ∷ es) all = record { batches = (e ∷ es) ∷ all.batches; ending = all.ending }

-- What follows the last line: the end of the input closes the batch, and if the lines are cut off, the batch stays open
abbrev pub at_last : (cut : Bool) → List Transaction → Accepted
at_last true batch = record { batches = []; ending = CutOff }
at_last false batch = with_batch batch (record { batches = []; ending = Ended })

-- Where a step leads, if `after` says what follows from the lines after it
abbrev pub led_by : Step → (number closed : ℕ) → List Transaction → (ℕ → List Transaction → Accepted) → Accepted
led_by Ignored number closed batch after = after closed batch
led_by Closes number closed batch after = with_batch batch (after (latest_with batch closed) [])
led_by (Adds e) number closed batch after = after closed (batch ++ e ∷ [])
led_by (Refuses cause) number closed batch after = record { batches = []; ending = RefusedAt (number + 1) cause }

-- The batches of lines of one version, if `number` lines come before them, `closed` is the greatest timestamp of the
-- batches closed before, and `batch` has the events of the unfinished batch
unfoldable pub accepted_lines : Rules → (number closed : ℕ) → List Transaction → List (List ℕ) → (cut : Bool) → Accepted
accepted_lines rules number closed batch [] cut = at_last cut batch
accepted_lines rules number closed batch (line ∷ lines) cut =
    led_by (step_of rules closed batch line) number closed batch
    (λ closed' batch'. accepted_lines rules (number + 1) closed' batch' lines cut)

-- The batches of a reading of one version, from the same start
abbrev pub accepted_from : Rules → (number closed : ℕ) → List Transaction → Reading → Accepted
accepted_from rules number closed batch reading = accepted_lines rules number closed batch reading.lines reading.cut

-- The batches of an input's lines from the first on. The version line is ignored, and all others are lines of its
-- version
abbrev pub accepted_first : Meaning → (closed : ℕ) → List Transaction → Reading → Accepted
accepted_first meaning closed batch reading =
    if has_version_line reading.lines then accepted_from (rules_of meaning Two) 1 closed batch (behind_first reading)
    else accepted_from (rules_of meaning One) 0 closed batch reading

-- The batches of lines that come after the first `number` lines of an input of this version. Before the first line the
-- version is not known
abbrev pub accepted_behind : Meaning → Version → (number closed : ℕ) → List Transaction → Reading → Accepted
accepted_behind meaning version number closed batch reading =
    if number == 0 then accepted_first meaning closed batch reading
    else accepted_from (rules_of meaning version) number closed batch reading

-- The batches that are closed before the first refused line of an input, in order, with that line's number and cause if
-- there is one. If no line is refused, the end of the input closes the last batch
abbrev pub accepted : Meaning → List ℕ → Accepted
accepted meaning input = accepted_first meaning 0 [] (whole input)

-- The batches that are closed by a punctuation whose line, with its LF, is within the front of an input
abbrev pub closed_batches : Meaning → List ℕ → List (List Transaction)
closed_batches meaning bytes = (accepted_first meaning 0 [] (front bytes)).batches

-- The batches of an input of which at most `limit` bytes are read. The result ends in `CutOff` exactly if the input has
-- more bytes than that, and none of the lines decided by the first `limit` of them is refused
abbrev pub accepted_within : Meaning → (limit : ℕ) → List ℕ → Accepted
accepted_within meaning limit input = accepted_first meaning 0 [] (within limit input)
