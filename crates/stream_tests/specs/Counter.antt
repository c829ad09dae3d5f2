-- The application of the tests: one counter, to which each event adds 1
use Rattle.std.specs.Prelude.{ℕ, ◌==◌, ◌||◌, nat_lt, if◌then◌else◌, [], ◌∷◌, length, decimal, slice_index_or, Result, Ok, Err}
use Rattle.morph_base.specs.declared.operation.Func.TheVariants.{Add}
use Rattle.morph_base.specs.Limits.{latest_time}
use Rattle.morph_base.specs.Transactions.{Transaction}
use Rattle.event_reader.specs.declared.cause.Cause.{Cause}
use Rattle.event_reader.specs.declared.cause.Cause.TheVariants.{Form, Range, Same}
use Rattle.event_reader.specs.declared.number.Number.{Number}
use Rattle.event_reader.specs.declared.number.Number.TheVariants.{Value, TooGreat, NotNumber}
use Rattle.event_reader.specs.declared.version.Version.{Version}
use Rattle.event_reader.specs.Numbers.{number_of}
use Rattle.event_reader.specs.Steps.{Meaning}
use Rattle.event_reader.specs.Versions.{op_in}
use Rattle.event_reader.specs.Generated.{Drawn}

-- The event at this time, which adds 1 to the counter
abbrev pub count_at : Version → (ts : ℕ) → Transaction
count_at version ts = record { ts = ts; ops = op_in version Add (record { table = 0; id = 0 }) [] 1 ∷ [] }

-- What a line with this time says: its event, or the cause form if the time is no number, and range if it is 0 or too
-- great or the counter is not there
abbrev pub count_by : Version → (size : ℕ) → Number → Result Transaction Cause
count_by version size NotNumber = Err Form
count_by version size TooGreat = Err Range
count_by version size (Value ts) =
    if ts == 0 || (nat_lt latest_time ts || size == 0) then Err Range else Ok (count_at version ts)

-- What the words of a line say: a line has a time, and with one more word it is refused as same
abbrev pub count_event : (size : ℕ) → Meaning
count_event size version words =
    if length words == 2 then Err Same
    else (if length words == 1 then count_by version size (number_of (slice_index_or words 0 [])) else Err Form)

-- The line of event i: its time
abbrev pub count_drawn : (i state : ℕ) → Drawn
count_drawn i state = record { line = decimal i; state = state }
