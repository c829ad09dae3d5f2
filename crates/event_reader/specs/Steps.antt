-- What a line does, after the accepted lines before it
use Rattle.std.specs.Prelude.{ℕ, Bool, ◌||◌, ◌==◌, nat_le, nat_lt, max, fold, if◌then◌else◌, List, [], ◌∷◌, length, slice_index, Option, Some, None, Result, Ok, Err}
use Rattle.std.specs.List.{list_any}
use Rattle.std.specs.Str.{bytes_eq}
use Rattle.morph_base.specs.Transactions.{Transaction}
use Rattle.event_reader.specs.Limits.{longest_line}
use Rattle.event_reader.specs.declared.cause.Cause.{Cause}
use Rattle.event_reader.specs.declared.version.Version.{Version}
use Rattle.event_reader.specs.declared.cause.Cause.TheVariants.{Long, Form, Late, Twice, Full}
use Rattle.event_reader.specs.Versions.{most_events}
use Rattle.event_reader.specs.Words.{words_of}

-- What an application makes of the words of a line: its event, or the first of the causes form, range and same
abbrev pub Saying : Type 0
Saying = List (List ℕ) → Result Transaction Cause

-- What an application makes of the words of a line in an input of each version
abbrev pub Meaning : Type 0
Meaning = Version → Saying

-- The rules of lines of one version: what their words say, and the most events of a batch
pub record Rules : Type 0 where
  pub says : Saying
  pub most : ℕ

-- The rules of the lines of a version
abbrev pub rules_of : Meaning → Version → Rules
rules_of meaning version = record { says = meaning version; most = most_events version }

-- What a line does: nothing, close the batch, add an event to it, or end the reading
pub data Step : Type 0 where
  Ignored : Step
  Closes : Step
  Adds : Transaction → Step
  Refuses : Cause → Step

-- The greatest timestamp of the closed batches once this batch is closed too, from what it was before; 0 if there is
-- none
abbrev pub latest_with : List Transaction → ℕ → ℕ
latest_with batch closed = fold (λ latest e. max latest e.ts) closed batch

-- The test whether an event of the batch has this timestamp
abbrev pub has_time : List Transaction → ℕ → Bool
has_time batch ts = list_any (λ e. e.ts == ts) batch

-- What an event does: it is late, it is there twice, it is one too many, or it joins the batch
abbrev pub joining : (most closed : ℕ) → List Transaction → Transaction → Step
joining most closed batch e =
    if nat_le e.ts closed then Refuses Late else (if has_time batch e.ts then Refuses Twice
    else (if nat_le most (length batch) then Refuses Full else Adds e))

-- What an event line does: the application refuses its words, or they are an event
abbrev pub event_step : (most closed : ℕ) → List Transaction → Result Transaction Cause → Step
event_step most closed batch (Ok e) = joining most closed batch e
event_step most closed batch (Err cause) = Refuses cause

-- What an application says of words, and the cause form if they are no words
abbrev pub said_by : Saying → Option (List (List ℕ)) → Result Transaction Cause
said_by saying (Some words) = saying words
said_by saying None = Err Form

-- The test whether a line is empty or a comment, which begins with `#`
abbrev pub is_ignored : List ℕ → Bool
is_ignored line = length line == 0 || slice_index line 0 == 35

-- The test whether a line is a punctuation: exactly `P`
abbrev pub is_punctuation : List ℕ → Bool
is_punctuation line = bytes_eq line (80 ∷ [])

-- What a line does, if `closed` is the greatest timestamp of the batches closed before it, and `batch` has the events
-- of the unfinished batch, in order of arrival
unfoldable pub step_of : Rules → (closed : ℕ) → List Transaction → List ℕ → Step
step_of rules closed batch line =
    if nat_lt longest_line (length line) then Refuses Long else (if is_ignored line then Ignored
    else (if is_punctuation line then Closes else event_step rules.most closed batch (said_by rules.says (words_of line))))
