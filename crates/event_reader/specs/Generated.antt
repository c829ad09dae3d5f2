-- What the generator of an application writes
use Rattle.std.specs.Prelude.{◌≡◌, ℕ, ◌<◌, ◌≤◌, false, List, length, Ok}
use Rattle.std.specs.List.{All}
use Rattle.morph_base.specs.Transactions.{Transaction}
use Rattle.event_reader.specs.Limits.{generated_events, generated_ids, generated_bytes}
use Rattle.event_reader.specs.declared.version.Version.TheVariants.{One}
use Rattle.event_reader.specs.Steps.{Saying, Meaning, said_by, is_ignored, is_punctuation}
use Rattle.event_reader.specs.Versions.{is_version_line}
use Rattle.event_reader.specs.Words.{words_of}

-- A line, without its LF, and the state of the draws after it
pub record Drawn : Type 0 where
  pub line : List ℕ
  pub state : ℕ

-- The line is an event's at time i: it has at most `generated_bytes` bytes, without LF and CR, it is neither ignored
-- nor a punctuation nor the version line, and its words are an event at time i
pub record IsEventLine (saying : Saying) (i : ℕ) (line : List ℕ) : Type 0 where
  pub event : Transaction
  pub says : said_by saying (words_of line) ≡ Ok event
  pub time : event.ts ≡ i
  pub printable : All (λ b. 32 ≤ b) line
  pub counts : is_ignored line ≡ false
  pub no_mark : is_punctuation line ≡ false
  pub no_version : is_version_line line ≡ false
  pub short : length line ≤ generated_bytes

-- Each line that an application's generator writes is an event's in version 1, at the time of its number
abbrev pub GeneratesEvents : {App : Type 0} → (App → ℕ → Meaning) → (App → (size i state : ℕ) → Drawn) → Type 0
GeneratesEvents {App} event_of generated =
    (app : App) (size i state : ℕ) → 0 < size → size ≤ generated_ids → 0 < i → i ≤ generated_events
    → IsEventLine (event_of app size One) i (generated app size i state).line
