-- The version of an input, by its first line
use Rattle.std.specs.Prelude.{ℕ, Bool, false, if◌then◌else◌, List, [], ◌∷◌, drop}
use Rattle.std.specs.Str.{bytes_eq}
use Rattle.morph_base.specs.declared.limits.TheConstants.{FIRST_MAX, MAX, EVENTS}
use Rattle.morph_base.specs.declared.key.Key.{Key}
use Rattle.morph_base.specs.declared.operation.Func.{Func}
use Rattle.morph_base.specs.declared.operation.Op.{Op}
use Rattle.morph_base.specs.Operations.{limited_to, op_of}
use Rattle.event_reader.specs.Limits.{first_events}
use Rattle.event_reader.specs.declared.version.Version.{Version}
use Rattle.event_reader.specs.declared.version.Version.TheVariants.{One, Two}

-- The greatest value of an input of the version, and the greatest amount of its lines: FIRST_MAX in version 1, MAX in
-- version 2
abbrev pub greatest_of : Version → ℕ
greatest_of One = FIRST_MAX
greatest_of Two = MAX

-- The most events of a batch of the version: 10,240 in version 1, EVENTS in version 2
abbrev pub most_events : Version → ℕ
most_events One = first_events
most_events Two = EVENTS

-- An operation of an input of the version, with no floor
abbrev pub op_in : Version → Func → Key → (params : List Key) → (c : ℕ) → Op
op_in version func key params c = limited_to 0 (greatest_of version) (op_of func key params c)

-- The version line: `morph 2`
abbrev pub version_text : List ℕ
version_text = 109 ∷ 111 ∷ 114 ∷ 112 ∷ 104 ∷ 32 ∷ 50 ∷ []

-- The test whether a line is the version line
abbrev pub is_version_line : List ℕ → Bool
is_version_line line = bytes_eq line version_text

-- The test whether the first of these lines is the version line
abbrev pub has_version_line : List (List ℕ) → Bool
has_version_line [] = false
has_version_line (line ∷ lines) = is_version_line line

-- The lines without the version line, if it is the first of them
abbrev pub lines_read : List (List ℕ) → List (List ℕ)
lines_read lines = if has_version_line lines then drop 1 lines else lines

-- The version of an input with these lines: 2 if the first one is the version line, and else 1
abbrev pub version_of : List (List ℕ) → Version
version_of lines = if has_version_line lines then Two else One
