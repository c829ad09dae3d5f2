-- The limits of an input and of a generated text. Each is a number that the definitions own. The code's constant of the
-- same name in `src/limits.rt` is checked against it, so a change of the constant alone is refused
use Rattle.std.specs.Prelude.{ℕ}

-- 1,000: the most bytes of a line, its LF and one CR at its end not counted
abbrev pub longest_line : ℕ
longest_line = 1000

-- 1,002: this many bytes without an LF show that their line is too long, with or without a CR at its end
abbrev pub deciding_bytes : ℕ
deciding_bytes = 1002

-- 4,096: the most bytes that a reader keeps between the source and its lines
abbrev pub buffer_bytes : ℕ
buffer_bytes = 4096

-- 19: the most words of an event line
abbrev pub line_words : ℕ
line_words = 19

-- 10,240: the most events of a batch in version 1
abbrev pub first_events : ℕ
first_events = 10240

-- 16: the most bytes of the printed name of a table
abbrev pub name_bytes : ℕ
name_bytes = 16

-- 10^13: the greatest number that a word of a line can say
abbrev pub greatest_number : ℕ
greatest_number = 10000000000000

-- 2^30: the most bytes of an input
abbrev pub input_bytes : ℕ
input_bytes = 1073741824

-- 10^6: the most events of a generated text
abbrev pub generated_events : ℕ
generated_events = 1000000

-- 1,000: the events of a generated text between one punctuation and the next
abbrev pub generated_batch : ℕ
generated_batch = 1000

-- 10^6: the most ids of a table for which a text is generated
abbrev pub generated_ids : ℕ
generated_ids = 1000000

-- 300: the most bytes of a generated line, its LF not counted
abbrev pub generated_bytes : ℕ
generated_bytes = 300
