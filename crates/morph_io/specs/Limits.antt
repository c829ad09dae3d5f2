-- The limits that the definitions own. The constants of the code are checked against them
use Rattle.std.specs.Prelude.{ℕ}

-- 8,192: a buffer in front of a sink is written when it holds this many bytes
abbrev pub out_bytes : ℕ
out_bytes = 8192

-- 400: the most bytes of a line that is being written
abbrev pub line_bytes : ℕ
line_bytes = 400

-- 1,000: the most times that one call is tried again if it is interrupted
abbrev pub most_retries : ℕ
most_retries = 1000
