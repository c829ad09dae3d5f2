-- Inside the crate: what the buffer of a reader of lines keeps true
use Rattle.std.specs.Prelude.{◌≡◌, ◌+◌, ◌-◌, ◌≤◌, IsTrue, length}
use Rattle.event_reader.specs.declared.limits.TheConstants.{BUFFER_BYTES}
use Rattle.event_reader.specs.Limits.{input_bytes}
use Rattle.event_reader.specs.declared.lines.Lines.TheInside.{Inside}

-- The buffer is whole, what is kept and the last line lie inside it, at most the limit was taken, and while the reader
-- may be asked again, the lines given and the bytes kept are together at most the bytes taken
pub record IsBuffer (lines : Inside) : Type 0 where
  pub whole : length lines.buffer.items ≡ BUFFER_BYTES
  pub kept_order : lines.start ≤ lines.end
  pub kept_inside : lines.end ≤ BUFFER_BYTES
  pub line_order : lines.line_start ≤ lines.line_end
  pub line_inside : lines.line_end ≤ BUFFER_BYTES
  pub taken_bound : lines.taken ≤ lines.limit
  pub limit_bound : lines.limit ≤ input_bytes
  pub kept_bound : lines.end - lines.start ≤ lines.taken
  pub number_bound : lines.number ≤ lines.limit + 1
  pub number_live : IsTrue lines.live → lines.number + (lines.end - lines.start) ≤ lines.taken
