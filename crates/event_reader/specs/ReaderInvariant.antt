-- Inside the crate: what a reader of batches keeps true
use Rattle.std.specs.Prelude.{◌≡◌, ◌+◌, ◌≤◌, false, IsTrue, []}
use Rattle.event_reader.specs.Limits.{input_bytes}
use Rattle.event_reader.specs.declared.version.Version.TheVariants.{One}
use Rattle.event_reader.specs.declared.batches.BatchReader.TheInside.{Inside}

-- The reader of lines has given at most one line more than the limit has bytes. It may be asked again or came to the
-- end of the input. Before the first line the version is 1
pub record IsReader {A : Type 0} (reader : Inside A) : Type 0 where
  pub bound : reader.lines.number ≤ reader.lines.limit + 1
  pub limit : reader.lines.limit ≤ input_bytes
  pub opens : reader.lines.number ≡ 0 → reader.past.version ≡ One
  pub done : IsTrue reader.live → reader.lines.live ≡ false → (reader.lines.kept ≡ []) × IsTrue reader.lines.ended
