use Rattle.std.proofs.Common.{◌≡◌, false, ◌+◌, ◌-◌, ◌<◌, ◌≤◌, length}
use Rattle.std.specs.Prelude.{IsTrue}
use Rattle.morph_io.specs.Told.{IsAtEnd}
use Rattle.event_reader.specs.declared.version.Version.TheVariants.{One}
use Rattle.event_reader.specs.Pending.{batch_of, Notes, IsSoundBatch}
use Rattle.event_reader.specs.Reader.{KnowsVersion, reading_of}
use Rattle.event_reader.proofs.BatchReads.{AskedTo}
use Rattle.event_reader.proofs.batches.read_batch.Given as goal

abbrev pub invariant-lines : goal.invariant-lines
invariant-lines g l = record {
  reads : AskedTo g.S.Source.left g.S.Source.reads (g.A.EventApp.event_of l.app l.size) l.initial.past l.initial.lines l.initial.source l.past.version (batch_of l.pending) l.lines l.source;
  closed : l.past.closed ≡ l.initial.past.closed;
  opens : l.lines.number ≡ 0 → l.past.version ≡ One;
  version : KnowsVersion l.initial.lines.number (reading_of l.initial.lines (g.S.Source.left l.initial.source)) l.lines.number l.past.version;
  start : l.lines.number ≡ l.initial.lines.number → reading_of l.lines (g.S.Source.left l.source) ≡ reading_of l.initial.lines (g.S.Source.left l.initial.source);
  same : 0 < l.initial.lines.number → l.past.version ≡ l.initial.past.version;
  notes : Notes l.initial.past.closed l.pending;
  sound : IsSoundBatch l.past.version (record { tables = g.A.EventApp.table_count l.app; size = l.size }) (batch_of l.pending);
  counted : l.initial.lines.number + length (batch_of l.pending) ≤ l.lines.number;
  limit : l.lines.limit ≡ l.initial.lines.limit;
  live : IsTrue l.lines.live;
  numbered : l.initial.lines.number ≤ l.lines.number;
  stays : IsTrue l.initial.lines.ended → IsTrue l.lines.ended;
  at_end : l.initial.lines.ended ≡ false → IsTrue l.lines.ended → IsAtEnd (g.S.Source.left l.source);
  idle : IsTrue l.initial.lines.ended → l.source ≡ l.initial.source;
  steady : g.S.Source.faults l.source ≡ g.S.Source.faults l.initial.source;
}

-- each turn reads a line
abbrev pub decreases-lines : goal.decreases-lines
decreases-lines g l = l.lines.limit + 1 - l.lines.number
