use Rattle.std.proofs.Common.{◌≡◌, ◌-◌, ◌≤◌, false, length, take, drop}
use Rattle.morph_io.specs.Told.{behind}
use Rattle.morph_io.specs.SinkWrites.{Writes}
use Rattle.morph_io.proofs.output.write_all.Given as goal

abbrev pub invariant-pieces : goal.invariant-pieces
invariant-pieces g l =
    (l.at ≤ length l.bytes)
    × (g.K.Sink.written l.sink ≡ behind (g.K.Sink.written l.initial.sink) (take l.at l.bytes))
    × (g.K.Sink.faults l.sink ≡ g.K.Sink.faults l.initial.sink)
    × Writes g.K.Sink.writes l.bytes l.initial.sink (drop l.at l.bytes) false l.sink
    × (l.at ≡ 0 → l.sink ≡ l.initial.sink)

abbrev pub decreases-pieces : goal.decreases-pieces
decreases-pieces g l = length l.bytes - l.at
