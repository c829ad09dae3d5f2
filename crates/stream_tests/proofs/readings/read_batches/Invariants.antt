use Rattle.std.specs.Prelude.{IsTrue}
use Rattle.stream_tests.proofs.readings.read_batches.Given as goal

abbrev pub invariant-batches : goal.invariant-batches
invariant-batches g l = record { live : IsTrue l.reader.live }
