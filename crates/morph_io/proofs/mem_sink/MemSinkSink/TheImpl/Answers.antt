-- What the trait promises of bytes told, from the exact clauses.
use Rattle.std.proofs.Common.{arith}
use Rattle.std.proofs.lemmas.Grind.{common_steps}
use Rattle.morph_io.specs.Told.{behind}
use Rattle.morph_io.proofs.mem_sink.MemSinkSink.TheImpl.Goals as goal

pub write-tells : goal.write-tells
unfolding behind
write-tells c = grind (arith, common_steps)
