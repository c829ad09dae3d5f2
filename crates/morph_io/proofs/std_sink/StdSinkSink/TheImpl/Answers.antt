-- An object that tells nothing tells the same after each call.
use Rattle.std.proofs.Common.{arith}
use Rattle.std.proofs.lemmas.Grind.{common_steps}
use Rattle.morph_io.specs.Told.{behind}
use Rattle.morph_io.proofs.std_sink.StdSinkSink.TheImpl.Goals as goal

pub write-tells : goal.write-tells
unfolding behind
write-tells g c = grind (arith, common_steps)
