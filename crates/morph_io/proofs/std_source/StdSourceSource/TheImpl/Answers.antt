-- An object that tells nothing tells the same after each call.
use Rattle.std.proofs.Common.{arith}
use Rattle.std.proofs.lemmas.Grind.{common_steps}
use Rattle.morph_io.specs.Told.{ahead}
use Rattle.morph_io.proofs.std_source.StdSourceSource.TheImpl.Goals as goal

pub read-tells : goal.read-tells
unfolding ahead
read-tells g c = grind (arith, common_steps)
