-- What the trait promises of bytes told, from the exact clauses.
use Rattle.std.proofs.Common.{arith}
use Rattle.std.proofs.lemmas.Grind.{common_steps}
use Rattle.morph_io.specs.Told.{ahead}
use Rattle.event_reader.proofs.gen_source.GenSourceSource.TheImpl.Goals as goal

pub read-tells : goal.read-tells
unfolding ahead
read-tells g c = grind (arith, common_steps)
