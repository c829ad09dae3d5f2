use Rattle.std.proofs.Common.{length}
use Rattle.morph_base.proofs.plain.+write.Given as goal

abbrev pub decreases-write : goal.decreases-write
decreases-write l = length l.ops.now
