use Rattle.morph_base.proofs.SourceLaws.{source_law}
use Rattle.morph_base.proofs.laws.values.sources.Goals as goal

pub returns : goal.returns
returns c = source_law
