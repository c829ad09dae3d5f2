use Rattle.morph_base.proofs.CleanLaws as Laws
use Rattle.morph_base.proofs.laws.values.fold_is_clean.Goals as goal

pub returns : goal.returns
returns c = Laws.fold_is_clean
