use Rattle.morph_base.proofs.CleanLaws.{clean_value, clean_verdict}
use Rattle.morph_base.proofs.laws.values.clean_is_fold.Goals as goal

pub returns : goal.returns
returns c = record { values = clean_value; verdicts = clean_verdict }
