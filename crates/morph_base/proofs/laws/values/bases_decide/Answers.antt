use Rattle.morph_base.proofs.CleanLaws.{value_at-final, commits_at-verdict}
use Rattle.morph_base.proofs.laws.values.bases_decide.Goals as goal

pub returns : goal.returns
returns c = record { values = value_at-final; verdicts = commits_at-verdict }
