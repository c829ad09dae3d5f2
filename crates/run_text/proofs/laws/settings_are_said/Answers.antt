use Rattle.run_text.proofs.SaidLaws.{settings_said}
use Rattle.run_text.proofs.laws.settings_are_said.Goals as goal

pub returns : goal.returns
returns c = settings_said
