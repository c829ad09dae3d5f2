use Rattle.run_checker.proofs.Apart.{answers_agree}
use Rattle.run_checker.proofs.laws.one_answer_is_right.Goals as goal

pub returns : goal.returns
returns c = answers_agree
