use Rattle.run_text.proofs.WordLaws.{stripped}
use Rattle.run_text.proofs.words.value_in.Goals as goal

pub returns : goal.returns
returns c = stripped (λ x. x.now) c.strip_prefix.result c.args.name c.text.result.now c.args.word.now c.text.ensures c.strip_prefix.ensures.cases
