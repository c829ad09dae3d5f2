use Rattle.interleaving_core.proofs.Storing.{word_set}
use Rattle.interleaving_core.proofs.state.CoreState.put_word.Goals as goal

pub returns-clause-core : goal.returns-clause-core
returns-clause-core c = word_set c.args.self.now c.set.new.self c.args.op c.args.word c.requires c.set.ensures.items
