use Rattle.std.proofs.Common.{Some}
use Rattle.interleaving_core.proofs.Storing.{record_set}
use Rattle.interleaving_core.proofs.state.CoreState.put_record.Goals as goal

pub returns-clause-core : goal.returns-clause-core
returns-clause-core c = record_set c.args.self.now c.set.new.self c.args.op c.args.j (Some c.args.kept) c.requires.place c.requires.in_range c.set.ensures.items
