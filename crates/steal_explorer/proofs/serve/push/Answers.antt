use Rattle.steal_explorer.proofs.Going.{goes_pushed}
use Rattle.steal_explorer.proofs.Holds.{puts}
use Rattle.steal_explorer.proofs.serve.push.Goals as goal

pub push_as-requires-clause-pushes : goal.push_as-requires-clause-pushes
push_as-requires-clause-pushes g c = puts _ _ _ c.requires.may.2.1.part

pub returns-in-Ok-clause-goes : goal.returns-in-Ok-clause-goes
returns-in-Ok-clause-goes g c = goes_pushed _ c.args.member.now c.push_as.new.self c.saturating_add-member.result c.args.op c.push_as.ensures.same c.in-Ok.ensures.rule.0
