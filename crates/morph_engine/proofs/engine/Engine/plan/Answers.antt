use Rattle.std.proofs.Common.{le_trans}
use Rattle.morph_base.proofs.BoundLaws.{high_of-batch}
use Rattle.morph_engine.proofs.engine.Engine.plan.Goals as goal

pub rebase-requires-clause-keys : goal.rebase-requires-clause-keys
rebase-requires-clause-keys c = c.in_ok-plan.ensures.keys c.args.self.now.layout c.requires.keys

pub rebase-requires-clause-small : goal.rebase-requires-clause-small
rebase-requires-clause-small c = λ key.
    le_trans (c.requires.small key) (high_of-batch c.args.batch c.in_ok-plan.plan c.requires.batch c.in_ok-plan.ensures.valid.plan c.in_ok-plan.ensures.events)
