use Rattle.std.proofs.Common.{◌∙◌}
use Rattle.morph_engine.proofs.InKeys.{keys_of_batch}
use Rattle.morph_engine.proofs.engine.plan_batch.Goals as goal

pub returns-clause-events : goal.returns-clause-events
returns-clause-events c = c.in_ok-plan.ensures.transactions ∙ c.in_ok-txns.ensures.of.transactions

pub returns-clause-keys : goal.returns-clause-keys
returns-clause-keys c layout inside =
    keys_of_batch c.args.batch c.in_ok-plan.plan layout c.in_ok-plan.ensures.plan
    (c.in_ok-plan.ensures.transactions ∙ c.in_ok-txns.ensures.of.transactions) inside

pub returns-clause-bases : goal.returns-clause-bases
returns-clause-bases c = λ o j v lt inside is. c.in_ok-plan.ensures.blank o j v is
