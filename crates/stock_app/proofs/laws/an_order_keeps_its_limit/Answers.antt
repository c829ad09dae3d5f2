use Rattle.stock_app.proofs.Limits.{kept, failed}
use Rattle.stock_app.proofs.laws.an_order_keeps_its_limit.Goals as goal

pub returns-clause-within : goal.returns-clause-within
returns-clause-within c = kept

pub returns-clause-over : goal.returns-clause-over
returns-clause-over c = failed
