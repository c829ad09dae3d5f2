use Rattle.morph_base.proofs.TimeLaws.{by_time-permutes, by_time-rises, by_time-is}
use Rattle.morph_base.proofs.laws.order.by_rising_time.Goals as goal

pub returns-clause-same : goal.returns-clause-same
returns-clause-same c = by_time-permutes

pub returns-clause-rises : goal.returns-clause-rises
returns-clause-rises c = by_time-rises

pub returns-clause-once : goal.returns-clause-once
returns-clause-once c = by_time-is
