use Rattle.abort_eager.proofs.Touching.{touched_one, cause_stays}
use Rattle.abort_eager.proofs.cascade.Cascade.next.Goals as goal

pub returns-clause-free : goal.returns-clause-free
returns-clause-free c = (touched_one _ _ _ _ _ _ c.touch.ensures.touches).goes.free

pub returns-clause-cause : goal.returns-clause-cause
returns-clause-cause c = cause_stays _ _ _ _ _ _ _ _ c.requires.cause c.pop.ensures.goes c.touch.ensures.touches
