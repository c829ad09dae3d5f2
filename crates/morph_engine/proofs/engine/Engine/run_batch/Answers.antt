use Rattle.morph_engine.proofs.Ended.{end_by}
use Rattle.morph_engine.proofs.engine.Engine.run_batch.Goals as goal

pub returns-clause-ended : goal.returns-clause-ended
returns-clause-ended g c = end_by c.in_ok-prepared.ensures.workers c.run_prepared.ensures.ran
