use Rattle.abort_eager.proofs.Sweeping.{cause_shown}
use Rattle.abort_eager.proofs.attempts.AttemptWithCascadeWalkingRunner.visit.Goals as goal

pub sweep-requires-clause-cause : goal.sweep-requires-clause-cause
sweep-requires-clause-cause g c = cause_shown _ _ _ c.args.ground.now.abort _ _ c.attempt-answer.result c.attempt-answer.ensures.answer.does

pub returns-clause-visits : goal.returns-clause-visits
returns-clause-visits g c = (c.attempt-answer.new.runner, c.attempt-answer.ensures.answer, c.sweep.ensures.sweeps)
