use Rattle.morph_base.proofs.EndLaws.{overwritten-end, state_at-fold}
use Rattle.morph_base.proofs.laws.states.end_of_batch.Goals as goal

pub returns : goal.returns
returns c = record { overwritten = overwritten-end; fold = state_at-fold }
