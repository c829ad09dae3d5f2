use Rattle.interleaving_core.proofs.Storing.{same_shape_trans}
use Rattle.interleaving_core.proofs.state.CoreState.claim.Goals as goal

pub returns-clause-shape : goal.returns-clause-shape
returns-clause-shape c = same_shape_trans _ _ _ c.put_word.ensures.shape c.put_claim.ensures.shape
