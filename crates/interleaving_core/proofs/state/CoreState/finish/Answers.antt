use Rattle.interleaving_core.proofs.Storing.{same_shape_trans, room_to_finish}
use Rattle.interleaving_core.proofs.state.CoreState.finish.Goals as goal

pub publish-requires-clause-room : goal.publish-requires-clause-room
publish-requires-clause-room c = room_to_finish c.args.plan.now c.args.self.now c.args.op c.args.by c.requires.plan c.requires.state c.requires.may

pub returns-clause-shape : goal.returns-clause-shape
returns-clause-shape c = same_shape_trans _ _ _ c.publish.ensures.shape (same_shape_trans _ _ _ c.put_word.ensures.shape c.put_claim.ensures.shape)
