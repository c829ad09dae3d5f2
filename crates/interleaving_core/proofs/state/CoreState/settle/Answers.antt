use Rattle.interleaving_core.proofs.Storing.{same_shape_trans, room_to_settle}
use Rattle.interleaving_core.proofs.state.CoreState.settle.Goals as goal

pub book-requires : goal.book-requires
book-requires c = room_to_settle c.args.plan.now c.args.self.now c.args.op c.args.by c.requires.plan c.requires.state c.requires.may

pub book-requires-in-Some-false : goal.book-requires-in-Some-false
book-requires-in-Some-false c = room_to_settle c.args.plan.now c.args.self.now c.args.op c.args.by c.requires.plan c.requires.state c.requires.may

pub returns-in-Some-true-clause-shape : goal.returns-in-Some-true-clause-shape
returns-in-Some-true-clause-shape c = same_shape_trans _ _ _ c.book.ensures.shape c.put_word.ensures.shape

pub returns-in-Some-false-clause-shape : goal.returns-in-Some-false-clause-shape
returns-in-Some-false-clause-shape c = same_shape_trans _ _ _ c.book-in-Some-false.ensures.shape c.put_word-in-Some-false.ensures.shape
