use Rattle.std.proofs.Common.{refl}
use Rattle.op_words.proofs.board.held_op.HeldOp.take.Goals as goal

pub returns : goal.returns
returns c = (_, refl, record { op = refl; attempt = refl; count = refl; len = c.self.invariant })
