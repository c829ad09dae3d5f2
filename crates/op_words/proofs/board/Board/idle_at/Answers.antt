use Rattle.std.proofs.Common.{sym, subst}
use Rattle.op_words.specs.Stepping.{SoughtAt}
use Rattle.op_words.proofs.Looking.{sought_as}
use Rattle.op_words.proofs.board.Board.idle_at.Goals as goal
use Rattle.op_words.specs.Hands.{call_on}

pub returns : goal.returns
returns c =
    subst (SoughtAt (call_on c.args.self.now c.args.hand.now c.source_value.new.hand) c.args.plan.now c.args.op c.args.j) (sym c.err.ensures.value)
    (sought_as c.args.self.now c.args.plan.now c.args.op c.args.j c.args.hand.now c.source_value.new.hand c.source_value.result c.source_value.ensures)
