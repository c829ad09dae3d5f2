use Rattle.op_words.proofs.Handing.{kept, holds_kept}
use Rattle.op_words.proofs.Making.{gave_back}
use Rattle.op_words.proofs.board.Board.give_back.Goals as goal

pub returns-clause-view : goal.returns-clause-view
returns-clause-view c = gave_back _ _ _ _ _ _ _ c.requires.held.1 (holds_kept c.args.hand.now c.in-Some.holding.now c.args.op c.requires.held.0 c.requires.held.1 (kept c.requires.may.0) c.in-Some.ensures c.requires.held.2) c.give.ensures
