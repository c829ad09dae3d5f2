use Rattle.op_words.proofs.board.Board.decision.Goals as goal

pub unreachable-requires : goal.unreachable-requires
unreachable-requires c = c.in_default.not-Some c.requires.decided.0 (c.learn.ensures.tells.known c.requires.decided.0 c.requires.decided.1)
