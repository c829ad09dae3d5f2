use Rattle.op_words.specs.Grounds.{IsSettledUpToPlace}
use Rattle.op_words.proofs.board.Board.open_source.Given as goal
use Rattle.op_words.specs.Hands.{call_on}

abbrev pub invariant-loop-k : goal.invariant-loop-k
invariant-loop-k l = IsSettledUpToPlace (call_on l.self l.initial.hand l.hand) l.plan l.op l.k
