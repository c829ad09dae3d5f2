use Rattle.op_words.specs.Comparing.{IsComparedUpTo}
use Rattle.op_words.proofs.board.Board.compare.Given as goal
use Rattle.op_words.specs.Hands.{call_on}

abbrev pub invariant-loop-j : goal.invariant-loop-j
invariant-loop-j l = IsComparedUpTo (call_on l.self l.initial.hand l.hand) l.plan l.op l.j
