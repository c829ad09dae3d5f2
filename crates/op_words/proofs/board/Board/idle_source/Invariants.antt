use Rattle.op_words.specs.Stepping.{IsSoughtUpTo}
use Rattle.op_words.proofs.board.Board.idle_source.Given as goal
use Rattle.op_words.specs.Hands.{call_on}

abbrev pub invariant-loop-j : goal.invariant-loop-j
invariant-loop-j l = IsSoughtUpTo (call_on l.self l.initial.hand l.hand) l.plan l.op l.j
