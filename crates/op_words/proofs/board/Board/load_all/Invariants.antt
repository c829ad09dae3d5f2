use Rattle.op_words.specs.Values.{IsLoadedUpTo}
use Rattle.op_words.specs.Hands.{call_on}
use Rattle.op_words.proofs.board.Board.load_all.Given as goal

abbrev pub invariant-loop-j : goal.invariant-loop-j
invariant-loop-j l = IsLoadedUpTo (call_on l.self l.initial.hand l.hand) l.plan l.op l.needed l.initial.found.attempt l.j l.found
