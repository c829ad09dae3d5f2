use Rattle.std.proofs.Common.{◌≡◌}
use Rattle.op_words.specs.Hands.{view_of, IsHandOf}
use Rattle.op_words.proofs.board.Board.has_sources.Given as goal

abbrev pub invariant-loop-j : goal.invariant-loop-j
invariant-loop-j l = IsHandOf l.self l.hand × (view_of l.hand ≡ view_of l.initial.hand)
