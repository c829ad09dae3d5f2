use Rattle.std.specs.Prelude.{◌≡◌, None}
use Rattle.op_words.specs.Hands.{view_of, IsHandOf}
use Rattle.batch_tests.proofs.board.held.Given as goal

abbrev pub invariant-loop-op : goal.invariant-loop-op
invariant-loop-op l = IsHandOf l.board l.hand × ((view_of l.hand).claim ≡ None)
