use Rattle.std.specs.Prelude.{◌≡◌, None}
use Rattle.op_words.specs.Hands.{IsHandOf}
use Rattle.op_eval.specs.Running.{hand_view}
use Rattle.batch_tests.proofs.stale.explore.Given as goal

abbrev pub invariant-loop-op : goal.invariant-loop-op
invariant-loop-op l = IsHandOf l.board l.runner.hand × ((hand_view l.runner).claim ≡ None)
