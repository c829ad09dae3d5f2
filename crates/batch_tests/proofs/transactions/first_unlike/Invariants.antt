use Rattle.std.specs.Prelude.{◌≡◌, None}
use Rattle.op_words.specs.Hands.{IsHandOf}
use Rattle.op_eval.specs.Running.{hand_view}
use Rattle.batch_tests.proofs.transactions.first_unlike.Given as goal

abbrev pub invariant-loop-i : goal.invariant-loop-i
invariant-loop-i l = IsHandOf l.board l.runner.hand × ((hand_view l.runner).claim ≡ None)
