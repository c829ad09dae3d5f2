use Rattle.op_words.specs.Hands.{IsHandOf}
use Rattle.batch_tests.proofs.runners.words_of.Given as goal

abbrev pub invariant-loop-op : goal.invariant-loop-op
invariant-loop-op l = IsHandOf l.board l.root
