use Rattle.op_words.specs.Hands.{view_of, IsHandOf}
use Rattle.abort_lazy.specs.Progress.{IsSettledUpTo}
use Rattle.abort_lazy.proofs.transaction.settle.settle_rest.Given as goal

abbrev pub invariant-loop-op : goal.invariant-loop-op
invariant-loop-op l = IsHandOf l.board l.hand × IsSettledUpTo l.plan l.event l.grounds l.first l.op (view_of l.fn.hand) (view_of l.hand)
