use Rattle.std.specs.Prelude.{◌-◌}
use Rattle.op_words.specs.Hands.{IsHandOf}
use Rattle.op_eval.specs.Running.{hand_view}
use Rattle.abort_lazy.specs.Transactions.{IsAnswered}
use Rattle.abort_lazy.specs.Progress.{IsReadyUpTo}
use Rattle.abort_lazy.proofs.transaction.prepare.prepare_all.Given as goal

abbrev pub invariant-loop-op : goal.invariant-loop-op
invariant-loop-op l =
    IsHandOf l.board l.runner.hand
    × IsReadyUpTo l.plan l.event l.first l.op (hand_view l.fn.runner) (hand_view l.runner) l.grounds
    × IsAnswered (l.op - l.first) l.fn.runner l.runner
