use Rattle.op_eval.specs.Running.{IsFreeRunner}
use Rattle.abort_eager.specs.Sweeps.{IsLike}
use Rattle.strata_explorer.proofs.look_ahead.preload.Given as goal

abbrev pub invariant-loop-op : goal.invariant-loop-op
invariant-loop-op l = IsFreeRunner l.ground.board.now l.runner × IsLike l.initial.runner l.runner
