use Rattle.std.specs.Prelude.{◌-◌, length}
use Rattle.strata_explorer.specs.Passes.{IsWorking}
use Rattle.op_eval.specs.Running.{IsFreeRunner}
use Rattle.abort_eager.specs.Grounds.{ground_rules}
use Rattle.strata_explorer.specs.Walks.{WalksAll}
use Rattle.strata_explorer.proofs.walk.work.Given as goal

abbrev pub invariant-loop-turn : goal.invariant-loop-turn
invariant-loop-turn g l =
    IsFreeRunner l.ground.board.now l.runner
    × IsWorking (ground_rules l.ground) l.counter l.ops l.turn l.fn.runner l.runner
    × WalksAll (ground_rules l.ground) l.counter l.ops l.fn.runner l.runner

abbrev pub decreases-loop-turn : goal.decreases-loop-turn
decreases-loop-turn g l = length l.ops - l.turn
