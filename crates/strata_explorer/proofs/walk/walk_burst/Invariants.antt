use Rattle.std.specs.Prelude.{take}
use Rattle.op_eval.specs.Running.{IsFreeRunner}
use Rattle.abort_eager.specs.Grounds.{ground_rules}
use Rattle.strata_explorer.specs.Walks.{WalksNumbers}
use Rattle.strata_explorer.proofs.walk.walk_burst.Given as goal

abbrev pub invariant-loop-i : goal.invariant-loop-i
invariant-loop-i g l =
    IsFreeRunner l.ground.board.now l.runner
    × WalksNumbers (ground_rules l.ground) l.ops (take l.i l.burst.numbers) l.fn.runner l.runner
