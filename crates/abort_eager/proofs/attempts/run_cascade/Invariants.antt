use Rattle.std.specs.Prelude.{length}
use Rattle.op_words.specs.Hands.{cap_of}
use Rattle.op_eval.specs.declared.runner.Runner.{Runner}
use Rattle.op_eval.specs.Running.{hand_view, IsFreeRunner}
use Rattle.abort_eager.specs.Sweeps.{SweepsAll}
use Rattle.abort_eager.specs.Targets.{targets, targets_left, IsCascade}
use Rattle.abort_eager.specs.Touching.{HasCause}
use Rattle.abort_eager.proofs.attempts.run_cascade.Given as goal

abbrev pub invariant-loop-touched : goal.invariant-loop-touched
invariant-loop-touched g l =
    IsFreeRunner l.ground.board.now l.runner
    × IsCascade l.ground.plan.now l.cascade
    × HasCause l.cascade (hand_view l.runner)
    × ((u : Runner) → SweepsAll l.ground.plan.now (cap_of l.ground.board.now) g.N.Notes.leaves (targets_left l.ground.plan.now l.cascade) l.runner u
    → SweepsAll l.ground.plan.now (cap_of l.ground.board.now) g.N.Notes.leaves (targets l.ground.plan.now l.op l.failed) l.fn.runner u)

abbrev pub decreases-loop-touched : goal.decreases-loop-touched
decreases-loop-touched g l = length (targets_left l.ground.plan.now l.cascade)
