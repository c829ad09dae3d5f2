use Rattle.std.specs.Prelude.{length}
use Rattle.op_eval.specs.Running.{hand_view}
use Rattle.abort_eager.specs.Grounds.{ground_rules}
use Rattle.abort_eager.specs.Targets.{targets, targets_left, IsCascade}
use Rattle.abort_eager.specs.Touching.{HasCause}
use Rattle.steal_explorer.specs.declared.member.Member.{Member}
use Rattle.steal_explorer.specs.Members.{CanServe}
use Rattle.steal_explorer.specs.Serving.{ServesOn, TouchesAll}
use Rattle.steal_explorer.proofs.cascade.run_cascade.Given as goal

abbrev pub invariant-loop-cascade : goal.invariant-loop-cascade
invariant-loop-cascade g l =
    CanServe l.ground l.member
    × IsCascade l.ground.plan.now l.cascade
    × HasCause l.cascade (hand_view l.member.runner)
    × ServesOn (ground_rules l.ground) l.fn.member l.member
    × ((u : Member) → TouchesAll (ground_rules l.ground) (targets_left l.ground.plan.now l.cascade) l.member u
    → TouchesAll (ground_rules l.ground) (targets l.ground.plan.now l.op l.failed) l.fn.member u)

abbrev pub decreases-loop-cascade : goal.decreases-loop-cascade
decreases-loop-cascade g l = length (targets_left l.ground.plan.now l.cascade)
