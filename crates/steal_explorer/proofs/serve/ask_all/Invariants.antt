use Rattle.std.specs.Prelude.{drop}
use Rattle.abort_eager.specs.Grounds.{ground_rules}
use Rattle.steal_explorer.specs.Alone.{IsHandingAlone}
use Rattle.steal_explorer.specs.Serving.{readers}
use Rattle.steal_explorer.specs.Members.{CanServe}
use Rattle.steal_explorer.specs.declared.member.Member.{Member}
use Rattle.steal_explorer.specs.Serving.{ServesOn, AsksAll}
use Rattle.steal_explorer.proofs.serve.ask_all.Given as goal

abbrev pub invariant-loop-i : goal.invariant-loop-i
invariant-loop-i g l =
    CanServe l.ground l.member
    × ServesOn (ground_rules l.ground) l.fn.member l.member
    × ((z : Member) → AsksAll (ground_rules l.ground) (drop l.i l.dependents) l.member z
    → AsksAll (ground_rules l.ground) (readers l.ground.plan.now l.op) l.fn.member z)
    × (IsHandingAlone l.ground.plan.now (readers l.ground.plan.now l.op) l.fn.member → IsHandingAlone l.ground.plan.now (drop l.i l.dependents) l.member)
