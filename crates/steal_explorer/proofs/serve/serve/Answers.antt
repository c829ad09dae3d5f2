use Rattle.std.specs.Prelude.{◌≡◌, ◌≤◌, []}
use Rattle.morph_base.specs.declared.strategy.Abort.TheVariants.{Lazy}
use Rattle.abort_eager.specs.Grounds.{ground_rules}
use Rattle.abort_eager.proofs.UnitWalks.{by_walk}
use Rattle.steal_explorer.specs.Alone.{IsHandingAlone, ServesAlone}
use Rattle.steal_explorer.specs.Serving.{Serves}
use Rattle.steal_explorer.proofs.Going.{serves_then}
use Rattle.steal_explorer.proofs.Queueing.{serves_more}
use Rattle.steal_explorer.proofs.serve.serve.Goals as goal

pub returns : goal.returns
returns g c =
    let rules = ground_rules c.args.ground.now in
    let op = c.args.op in
    let a = c.args.member.now in
    let all =
    by_walk _ _ op a _
    (λ m. Serves rules op a m × (rules.abort ≡ Lazy → 1 ≤ rules.cap → IsHandingAlone rules.plan [] a → ServesAlone rules.plan op a m))
    (λ m r visited. (visited.0, visited.2))
    (λ q m n r served visited. (
      serves_then rules _ _ _ _ _ served.0 visited.0.goes visited.1,
      λ lazy some is.
          let before = served.1 lazy some is in
          serves_more rules c.requires.may.0.valid lazy _ _ _ _ before visited.0.goes (visited.2 lazy some before.handing).handing,
    )) c.walk_unit.ensures.walks in
    record { can = c.walk_unit.ensures.can.1; serves = all.0; alone = all.1 }
