use Rattle.std.proofs.Common.{◌≡◌, ◌+◌, ◌-◌, ℕ, arith, subst, length}
use Rattle.steal_explorer.specs.Gathering.{AreHolding}
use Rattle.steal_explorer.proofs.gather.gather.Goals as goal

pub regain_all-requires-clause-holding : goal.regain_all-requires-clause-holding
regain_all-requires-clause-holding c =
    let count : ℕ = length c.args.members.now in
    let given : ℕ = c.loop-given.given in
    let lower : count - given ≡ count - 1 - given + 1 = omega (arith, c.loop-given-test.true) in
    subst (λ n. AreHolding c.args.thieves.now n c.loop-given.members) lower c.loop-given.invariant.0
