use Rattle.std.proofs.Common.{subst, ◌∙◌}
use Rattle.steal_explorer.specs.Lending.{AreLent}
use Rattle.steal_explorer.proofs.Prepared.{can_take_all, none_lent, seat_is, lie_in}
use Rattle.steal_explorer.proofs.deques.prepare.Goals as goal

pub deal-requires-clause-take : goal.deal-requires-clause-take
deal-requires-clause-take c = can_take_all _ _ _ _ c.requires.opened

pub lend_all-requires : goal.lend_all-requires
lend_all-requires c = record { lent = none_lent c.args.plan.now _ _ _ c.requires.few c.requires.opened c.deal.ensures }

pub returns-clause-seats : goal.returns-clause-seats
returns-clause-seats c =
    let all = subst (λ n. AreLent c.args.thieves.now n c.lend_all.new.seats) (c.deal.ensures.len ∙ c.requires.opened.len) c.lend_all.ensures.lent in
    seat_is c.args.plan.now _ _ _ c.requires.few c.requires.opened c.deal.ensures _ all c.lend_all.ensures.kept

pub returns-clause-dealt : goal.returns-clause-dealt
returns-clause-dealt c =
    let all = subst (λ n. AreLent c.args.thieves.now n c.lend_all.new.seats) (c.deal.ensures.len ∙ c.requires.opened.len) c.lend_all.ensures.lent in
    lie_in c.args.plan.now _ _ _ c.requires.few c.requires.opened c.deal.ensures _ all c.lend_all.ensures.kept
