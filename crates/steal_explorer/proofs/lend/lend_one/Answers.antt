use Rattle.steal_explorer.proofs.Holds.{admits}
use Rattle.steal_explorer.proofs.Lent.{lent_own, lent_one}
use Rattle.steal_explorer.proofs.Places.{at_itself, at_itself_set}
use Rattle.steal_explorer.proofs.lend.lend_one.Goals as goal

pub pass-requires : goal.pass-requires
pass-requires c = admits

pub returns-then-j-k-clause-lending : goal.returns-then-j-k-clause-lending
returns-then-j-k-clause-lending c =
    lent_own _ _ _ _ c.requires.lending c.requires.inside c.requires.deque c.if-j-k.true c.pass.result c.pass.ensures.1 _ _
    (at_itself c.args.seats.now c.args.j c.index-seats-j.result c.requires.inside) c.keep.ensures

pub returns-else-j-k-clause-lending : goal.returns-else-j-k-clause-lending
returns-else-j-k-clause-lending c =
    lent_one _ _ _ _ c.requires.lending c.requires.inside c.requires.deque c.if-j-k.false c.give-ticket.result _ _
    (at_itself c.args.seats.now c.args.k c.index-seats-k.result c.requires.deque) c.give-ticket.ensures _
    (at_itself_set c.args.seats.now c.args.k c.give-ticket.new.seat c.args.j c.index-seats-j-else-j-k.result c.requires.inside) _ c.keep-else-j-k.ensures
