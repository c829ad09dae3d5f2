use Rattle.std.proofs.Common.{arith}
use Rattle.steal_explorer.proofs.Places.{at_itself, at_itself_set}
use Rattle.steal_explorer.proofs.Returning.{still_of, dropped, regained, of_deque, has_part}
use Rattle.steal_explorer.proofs.gather.move_ticket.Goals as goal

pub give-ticket-requires : goal.give-ticket-requires
give-ticket-requires c =
    let many = (still_of _ _ _ _ c.requires.regaining c.requires.inside _ (at_itself c.args.members.now c.args.j c.index-members-j.result c.requires.inside)).len in
    omega (arith, many)

pub regain-requires-clause-of : goal.regain-requires-clause-of
regain-requires-clause-of c =
    of_deque _ _ _ _ c.requires.regaining c.requires.inside c.requires.deque _ _ _ (at_itself c.args.members.now c.args.j c.index-members-j.result c.requires.inside) c.give-ticket.ensures.last c.give-ticket.ensures.same
    c.if-j-k.true _ (at_itself_set c.args.members.now c.args.j c.give-ticket.new.member c.args.k c.index-members-k.result c.requires.deque)

pub regain-requires-clause-part : goal.regain-requires-clause-part
regain-requires-clause-part c =
    has_part _ _ _ _ c.requires.regaining c.requires.inside c.requires.deque _ _ _ (at_itself c.args.members.now c.args.j c.index-members-j.result c.requires.inside) c.give-ticket.ensures.last c.give-ticket.ensures.same
    c.if-j-k.true _ (at_itself_set c.args.members.now c.args.j c.give-ticket.new.member c.args.k c.index-members-k.result c.requires.deque)

pub returns-then-j-k-clause-regaining : goal.returns-then-j-k-clause-regaining
returns-then-j-k-clause-regaining c =
    (regained _ _ _ _ c.requires.regaining c.requires.inside c.requires.deque _ _ _ (at_itself c.args.members.now c.args.j c.index-members-j.result c.requires.inside) c.give-ticket.ensures.last c.give-ticket.ensures.same
    c.if-j-k.true _ (at_itself_set c.args.members.now c.args.j c.give-ticket.new.member c.args.k c.index-members-k.result c.requires.deque) _ c.regain.ensures).0

pub returns-then-j-k-clause-totals : goal.returns-then-j-k-clause-totals
returns-then-j-k-clause-totals c =
    (regained _ _ _ _ c.requires.regaining c.requires.inside c.requires.deque _ _ _ (at_itself c.args.members.now c.args.j c.index-members-j.result c.requires.inside) c.give-ticket.ensures.last c.give-ticket.ensures.same
    c.if-j-k.true _ (at_itself_set c.args.members.now c.args.j c.give-ticket.new.member c.args.k c.index-members-k.result c.requires.deque) _ c.regain.ensures).1

pub returns-else-j-k-clause-regaining : goal.returns-else-j-k-clause-regaining
returns-else-j-k-clause-regaining c =
    (dropped _ _ _ _ c.requires.regaining c.requires.inside c.requires.deque _ _ _ (at_itself c.args.members.now c.args.j c.index-members-j.result c.requires.inside) c.give-ticket.ensures.last c.give-ticket.ensures.same
    c.if-j-k.false).0

pub returns-else-j-k-clause-totals : goal.returns-else-j-k-clause-totals
returns-else-j-k-clause-totals c =
    (dropped _ _ _ _ c.requires.regaining c.requires.inside c.requires.deque _ _ _ (at_itself c.args.members.now c.args.j c.index-members-j.result c.requires.inside) c.give-ticket.ensures.last c.give-ticket.ensures.same
    c.if-j-k.false).1
