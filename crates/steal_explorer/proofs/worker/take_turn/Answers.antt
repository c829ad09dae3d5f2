use Rattle.abort_eager.specs.Grounds.{ground_rules}
use Rattle.steal_explorer.specs.declared.find.Found.TheVariants.{Item}
use Rattle.steal_explorer.proofs.Lonely.{took_item, took_nothing}
use Rattle.steal_explorer.proofs.Turning.{after_tickets}
use Rattle.steal_explorer.proofs.worker.take_turn.Goals as goal

pub returns-in-Item-clause-tickets : goal.returns-in-Item-clause-tickets
returns-in-Item-clause-tickets g c = after_tickets _ _ (Item c.in-Item.op) _ _ c.find.ensures.tickets c.serve_known.ensures.after

pub returns-in-Item-clause-alone : goal.returns-in-Item-clause-alone
returns-in-Item-clause-alone g c = λ lazy some single is.
    took_item (ground_rules c.args.ground.now) c.requires.ground.valid _ c.args.member.now c.find.new.member single c.requires.tickets is lazy c.in-Item.op c.serve_known.new.member (c.in-Item.ensures.alone single) c.in-Item.ensures.finds
    (c.serve_known.ensures.alone lazy some) c.serve_known.ensures.after

pub returns-in-Nothing-clause-alone : goal.returns-in-Nothing-clause-alone
returns-in-Nothing-clause-alone g c = λ lazy some single is.
    took_nothing (ground_rules c.args.ground.now) c.requires.ground.valid _ c.args.member.now c.find.new.member single c.requires.tickets is (c.in-Nothing.ensures.alone single) c.in-Nothing.ensures.finds

pub returns-in-Retry-clause-alone : goal.returns-in-Retry-clause-alone
returns-in-Retry-clause-alone g c = λ lazy some single is. absurd (c.in-Retry.ensures.alone single).found
