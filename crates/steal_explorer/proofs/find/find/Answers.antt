use Rattle.steal_explorer.proofs.Holds.{pops}
use Rattle.steal_explorer.proofs.Owning.{popped_deque, popped_tickets, popped_finds, stole_deque, stole_tickets, stole_finds, stole_alone}
use Rattle.steal_explorer.proofs.find.find.Goals as goal

pub pop_as-requires-clause-fifo : goal.pop_as-requires-clause-fifo
pop_as-requires-clause-fifo c = λ _. pops _ _ c.requires.deque.part

pub returns-in-Some-clause-deque : goal.returns-in-Some-clause-deque
returns-in-Some-clause-deque c = popped_deque c.args.member.now c.pop_as.new.self c.in-Some.op c.pop_as.ensures.same.0 c.in-Some.ensures.rule.0 _ c.requires.deque

pub returns-in-Some-clause-tickets : goal.returns-in-Some-clause-tickets
returns-in-Some-clause-tickets c = popped_tickets c.args.member.now c.pop_as.new.self c.in-Some.op c.pop_as.ensures.same.0 c.in-Some.ensures.rule.0 _ c.requires.tickets

pub returns-in-Some-clause-finds : goal.returns-in-Some-clause-finds
returns-in-Some-clause-finds c = popped_finds c.args.member.now c.pop_as.new.self c.in-Some.op c.pop_as.ensures.same.0 c.in-Some.ensures.rule.0 _

pub returns-in-None-clause-deque : goal.returns-in-None-clause-deque
returns-in-None-clause-deque c =
    stole_deque c.args.member.now c.pop_as.new.self c.steal-found.new.tickets c.count-member.result c.steal-found.result c.pop_as.ensures.same.0 c.in-None.ensures.rule.0 _ c.requires.deque

pub returns-in-None-clause-tickets : goal.returns-in-None-clause-tickets
returns-in-None-clause-tickets c =
    stole_tickets c.args.member.now c.pop_as.new.self c.steal-found.new.tickets c.count-member.result c.steal-found.result c.pop_as.ensures.same.0 c.in-None.ensures.rule.0 _ c.requires.tickets c.steal-found.ensures.answer
    c.steal-found.ensures.under c.steal-found.ensures.above c.count-member.ensures

pub returns-in-None-clause-finds : goal.returns-in-None-clause-finds
returns-in-None-clause-finds c =
    stole_finds c.args.member.now c.pop_as.new.self c.steal-found.new.tickets c.count-member.result c.steal-found.result c.pop_as.ensures.same.0 c.in-None.ensures.rule.0 _ c.requires.tickets c.steal-found.ensures.answer c.in-None.ensures.rule.1

pub returns-in-Some-clause-alone : goal.returns-in-Some-clause-alone
returns-in-Some-clause-alone c = λ single. record { slots = c.pop_as.ensures.same.0.3; index = c.pop_as.ensures.same.1; found = c.in-Some.ensures.rule }

pub returns-in-None-clause-alone : goal.returns-in-None-clause-alone
returns-in-None-clause-alone c = λ single.
    stole_alone c.args.member.now c.pop_as.new.self c.steal-found.new.tickets c.count-member.result c.steal-found.result c.pop_as.ensures.same.0 c.in-None.ensures.rule.0 c.pop_as.ensures.same.1 c.in-None.ensures.rule.1
    (c.steal-found.ensures.answer.alone single)
