use Rattle.abort_lazy.proofs.Ending.{txn_unready, txn_undecided, txn_unsettled, txn_settled, says_so, decided_by}
use Rattle.abort_lazy.proofs.transaction.settle_with.Goals as goal

pub returns-in-Some-clause-answer : goal.returns-in-Some-clause-answer
returns-in-Some-clause-answer c = txn_unready c.in-Some.ensures.ready

pub decide-requires : goal.decide-requires
decide-requires c =
    let ready = c.in_default.ensures.ready in
    record { may = (c.in_default.ensures.hand, c.requires.may.1, c.requires.may.2, ready.goes.free); grounds = says_so c.args.plan.now c.args.event _ ready.words c.prepare_all.new.grounds c.prepare_all.new.grounds.say ready.tells.says }

pub returns-in-Err-clause-answer : goal.returns-in-Err-clause-answer
returns-in-Err-clause-answer c = txn_undecided c.in_default.ensures.ready c.in-Err.ensures.decided

pub settle_rest-requires-clause-may : goal.settle_rest-requires-clause-may
settle_rest-requires-clause-may c = let decided = c.in-Ok.ensures.decided in (c.in-Ok.ensures.hand, c.requires.may.1, c.requires.may.2, decided.goes.free)

pub settle_rest-requires-clause-decided : goal.settle_rest-requires-clause-decided
settle_rest-requires-clause-decided c = decided_by c.in_default.ensures.ready c.in-Ok.ensures.decided c.in-Ok.ensures.commits

pub returns-in-Some-settle_rest-clause-answer : goal.returns-in-Some-settle_rest-clause-answer
returns-in-Some-settle_rest-clause-answer c = txn_unsettled c.in_default.ensures.ready c.in-Ok.ensures.decided c.in-Some-settle_rest.ensures.settled

pub returns-in-None-clause-answer : goal.returns-in-None-clause-answer
returns-in-None-clause-answer c = txn_settled c.in_default.ensures.ready c.in-Ok.ensures.decided c.requires.may.0.told.noted c.in-None.ensures.settled
