use Rattle.op_eval.proofs.Holding.{claim_busy, finished, stopped}
use Rattle.op_eval.proofs.evaluation.hold.Goals as goal

pub returns-in-Not-clause-answer : goal.returns-in-Not-clause-answer
returns-in-Not-clause-answer c = λ start xs w far is. claim_busy _ _ _ far is c.in-Not.ensures.answer

pub fetch_all-requires-clause-held : goal.fetch_all-requires-clause-held
fetch_all-requires-clause-held c = let claim = c.in-Held.ensures.answer in (c.in-Held.attempt, claim.tells.holds)

pub finish-outcome-requires-clause-held : goal.finish-outcome-requires-clause-held
finish-outcome-requires-clause-held c =
    let claim = c.in-Held.ensures.answer in
    let fetched = c.in-None.ensures.answer c.in-Held.attempt claim.tells.holds in
    (c.in-Held.attempt, fetched.values, fetched.holds, fetched.count)

pub returns-in-None-clause-answer : goal.returns-in-None-clause-answer
returns-in-None-clause-answer c = let claim = c.in-Held.ensures.answer in
    λ start xs w far is. finished _ _ _ far claim (c.in-None.ensures.answer c.in-Held.attempt claim.tells.holds) c.finish-outcome.ensures.answer

pub give_back-requires-clause-held : goal.give_back-requires-clause-held
give_back-requires-clause-held c =
    let claim = c.in-Held.ensures.answer in
    let stop = c.in-Some.ensures.answer c.in-Held.attempt claim.tells.holds in
    (c.in-Held.attempt, stop.values, stop.holds)

pub returns-in-Some-clause-answer : goal.returns-in-Some-clause-answer
returns-in-Some-clause-answer c = let claim = c.in-Held.ensures.answer in
    λ start xs w far is. stopped _ _ _ far claim (c.in-Some.ensures.answer c.in-Held.attempt claim.tells.holds) c.give_back.ensures.view
