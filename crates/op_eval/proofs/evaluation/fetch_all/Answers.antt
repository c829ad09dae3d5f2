use Rattle.op_eval.proofs.Holding.{fetched_none, fetched_more, fetched_all, fetched_stops}
use Rattle.op_eval.proofs.evaluation.fetch_all.Goals as goal

pub loop-j-init : goal.loop-j-init
loop-j-init c = (c.requires.may.0, λ a holds. fetched_none _ _ _ _ c.requires.may.0.told.agree holds)

pub fetch-requires-clause-held : goal.fetch-requires-clause-held
fetch-requires-clause-held c = let held = c.requires.held in let up = c.loop-j.invariant.1 held.0 held.1 in (held.0, up.values, up.holds, up.count)

pub returns-in-Unready-clause-answer : goal.returns-in-Unready-clause-answer
returns-in-Unready-clause-answer c = λ a holds. fetched_stops _ _ _ a _ _ _ (c.loop-j.invariant.1 a holds) c.in-Unready.ensures.answer

pub loop-j-preserved : goal.loop-j-preserved
loop-j-preserved c = (c.in-Value.ensures.hand, λ a holds. fetched_more _ _ _ a _ (c.loop-j.invariant.1 a holds) c.in-Value.ensures.answer)

pub returns-clause-answer : goal.returns-clause-answer
returns-clause-answer c = λ a holds. fetched_all _ _ a _ _ c.loop-j-test.false c.loop-j.auto.j-end c.places_of-j-end.ensures.places (c.loop-j.invariant.1 a holds)
