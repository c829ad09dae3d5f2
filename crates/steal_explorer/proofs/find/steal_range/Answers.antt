use Rattle.steal_explorer.proofs.Stealing.{retried_is, seat_of, stolen_one, none_here, retry_here}
use Rattle.steal_explorer.proofs.find.steal_range.Goals.{in-Nothing, in-Retry}
use Rattle.steal_explorer.proofs.find.steal_range.Goals as goal

pub steal_at-requires : goal.steal_at-requires
steal_at-requires c = record { sits = seat_of _ _ _ _ _ c.loop-k.invariant.seated c.loop-k.invariant.above c.loop-k-test.true _ _ c.index-thieves-k.is c.get_mut.ensures.item }

pub returns-in-Item-clause-seated : goal.returns-in-Item-clause-seated
returns-in-Item-clause-seated c =
    (stolen_one _ _ _ _ _ _ _ c.loop-k.invariant c.loop-k-test.true c.requires.inside c.requires.len _ _ _ c.index-thieves-k.is c.get_mut.ensures.item c.steal_at.ensures.sits c.in-Item.op c.in-Item.ensures.answer).0

pub returns-in-Item-clause-answer : goal.returns-in-Item-clause-answer
returns-in-Item-clause-answer c =
    (stolen_one _ _ _ _ _ _ _ c.loop-k.invariant c.loop-k-test.true c.requires.inside c.requires.len _ _ _ c.index-thieves-k.is c.get_mut.ensures.item c.steal_at.ensures.sits c.in-Item.op c.in-Item.ensures.answer).1

pub loop-k-preserved : goal.loop-k-preserved
loop-k-preserved c = elim c.match-steal_at.branch [
  | in-Nothing w ↦
      retried_is _ _ _ _ _ _ _ _ w.retried-is
      (none_here _ _ _ _ _ _ _ c.loop-k.invariant c.loop-k-test.true c.requires.inside c.requires.len _ _ _ c.index-thieves-k.is c.get_mut.ensures.item c.steal_at.ensures.sits w.in-Nothing.ensures.answer)
  | in-Retry w ↦
      retried_is _ _ _ _ _ _ _ _ w.retried-is
      (retry_here _ _ _ _ _ _ _ c.loop-k.invariant c.loop-k-test.true c.requires.inside c.requires.len _ _ _ c.index-thieves-k.is c.get_mut.ensures.item c.steal_at.ensures.sits w.in-Retry.ensures.answer)
]
