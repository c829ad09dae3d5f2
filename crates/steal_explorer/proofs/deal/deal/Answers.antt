use Rattle.std.proofs.Common.{◌<◌, arith, ap, length, subst}
use Rattle.std.proofs.lemmas.Option.{slice_get_within}
use Rattle.steal_explorer.specs.Dealing.{HaveGot}
use Rattle.steal_explorer.proofs.Beginning.{level_one_is, level_one_few, level_one_none}
use Rattle.steal_explorer.proofs.Dealt.{have_none, take_fewer}
use Rattle.steal_explorer.proofs.deal.deal.Goals as goal

pub deal_all-requires-clause-take : goal.deal_all-requires-clause-take
deal_all-requires-clause-take c =
    let p = c.args.plan.now in
    let some : 0 < length p.op_levels.items = slice_get_within _ _ _ c.get.ensures.item in
    let is = level_one_is p c.requires.graph c.get.result.now some c.get.ensures.at c.as_slice.result.now c.as_slice.ensures in
    take_fewer _ _ _ (let e = ap length is in let few = level_one_few p in omega arith) c.requires.take

pub returns-then-not-is_empty : goal.returns-then-not-is_empty
returns-then-not-is_empty c =
    let p = c.args.plan.now in
    let some : 0 < length p.op_levels.items = slice_get_within _ _ _ c.get.ensures.item in
    subst (λ l. HaveGot l c.args.seats.now c.deal_all.new.seats) (level_one_is p c.requires.graph c.get.result.now some c.get.ensures.at c.as_slice.result.now c.as_slice.ensures) c.deal_all.ensures

pub returns-else-not-is_empty : goal.returns-else-not-is_empty
returns-else-not-is_empty c = have_none _ _ (level_one_none _ c.requires.graph (c.is_empty.ensures.0 c.if-not-is_empty.false))
