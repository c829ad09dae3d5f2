use Rattle.std.proofs.Common.{◌%◌, ap, refl}
use Rattle.steal_explorer.proofs.Dealt.{can_take, have_more}
use Rattle.steal_explorer.proofs.deal.deal_all.Goals as goal

pub give-requires : goal.give-requires
give-requires c =
    can_take c.args.ops.now _ _ c.loop-i.i _ c.loop-i.invariant c.loop-i-test.true c.requires.some (ap (λ n. c.loop-i.i % n) c.loop-i.auto.seats) c.requires.take c.index-seats-i.result

pub loop-i-preserved : goal.loop-i-preserved
loop-i-preserved c =
    have_more c.args.ops.now _ _ c.loop-i.i _ c.loop-i.invariant c.loop-i-test.true c.requires.some (ap (λ n. c.loop-i.i % n) c.loop-i.auto.seats) c.index-seats-i.result _ _ 0 refl c.give.ensures
