use Rattle.std.proofs.Common.{refl, sym, subst}
use Rattle.abort_eager.specs.Grounds.{ground_rules}
use Rattle.abort_eager.proofs.Touching.{next_in_range}
use Rattle.steal_explorer.specs.Serving.{ServesOn}
use Rattle.steal_explorer.proofs.Cascading.{cause_kept, goes_touched, touches_next, left_as}
use Rattle.steal_explorer.proofs.Going.{goes_none, goes_then}
use Rattle.steal_explorer.proofs.cascade.touch_next.Goals as goal

pub ask_rolled-requires : goal.ask_rolled-requires
ask_rolled-requires g c =
    let old = c.requires.can.1 in
    record {
      may = (
        c.requires.ground,
        next_in_range _ _ c.args.cascade.now c.next.new.self _ _ c.in-Some.touched c.in-Some.ensures.answer,
        (record { hand = c.next.ensures.hand; free = c.next.ensures.free }, record { fifo = old.fifo; part = old.part; below = old.below; handed = old.handed }),
      );
    }

pub returns-in-Some-clause-cause : goal.returns-in-Some-clause-cause
returns-in-Some-clause-cause g c = cause_kept _ c.next.new.self _ c.ask_rolled.new.member c.ask_rolled.ensures.goes c.in-Some.ensures.cause

pub returns-in-Some-clause-goes : goal.returns-in-Some-clause-goes
returns-in-Some-clause-goes g c =
    goes_then _ _ _ _ (goes_touched (ground_rules c.args.ground.now) c.args.cascade.now c.next.new.self c.args.member.now c.next.new.hand c.in-Some.touched c.in-Some.ensures.answer c.requires.eager) c.ask_rolled.ensures.goes

pub returns-in-Some-clause-touches : goal.returns-in-Some-clause-touches
returns-in-Some-clause-touches g c =
    touches_next (ground_rules c.args.ground.now) c.args.cascade.now c.next.new.self c.args.member.now c.next.new.hand c.in-Some.touched c.in-Some.ensures.answer c.ask_rolled.new.member c.ask_rolled.ensures.asked c.ask_rolled.ensures.other

pub returns-in-None-clause-goes : goal.returns-in-None-clause-goes
returns-in-None-clause-goes g c =
    subst (ServesOn (ground_rules c.args.ground.now) c.args.member.now) (sym (left_as c.args.member.now c.next.new.hand (c.in-None.ensures.still refl))) (goes_none _ _)
