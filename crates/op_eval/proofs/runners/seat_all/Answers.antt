use Rattle.std.proofs.Common.{arith, ap, length, [], ◌∷◌, ◌-◌, length-append}
use Rattle.op_eval.proofs.Seating.{seating_step, begun_step, seated, seated_front}
use Rattle.op_eval.proofs.runners.seat_all.Goals as goal

pub hands-preserved : goal.hands-preserved
hands-preserved c =
    let is = c.hands.invariant.0 in
    let are = c.hands.invariant.1 in
    let some = c.hands.auto.counter in
    let long = ap length c.in-Some.ensures.last in
    let parts = length-append c.pop.new.self.items (c.in-Some.kept ∷ []) in (
      seating_step _ _ _ _ _ _ c.split-hand.result _ _ c.in-Some.kept c.begin.result is c.split-hand.ensures.root c.split-hand.ensures.hand c.split-hand.ensures.parent c.split-hand.ensures.child
          c.begin.ensures c.add.ensures.items (omega (arith, some)),
      begun_step _ _ _ _ _ c.split-hand.result c.in-Some.kept c.begin.result are c.in-Some.ensures.last c.begin.ensures c.add.ensures.items,
      omega (arith, c.hands.invariant.2, long, parts),
      omega (arith, c.hands.invariant.3, c.in-Some.ensures.room),
      omega (arith, c.hands.invariant.4, c.add.ensures.room),
    )

pub returns-clause-new : goal.returns-clause-new
returns-clause-new c = λ events empty.
    seated _ _ _ (c.hands.counter - 1) events _ c.hands.runners.items _ _ _ _ c.in-Some-pop.kept (omega (arith, c.hands.auto.counter, c.hands.auto.counter-end, c.hands-test.false, c.len-end.ensures, c.requires.some)) c.hands.invariant.0 c.hands.invariant.1 c.in-Some-pop.ensures.last empty
    (seated_front _ _ _ _ c.begin-2.result _ c.add-2.ensures.items c.begin-2.ensures c.as_mut_slice.ensures.items c.rotate_right.ensures.len c.rotate_right.ensures.after)
