use Rattle.std.proofs.Common.{◌+◌, ◌-◌, arith, sym, subst}
use Rattle.op_eval.specs.Gathering.{runners_of}
use Rattle.steal_explorer.proofs.Sitting.{IsSeating, seating_more, seated_all}
use Rattle.steal_explorer.proofs.seats.seat_all.Goals as goal

pub seats-preserved : goal.seats-preserved
seats-preserved c =
    let is = c.seats.invariant in (
      subst (IsSeating (runners_of c.args.runners.now) c.args.seats.now.items c.len-count.result (c.seats.seated + 1) (runners_of c.pop.new.self) c.pop-in-seats.new.self.items) (sym c.add.ensures.items)
          (seating_more _ _ _ _ _ _ _ is.0 _ _ c.in-Some.ensures.last _ _ c.in-Some-pop.ensures.last (c.len-count.result - 1 - c.seats.seated) (omega (arith, c.seats-test.true)) _ c.begin.ensures),
      omega (arith, is.1, c.in-Some.ensures.spare),
      λ has. c.in-Some.ensures.places (is.2 has),
      omega (arith, is.3, c.add.ensures.room),
      omega (arith, c.seats-test.true),
    )

pub returns-clause-seated : goal.returns-clause-seated
returns-clause-seated c =
    let is = c.seats.invariant in
    (seated_all _ _ _ _ _ _ _ _ is.0 (omega (arith, c.seats-test.false, is.4)) c.turn_round.ensures.items).0
