use Rattle.std.proofs.Common.{arith, ap, ◌++◌, ◌∷◌, [], length, sym, subst}
use Rattle.std.proofs.lemmas.List.{length_push}
use Rattle.steal_explorer.specs.Dealing.{AreOpened}
use Rattle.steal_explorer.proofs.Dealt.{opened_more}
use Rattle.steal_explorer.proofs.deal.open_all.Goals as goal

pub deques-preserved : goal.deques-preserved
deques-preserved c =
    let is = c.deques.invariant in
    let many = length_push c.deques.seats.items c.in_ok-seat.seat in
    let items = ap length c.add.ensures.items in (
      subst (AreOpened c.args.capacity c.args.count c.add-in-deques.new.self.items) (sym c.add.ensures.items)
          (subst (λ ts. AreOpened c.args.capacity c.args.count ts (c.deques.seats.items ++ c.in_ok-seat.seat ∷ [])) (sym c.add-in-deques.ensures.items)
          (opened_more _ _ _ _ _ _ is.0 c.in_ok-seat.ensures)),
      omega (arith, is.1, many, items),
      omega (arith, is.2, c.add.ensures.room),
      omega (arith, is.3, c.add-in-deques.ensures.room),
    )
