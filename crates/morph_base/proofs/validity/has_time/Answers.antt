use Rattle.std.proofs.Common.{◌≡◌, ◌<◌, length, map, take, get_or, sym, ◌∙◌, ap, arith, nat_eq}
use Rattle.std.specs.Cmp.{nat_eq_equiv}
use Rattle.std.proofs.lemmas.List.{length-map, length-take-le, get_or-map, get_or-take}
use Rattle.std.proofs.lemmas.List.Folds.{list_any_at}
use Rattle.morph_base.specs.Transactions.{time, no_transaction, transactions_of}
use Rattle.morph_base.proofs.validity.has_time.Goals as goal

pub returns-then-event-ts : goal.returns-then-event-ts
returns-then-event-ts c =
    let es = transactions_of c.args.batch.now in
    let first = take c.args.count es in
    let inside : c.events.i < length first = omega (arith, c.events-test.true, c.requires, length-take-le c.args.count es c.requires) in
    let here : get_or (map time first) c.events.i 0 ≡ c.args.ts
    = get_or-map time first c.events.i no_transaction 0 inside ∙ ap time (get_or-take c.args.count es c.events.i no_transaction c.events-test.true ∙ sym c.event.ensures) ∙ c.if-event-ts.true in
    sym
    (list_any_at (nat_eq c.args.ts) (map time first) c.events.i 0 (omega (arith, inside, length-map first time))
    (ap (nat_eq c.args.ts) here ∙ nat_eq_equiv.refl c.args.ts))
