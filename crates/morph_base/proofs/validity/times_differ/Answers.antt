use Rattle.std.proofs.Common.{◌≡◌, ◌<◌, true, false, length, take, map, get_or, sym, ap, ◌∙◌, nat_eq, arith}
use Rattle.std.specs.List.{list_any}
use Rattle.std.specs.Cmp.{nat_eq_equiv}
use Rattle.std.proofs.lemmas.Bool.{false≢true}
use Rattle.morph_base.specs.Transactions.{time, no_transaction, transactions_of}
use Rattle.morph_base.proofs.ValidLemmas.{distinct_none, distinct_more, distinct_not}
use Rattle.morph_base.proofs.validity.times_differ.Goals as goal

pub events-init : goal.events-init
events-init c = distinct_none nat_eq

pub returns-then-has_time : goal.returns-then-has_time
returns-then-has_time c =
    let es = transactions_of c.args.batch.now in
    let i = c.events.i in
    let inside : i < length es = omega (arith, c.events-test.true, c.len-i-end.ensures) in
    let found : list_any (nat_eq (time (get_or es i no_transaction))) (map time (take i es)) ≡ true
    = ap (λ e. list_any (nat_eq (time e)) (map time (take i es))) (sym c.event.ensures) ∙ sym c.if-has_time.ensures in
    ((λ yes. absurd (false≢true yes)), λ apart. absurd (distinct_not nat_eq nat_eq_equiv time es i no_transaction inside found apart))

pub events-preserved : goal.events-preserved
events-preserved c =
    let es = transactions_of c.args.batch.now in
    let i = c.events.i in
    let inside : i < length es = omega (arith, c.events-test.true, c.len-i-end.ensures) in
    let new : list_any (nat_eq (time (get_or es i no_transaction))) (map time (take i es)) ≡ false
    = ap (λ e. list_any (nat_eq (time e)) (map time (take i es))) (sym c.event.ensures) ∙ sym c.if-has_time.ensures in
    distinct_more nat_eq nat_eq_equiv time es i no_transaction inside c.events.invariant new
