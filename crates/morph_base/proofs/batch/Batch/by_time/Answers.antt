use Rattle.std.proofs.Common.{rules, subst, ◌≡◌, map, List, ◌∙◌, nat_eq, arith}
use Rattle.std.specs.List.{IsDistinct}
use Rattle.std.specs.List.Sorted.{IsPermutation, IsNonDecreasingBy}
use Rattle.std.proofs.lemmas.List.{take_all}
use Rattle.std.proofs.lemmas.List.Sorted.{IsPermutation-map, IsNonDecreasingBy-from_sort_by_key}
use Rattle.morph_base.specs.declared.event.Event.{Event}
use Rattle.morph_base.specs.Transactions.{Transaction, transaction_of, transactions_of, by_time, time}
use Rattle.morph_base.proofs.Rising.{IsNonDecreasingBy-map}
use Rattle.morph_base.proofs.TimeLaws.{by_time-is}
use Rattle.morph_base.proofs.batch.Batch.by_time.Goals as goal

sorted_events : (es : List Transaction) (collected sorted : List Event) → map transaction_of collected ≡ es → IsDistinct nat_eq (map time es)
    → IsPermutation collected sorted → IsNonDecreasingBy (λ (e : Event). e.ts) sorted → map transaction_of sorted ≡ by_time es
sorted_events es collected sorted same apart permutes up =
    by_time-is es (map transaction_of sorted) apart
    (subst (λ l. IsPermutation l (map transaction_of sorted)) same (IsPermutation-map transaction_of collected sorted permutes))
    (IsNonDecreasingBy-map time transaction_of sorted up)

pub returns : goal.returns
returns c =
    let es = transactions_of c.args.self.now in
    let collected : map transaction_of c.arrived.events.items ≡ es
    = c.arrived.invariant ∙ take_all c.arrived.i es (omega (arith, c.arrived-test.false, c.len-i-end.ensures)) in
    let rises : IsNonDecreasingBy (λ (e : Event). e.ts) c.sort_by_key.new.self.items
    = IsNonDecreasingBy-from_sort_by_key (λ (e : Event). e.ts) _ c.in_ok-sort_by_key.ensures.sorted (λ a r q k. search rules) in
    sorted_events es c.arrived.events.items c.sort_by_key.new.self.items collected c.requires.times c.sort_by_key.ensures.permutation rises
