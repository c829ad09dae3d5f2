use Rattle.std.proofs.Common.{◌≡◌, List, sym, ap, ◌∙◌}
use Rattle.std.specs.List.{flat_map}
use Rattle.morph_base.specs.declared.event.Event.{Event}
use Rattle.morph_base.specs.declared.operation.Op.{Op}
use Rattle.morph_base.specs.Transactions.{high_of_all, transactions_of, by_time}
use Rattle.morph_base.proofs.RunLaws.{ops_along}
use Rattle.txn_splitter.proofs.OrderLemmas.{order_alike}
use Rattle.txn_splitter.proofs.ViewLemmas.{of_events, split_as, all_as}
use Rattle.txn_splitter.proofs.splitter.split.Goals as goal

pub returns-then-is_rising-clause-of : goal.returns-then-is_rising-clause-of
returns-then-is_rising-clause-of c =
    let rows = c.into_ops.ensures ∙ c.is_rising.ensures.ops c.if-is_rising.true ∙ ap ops_along (sym (c.is_rising.ensures.order c.if-is_rising.true)) in
    split_as (by_time (transactions_of c.args.batch)) _ _ _ c.in_ok-events.ensures rows c.of.ensures

pub returns-then-is_rising-clause-valid : goal.returns-then-is_rising-clause-valid
returns-then-is_rising-clause-valid c =
    let rows = c.into_ops.ensures ∙ c.is_rising.ensures.ops c.if-is_rising.true ∙ ap ops_along (sym (c.is_rising.ensures.order c.if-is_rising.true)) in
    (split_as (by_time (transactions_of c.args.batch)) _ _ _ c.in_ok-events.ensures rows c.of.ensures).txns

pub returns-then-is_rising-clause-high : goal.returns-then-is_rising-clause-high
returns-then-is_rising-clause-high c =
    let rows = c.into_ops.ensures ∙ c.is_rising.ensures.ops c.if-is_rising.true ∙ ap ops_along (sym (c.is_rising.ensures.order c.if-is_rising.true)) in
    all_as (λ (op : Op). op.high ≡ high_of_all (transactions_of c.args.batch)) (by_time (transactions_of c.args.batch)) _ _ _ (order_alike (transactions_of c.args.batch) c.requires) rows c.of.ensures

pub returns-clause-of : goal.returns-clause-of
returns-clause-of c =
    let rows = c.in_ok-ops.ensures ∙ ap (λ (events : List Event). flat_map (λ (e : Event). e.ops) events) c.as_slice.ensures.value ∙ of_events c.in_ok-sorted.sorted.items ∙ ap ops_along c.in_ok-sorted.ensures in
    split_as (by_time (transactions_of c.args.batch)) _ _ _ c.in_ok-events-2.ensures rows c.of-2.ensures

pub returns-clause-valid : goal.returns-clause-valid
returns-clause-valid c =
    let rows = c.in_ok-ops.ensures ∙ ap (λ (events : List Event). flat_map (λ (e : Event). e.ops) events) c.as_slice.ensures.value ∙ of_events c.in_ok-sorted.sorted.items ∙ ap ops_along c.in_ok-sorted.ensures in
    (split_as (by_time (transactions_of c.args.batch)) _ _ _ c.in_ok-events-2.ensures rows c.of-2.ensures).txns

pub returns-clause-high : goal.returns-clause-high
returns-clause-high c =
    let rows = c.in_ok-ops.ensures ∙ ap (λ (events : List Event). flat_map (λ (e : Event). e.ops) events) c.as_slice.ensures.value ∙ of_events c.in_ok-sorted.sorted.items ∙ ap ops_along c.in_ok-sorted.ensures in
    all_as (λ (op : Op). op.high ≡ high_of_all (transactions_of c.args.batch)) (by_time (transactions_of c.args.batch)) _ _ _ (order_alike (transactions_of c.args.batch) c.requires) rows c.of-2.ensures
