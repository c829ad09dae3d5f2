use Rattle.std.proofs.Common.{◌≡◌, true, length, map, sym, ◌∙◌, ap, subst, arith, Ok}
use Rattle.std.specs.Prelude.{◌%◌, ◌==◌}
use Rattle.std.specs.List.{All, list_all}
use Rattle.std.proofs.lemmas.Bool.Decides.{nat_tests}
use Rattle.std.proofs.lemmas.List.Elements.{All-weaker}
use Rattle.event_reader.specs.Keys.{are_distinct}
use Rattle.stock_app.specs.Stock.{IsPriced, is_offered, items_of, order, stock_of}
use Rattle.stock_app.specs.StockLaws.{IsOrdered, are_ordered}
use Rattle.stock_app.proofs.Orders.{is_order}
use Rattle.stock_app.proofs.stock.order_of.Goals as goal

pub order_ops-requires-clause-priced : goal.order_ops-requires-clause-priced
order_ops-requires-clause-priced c =
    let size = c.args.size in
    let numbers = c.args.numbers.now in
    let offered : list_all (is_offered size) (items_of numbers) ≡ true =
    ap (list_all (is_offered size)) (sym (c.as_slice.ensures ∙ c.in_ok-items.ensures)) ∙ sym c.are_offered.ensures ∙ c.if-not-are_offered.false in
    subst (All IsPriced) (sym (c.as_slice-4.ensures ∙ c.in_ok-items.ensures))
    (All-weaker (IsOrdered size) IsPriced (λ item is. is.priced) (items_of numbers) (are_ordered size numbers c.requires.small offered))

pub returns : goal.returns
returns c =
    let size = c.args.size in
    let numbers = c.args.numbers.now in
    let whole : (length numbers % 3 == 0) ≡ true = grind (arith, nat_tests, c.if-numbers-ne0.false) in
    let offered : list_all (is_offered size) (items_of numbers) ≡ true =
    ap (list_all (is_offered size)) (sym (c.as_slice.ensures ∙ c.in_ok-items.ensures)) ∙ sym c.are_offered.ensures ∙ c.if-not-are_offered.false in
    let apart : are_distinct (map stock_of (items_of numbers)) ≡ true =
    ap are_distinct (ap (map stock_of) (sym (c.as_slice-2.ensures ∙ c.in_ok-items.ensures)) ∙ sym (c.as_slice-3.ensures ∙ c.in_ok-keys.ensures))
    ∙ sym c.are_distinct.ensures ∙ c.if-not-are_distinct.false in
    is_order c.args.version size c.args.ts c.args.customer c.args.limit numbers whole offered apart
    ∙ ap (λ items. Ok (order c.args.version c.args.ts c.args.customer c.args.limit items)) (sym (c.as_slice-4.ensures ∙ c.in_ok-items.ensures))
    ∙ ap Ok (sym (c.order_ops.ensures c.args.ts))
