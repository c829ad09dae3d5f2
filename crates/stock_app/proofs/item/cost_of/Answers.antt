use Rattle.std.proofs.Common.{arith}
use Rattle.std.proofs.lemmas.List.Sums.{sum_by_more_le}
use Rattle.stock_app.specs.declared.item.Item.{Item}
use Rattle.stock_app.specs.Stock.{cost_of}
use Rattle.stock_app.specs.StockLaws.{cost_most}
use Rattle.stock_app.proofs.item.cost_of.Goals as goal

pub overflow_add-cost : goal.overflow_add-cost
overflow_add-cost c =
    let none : Item = record { id = 0; quantity = 0; price = 0 } in
    omega (arith, sum_by_more_le cost_of c.args.items.now c.loop-item.item-index none c.loop-item-test.true, c.loop-item.invariant, cost_most c.args.items.now c.requires.priced, c.requires.few)
