use Rattle.std.proofs.Common.{◌≡◌, sum_by, take}
use Rattle.stock_app.specs.Stock.{cost_of}
use Rattle.stock_app.proofs.item.cost_of.Given as goal

abbrev pub invariant-loop-item : goal.invariant-loop-item
invariant-loop-item l = l.cost ≡ sum_by cost_of (take l.item-index l.items)
