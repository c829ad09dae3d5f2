use Rattle.std.proofs.Common.{◌≡◌, map, take}
use Rattle.stock_app.specs.Stock.{stock_of}
use Rattle.stock_app.proofs.item.keys_of.Given as goal

abbrev pub invariant-loop-item : goal.invariant-loop-item
invariant-loop-item l = l.keys.items ≡ map stock_of (take l.item-index l.items)
