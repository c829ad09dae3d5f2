use Rattle.std.proofs.Common.{◌≡◌, ◌++◌, length}
use Rattle.stock_app.specs.Stock.{items_of}
use Rattle.stock_app.proofs.item.items_of.Given as goal

abbrev pub invariant-loop-rest : goal.invariant-loop-rest
invariant-loop-rest l = l.items.items ++ items_of l.rest ≡ items_of l.numbers

abbrev pub decreases-loop-rest : goal.decreases-loop-rest
decreases-loop-rest l = length l.rest
