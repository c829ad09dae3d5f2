use Rattle.std.proofs.Common.{◌≡◌, ◌+◌, [], ◌∷◌, length, map, take}
use Rattle.morph_base.specs.declared.operation.Func.TheVariants.{Add}
use Rattle.event_reader.specs.Versions.{op_in}
use Rattle.stock_app.specs.Stock.{bill, limit_check, taking}
use Rattle.stock_app.proofs.stock.order_ops.Given as goal

abbrev pub invariant-loop-item : goal.invariant-loop-item
invariant-loop-item l = record {
  items : l.ops ≡ limit_check l.version l.customer l.limit l.cost ∷ op_in l.version Add (bill l.customer) [] l.cost ∷ map (taking l.version) (take l.item-index l.items);
  many : length l.ops ≡ l.item-index + 2;
}
