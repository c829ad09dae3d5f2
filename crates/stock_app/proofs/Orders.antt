-- What the numbers behind an order's limit say, by each test.
use Rattle.std.proofs.Common.{◌≡◌, ℕ, true, false, List, length, map, refl, Err, Ok}
use Rattle.std.specs.Prelude.{◌%◌, ◌==◌}
use Rattle.std.specs.List.{list_all}
use Rattle.event_reader.specs.declared.cause.Cause.TheVariants.{Range as OutOfRange, Same}
use Rattle.event_reader.specs.declared.version.Version.{Version}
use Rattle.event_reader.specs.Keys.{are_distinct}
use Rattle.stock_app.specs.Stock.{items_of, stock_of, is_offered, order, ordered}

module _ (version : Version) (size ts customer limit : ℕ) (ns : List ℕ) (whole : (length ns % 3 == 0) ≡ true) where
  pub not_offered : list_all (is_offered size) (items_of ns) ≡ false → ordered version size ts customer limit ns ≡ Err OutOfRange
  not_offered one = rw (whole, one) refl

  pub twice : list_all (is_offered size) (items_of ns) ≡ true → are_distinct (map stock_of (items_of ns)) ≡ false → ordered version size ts customer limit ns ≡ Err Same
  twice offered same = rw (whole, offered, same) refl

  pub is_order : list_all (is_offered size) (items_of ns) ≡ true → are_distinct (map stock_of (items_of ns)) ≡ true
      → ordered version size ts customer limit ns ≡ Ok (order version ts customer limit (items_of ns))
  is_order offered apart = rw (whole, offered, apart) refl
