-- What the words of a line of a shop say
use Rattle.std.specs.Prelude.{ℕ, ◌-◌, ◌*◌, ◌%◌, ◌≤◌, ◌==◌, ◌&&◌, Bool, not, nat_le, nat_lt, codes, if◌then◌else◌, List, [], ◌∷◌, length, drop, map, sum_by, slice_index, Result, Ok, Err}
use Rattle.std.specs.List.{list_all}
use Rattle.morph_base.specs.declared.key.Key.{Key}
use Rattle.morph_base.specs.declared.operation.Func.TheVariants.{Add, Sub, Sum}
use Rattle.morph_base.specs.declared.operation.Op.{Op}
use Rattle.morph_base.specs.Operations.{limited_to, op_of}
use Rattle.morph_base.specs.Transactions.{Transaction}
use Rattle.event_reader.specs.declared.cause.Cause.{Cause}
use Rattle.event_reader.specs.declared.cause.Cause.TheVariants.{Form as NoForm, Range as OutOfRange}
use Rattle.event_reader.specs.declared.ranges.Range.{Range}
use Rattle.event_reader.specs.declared.version.Version.{Version}
use Rattle.event_reader.specs.Forms.{Form, Kind, form_of, unless, event_by}
use Rattle.event_reader.specs.Keys.{key_of, are_distinct}
use Rattle.event_reader.specs.Ranges.{times, ids, amounts}
use Rattle.event_reader.specs.Steps.{Meaning}
use Rattle.event_reader.specs.Versions.{greatest_of, op_in}
use Rattle.stock_app.specs.declared.item.Item.{Item}

-- The printed names of the tables: the stock of each item, the bill of each customer, and that bill before the
-- customer's last order
abbrev pub table_name : ℕ → List ℕ
table_name table = if table == 0 then codes "item" else (if table == 1 then codes "bill" else codes "before")

-- The key of an item's stock
abbrev pub stock : (item : ℕ) → Key
stock item = key_of 0 item

-- The key of a customer's bill
abbrev pub bill : (customer : ℕ) → Key
bill customer = key_of 1 customer

-- The key of a customer's bill as it was before the last order
abbrev pub before : (customer : ℕ) → Key
before customer = key_of 2 customer

-- `R ts item quantity`: the item's stock rises
abbrev pub restock_by : Version → List ℕ → Result Transaction Cause
restock_by version ns = Ok (record { ts = slice_index ns 0; ops = op_in version Add (stock (slice_index ns 1)) [] (slice_index ns 2) ∷ [] })

-- `B ts customer amount`: the customer's bill falls, unless it is less than the amount
abbrev pub payment_by : Version → List ℕ → Result Transaction Cause
payment_by version ns = Ok (record { ts = slice_index ns 0; ops = op_in version Sub (bill (slice_index ns 1)) [] (slice_index ns 2) ∷ [] })

-- The bill before an order is at most what the limit leaves beside the cost, and is kept. If the order alone costs more
-- than the limit, the operation takes more than any value, so that it fails on each
abbrev pub limit_check : Version → (customer limit cost : ℕ) → Op
limit_check version customer limit cost =
    if nat_lt limit cost then limited_to (greatest_of version) (greatest_of version) (op_of Sub (before customer) [] (greatest_of version))
    else op_in version Sum (before customer) (bill customer ∷ []) (limit - cost)

-- The items that numbers say, three numbers each: which item, how many of it, and the price of one
abbrev pub items_of : List ℕ → List Item
items_of (id ∷ quantity ∷ price ∷ ns) = record { id = id; quantity = quantity; price = price } ∷ items_of ns
items_of _ = []

-- What an item of an order costs
abbrev pub cost_of : Item → ℕ
cost_of item = item.quantity * item.price

-- The key of an ordered item's stock
abbrev pub stock_of : Item → Key
stock_of item = stock item.id

-- The operation that takes an ordered item from its stock, and fails if the stock is less
abbrev pub taking : Version → Item → Op
taking version item = op_in version Sub (stock_of item) [] item.quantity

-- An item's quantity and its price are in their ranges
pub record IsPriced (item : Item) : Type 0 where
  pub quantity : item.quantity ≤ 1000000
  pub price : item.price ≤ 100000

-- The shop has the item, and its price is one that the shop asks
abbrev pub is_offered : (size : ℕ) → Item → Bool
is_offered size item = nat_lt item.id size && nat_le item.price 100000

-- An order: within the limit the bill rises by what the items cost together, and the stock of each falls
abbrev pub order : Version → (ts customer limit : ℕ) → List Item → Transaction
order version ts customer limit items =
    let cost = sum_by cost_of items in
    record { ts = ts; ops = limit_check version customer limit cost ∷ op_in version Add (bill customer) [] cost ∷ map (taking version) items }

-- What the numbers behind an order's limit say: form if they are not three for each item, range if an item is not
-- offered, same if an item stands there twice, and else the order
abbrev pub ordered : Version → (size ts customer limit : ℕ) → List ℕ → Result Transaction Cause
ordered version size ts customer limit ns =
    let items = items_of ns in
    if not (length ns % 3 == 0) then Err NoForm
    else (if not (list_all (is_offered size) items) then Err OutOfRange
    else unless (not (are_distinct (map stock_of items))) (order version ts customer limit items))

-- `O ts customer limit item quantity price`, and up to four more items with their quantities and prices behind that
abbrev pub order_by : Version → (size : ℕ) → List ℕ → Result Transaction Cause
order_by version size ns = ordered version size (slice_index ns 0) (slice_index ns 1) (slice_index ns 2) (drop 3 ns)

-- The range of each number behind an order's limit: what five items cost is a value of each version
abbrev pub item_numbers : Range
item_numbers = record { least = 0; greatest = 1000000 }

-- A number is in that range
abbrev pub IsItemNumber : ℕ → Type 0
IsItemNumber n = n ≤ 1000000

-- The lines that add to a stock
abbrev pub restocks : Version → (size : ℕ) → Kind
restocks version size = record { form = form_of 82 (times ∷ ids size ∷ amounts version ∷ []); says = restock_by version }

-- The lines that pay a bill
abbrev pub payments : Version → (size : ℕ) → Kind
payments version size = record { form = form_of 66 (times ∷ ids size ∷ amounts version ∷ []); says = payment_by version }

-- The form of an order: a time, a customer and a limit, and from one to five items behind them
abbrev pub order_form : Version → (size : ℕ) → Form
order_form version size = record { letter = 79; places = times ∷ ids size ∷ amounts version ∷ []; more = item_numbers; least = 3; most = 15 }

-- The lines that order items
abbrev pub orders : Version → (size : ℕ) → Kind
orders version size = record { form = order_form version size; says = order_by version size }

-- The kinds of event lines
abbrev pub stock_kinds : Version → (size : ℕ) → List Kind
stock_kinds version size = restocks version size ∷ payments version size ∷ orders version size ∷ []

-- What the words of a line say in an input of each version
abbrev pub stock_event : (size : ℕ) → Meaning
stock_event size version words = event_by (stock_kinds version size) words
