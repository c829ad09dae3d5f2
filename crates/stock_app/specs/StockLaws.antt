-- Every event of the shop is valid, and its refusals are form, range and same
use Rattle.std.proofs.Common.{◌≡◌, ℕ, ◌-◌, ◌*◌, ◌<◌, ◌≤◌, Bool, true, false, not, List, [], ◌∷◌, length, map, drop, get_or, sum_by, refl, ap, subst, sym, arith, length-drop, Result, Ok, Err}
use Rattle.std.specs.Prelude.{◌%◌, ◌==◌, nat_lt, nat_le, if◌then◌else◌, slice_index}
use Rattle.std.specs.List.{All, IsDistinct, list_all, list_any}
use Rattle.std.proofs.lemmas.Bool.{not-false}
use Rattle.std.proofs.lemmas.Bool.Decides.{nat_tests}
use Rattle.std.proofs.lemmas.List.{length-map}
use Rattle.std.proofs.lemmas.List.Elements.{All-nil, All-cons, All-head, All-tail, All-map, All-weaker}
use Rattle.std.proofs.lemmas.List.Sums.{sum_by-cons}
use Rattle.std.proofs.lemmas.Nat.{mul-le}
use Rattle.morph_base.specs.Limits.{latest_time}
use Rattle.morph_base.specs.declared.key.Layout.{Layout}
use Rattle.morph_base.specs.declared.operation.Func.TheVariants.{Add, Sub, Sum}
use Rattle.morph_base.specs.declared.operation.Op.{Op}
use Rattle.morph_base.specs.Operations.{InLayout, same_key, limited_to, op_of}
use Rattle.morph_base.specs.Transactions.{Transaction}
use Rattle.morph_base.proofs.ShapeLaws.{all_of, op_of-limited}
use Rattle.event_reader.specs.declared.version.Version.{Version}
use Rattle.event_reader.specs.Versions.{greatest_of, op_in}
use Rattle.event_reader.specs.VersionLaws.{first_at_most, limit_of, op_in-shaped}
use Rattle.event_reader.specs.declared.cause.Cause.{Cause}
use Rattle.event_reader.specs.declared.cause.Cause.TheVariants.{Form as NoForm, Range as OutOfRange}
use Rattle.event_reader.specs.Keys.{are_distinct}
use Rattle.event_reader.specs.Ranges.{times, ids, amounts}
use Rattle.event_reader.specs.Reader.{IsOfWords, IsEventOf}
use Rattle.event_reader.proofs.Forms.{Fits, IsInRange, AreSound, both, place, count_of, rest_in, unless_ok, unless_err, events_valid, events_causes}
use Rattle.event_reader.proofs.Heads.{IsOpOf, ops_valid, plain_op}
use Rattle.event_reader.proofs.LineKeys.{differ}
use Rattle.stock_app.specs.declared.item.Item.{Item}
use Rattle.stock_app.specs.Stock.{stock, bill, before, limit_check, items_of, cost_of, stock_of, taking, IsPriced, is_offered, order, restock_by, payment_by, order_by, item_numbers, IsItemNumber, restocks, payments, order_form, stock_kinds, stock_event}

abbrev stock_layout : (size : ℕ) → Layout
stock_layout size = record { tables = 3; size = size }

abbrev IsShopOp : Version → (size : ℕ) → Op → Type 0
IsShopOp version size = IsOpOf version (stock_layout size)

-- numbers in the places of a line that adds to a stock, and of one that pays a bill
restock_numbers : (version : Version) (size : ℕ) (ns : List ℕ) (e : Transaction) → Fits (restocks version size).form ns → restock_by version ns ≡ Ok e → IsEventOf version (stock_layout size) e
unfolding IsDistinct
restock_numbers version size ns e fits is =
    let ts = place (restocks version size).form ns 0 times fits (omega arith) refl in
    let item = place (restocks version size).form ns 1 (ids size) fits (omega arith) refl in
    let quantity = place (restocks version size).form ns 2 (amounts version) fits (omega arith) refl in
    let op = plain_op version (stock_layout size) Add (stock (slice_index ns 1)) (slice_index ns 2) (omega arith) quantity.1 (record { table = omega arith; id = omega (arith, item.0, item.1) }) in
    let ops : List Op = op_in version Add (stock (slice_index ns 1)) [] (slice_index ns 2) ∷ [] in
    let same : record { ts = slice_index ns 0; ops = ops } ≡ e = cc in
    subst (IsEventOf version (stock_layout size)) same
    (ops_valid version (stock_layout size) (slice_index ns 0) ops ts.0 ts.1 (omega arith) (omega arith) (all_of (IsShopOp version size) ops (op, tt)) (tt, tt))

payment_numbers : (version : Version) (size : ℕ) (ns : List ℕ) (e : Transaction) → Fits (payments version size).form ns → payment_by version ns ≡ Ok e → IsEventOf version (stock_layout size) e
unfolding IsDistinct
payment_numbers version size ns e fits is =
    let ts = place (payments version size).form ns 0 times fits (omega arith) refl in
    let customer = place (payments version size).form ns 1 (ids size) fits (omega arith) refl in
    let amount = place (payments version size).form ns 2 (amounts version) fits (omega arith) refl in
    let op = plain_op version (stock_layout size) Sub (bill (slice_index ns 1)) (slice_index ns 2) (omega arith) amount.1 (record { table = omega arith; id = omega (arith, customer.0, customer.1) }) in
    let ops : List Op = op_in version Sub (bill (slice_index ns 1)) [] (slice_index ns 2) ∷ [] in
    let same : record { ts = slice_index ns 0; ops = ops } ≡ e = cc in
    subst (IsEventOf version (stock_layout size)) same
    (ops_valid version (stock_layout size) (slice_index ns 0) ops ts.0 ts.1 (omega arith) (omega arith) (all_of (IsShopOp version size) ops (op, tt)) (tt, tt))

-- the operation that checks the limit
abbrev by_cost : Version → (customer limit cost : ℕ) → (over : Bool) → Op
by_cost version customer limit cost over =
    if over then limited_to (greatest_of version) (greatest_of version) (op_of Sub (before customer) [] (greatest_of version))
    else op_in version Sum (before customer) (bill customer ∷ []) (limit - cost)

limit_op : (version : Version) (size customer limit cost : ℕ) → customer < size → limit ≤ greatest_of version → (over : Bool) → IsShopOp version size (by_cost version customer limit cost over)
limit_op version size customer limit cost inside small true = record {
  shaped = op_of-limited Sub (before customer) [] (greatest_of version) (greatest_of version) (greatest_of version) (omega arith) (omega arith) (omega arith) (omega arith) (limit_of version);
  inside = all_of (InLayout (stock_layout size)) (before customer ∷ []) (record { table = omega arith; id = inside }, tt);
  greatest = refl;
}
limit_op version size customer limit cost inside small false = record {
  shaped = op_in-shaped version Sum (before customer) (bill customer ∷ []) (limit - cost) (omega arith) (omega arith) (omega (arith, small));
  inside = all_of (InLayout (stock_layout size)) (before customer ∷ bill customer ∷ []) (record { table = omega arith; id = inside }, (record { table = omega arith; id = inside }, tt));
  greatest = refl;
}

limit_key : (version : Version) (customer limit cost : ℕ) (over : Bool) → (by_cost version customer limit cost over).key ≡ before customer
limit_key version customer limit cost true = refl
limit_key version customer limit cost false = refl

-- The shop has the item, and its quantity and its price are in their ranges
pub record IsOrdered (size : ℕ) (item : Item) : Type 0 where
  pub inside : item.id < size
  pub priced : IsPriced item

-- Items that are offered are in the layout, and in their ranges if their numbers are
pub are_ordered : (size : ℕ) (ns : List ℕ) → All IsItemNumber ns → list_all (is_offered size) (items_of ns) ≡ true → All (IsOrdered size) (items_of ns)
are_ordered size [] inside offered = All-nil (IsOrdered size)
are_ordered size (id ∷ []) inside offered = All-nil (IsOrdered size)
are_ordered size (id ∷ quantity ∷ []) inside offered = All-nil (IsOrdered size)
are_ordered size (id ∷ quantity ∷ price ∷ ns) inside offered =
    let behind = All-tail IsItemNumber id (quantity ∷ price ∷ ns) inside in
    let more = All-tail IsItemNumber quantity (price ∷ ns) behind in
    let few = All-head IsItemNumber quantity (price ∷ ns) behind in
    let item : Item = record { id = id; quantity = quantity; price = price } in
    let parts = both (is_offered size item) (list_all (is_offered size) (items_of ns)) offered in
    let here = both (nat_lt id size) (nat_le price 100000) parts.0 in
    All-cons (IsOrdered size) item (items_of ns)
    (record { inside = grind (arith, nat_tests, here.0); priced = record { quantity = few; price = grind (arith, nat_tests, here.1) } })
    (are_ordered size ns (All-tail IsItemNumber price ns more) parts.1)

-- Numbers say a third as many items at most
pub few_items : (ns : List ℕ) → 3 * length (items_of ns) ≤ length ns
few_items [] = omega arith
few_items (id ∷ []) = omega arith
few_items (id ∷ quantity ∷ []) = omega arith
few_items (id ∷ quantity ∷ price ∷ ns) = omega (arith, few_items ns)

-- What items cost together is at most 10^11 for each
pub cost_most : (items : List Item) → All IsPriced items → sum_by cost_of items ≤ 100000000000 * length items
cost_most [] priced = omega arith
cost_most (item ∷ items) priced =
    let here = All-head IsPriced item items priced in
    omega (arith, sum_by-cons cost_of item items, mul-le item.quantity item.price 1000000 100000 here.quantity here.price, cost_most items (All-tail IsPriced item items priced))

-- the keys of an order differ if those of its items do
targets_of : (version : Version) (items : List Item) → map (λ op. op.key) (map (taking version) items) ≡ map stock_of items
targets_of version [] = refl
targets_of version (item ∷ items) = ap (λ keys. stock_of item ∷ keys) (targets_of version items)

no_stock : (table id : ℕ) (items : List Item) → (table == 0) ≡ false → list_any (same_key (record { table = table; id = id })) (map stock_of items) ≡ false
no_stock table id [] other = refl
no_stock table id (item ∷ items) other = grind (arith, nat_tests, other, no_stock table id items other)

order_apart : (customer : ℕ) (items : List Item) → are_distinct (map stock_of items) ≡ true → IsDistinct same_key (before customer ∷ bill customer ∷ map stock_of items)
unfolding are_distinct
order_apart customer items apart =
    let no_before : list_any (same_key (before customer)) (map stock_of items) ≡ false = no_stock 2 customer items refl in
    let no_bill : list_any (same_key (bill customer)) (map stock_of items) ≡ false = no_stock 1 customer items refl in
    differ (before customer ∷ bill customer ∷ map stock_of items) (rw (no_before, no_bill, apart) refl)

order_valid : (version : Version) (size ts customer limit : ℕ) (items : List Item) → 0 < ts → ts ≤ latest_time → customer < size → limit ≤ greatest_of version → length items ≤ 5
    → All (IsOrdered size) items → are_distinct (map stock_of items) ≡ true → IsEventOf version (stock_layout size) (order version ts customer limit items)
order_valid version size ts customer limit items start end inside small few all apart =
    let cost : ℕ = sum_by cost_of items in
    let over : Bool = nat_lt limit cost in
    let most = cost_most items (All-weaker (IsOrdered size) IsPriced (λ item is. is.priced) items all) in
    let value : cost ≤ greatest_of version = omega (arith, most, few, first_at_most version) in
    let checks = limit_op version size customer limit cost inside small over in
    let rise : Op = op_in version Add (bill customer) [] cost in
    let bills = plain_op version (stock_layout size) Add (bill customer) cost (omega arith) value (record { table = omega arith; id = inside }) in
    let takes = All-map (IsShopOp version size) (taking version) items (λ k d here. taken (get_or items k d) (all k d here)) in
    let targets : map (λ op. op.key) (order version ts customer limit items).ops ≡ before customer ∷ bill customer ∷ map stock_of items =
    rw (limit_key version customer limit cost over, targets_of version items) refl in
    ops_valid version (stock_layout size) ts (order version ts customer limit items).ops start end (omega arith) (omega (arith, few, length-map items (taking version)))
    (All-cons (IsShopOp version size) (limit_check version customer limit cost) (rise ∷ map (taking version) items) checks
    (All-cons (IsShopOp version size) rise (map (taking version) items) bills takes))
    (subst (IsDistinct same_key) (sym targets) (order_apart customer items apart))
  where
    taken : (item : Item) → IsOrdered size item → IsShopOp version size (taking version item)
    taken item is = plain_op version (stock_layout size) Sub (stock_of item) item.quantity (omega arith) (omega (arith, is.priced.quantity, first_at_most version)) (record { table = omega arith; id = is.inside })

-- what is refused for its form, or since an item is not offered
unless_refused : (wrong : Bool) (cause : Cause) (r : Result Transaction Cause) (e : Transaction) → (if wrong then Err cause else r) ≡ Ok e → (wrong ≡ false) × (r ≡ Ok e)
unless_refused true cause r e is = absurd (cc)
unless_refused false cause r e is = (refl, is)

cause_of : (wrong : Bool) (mine : Cause) (r : Result Transaction Cause) (cause : Cause) → IsOfWords mine → (if wrong then Err mine else r) ≡ Err cause → (r ≡ Err cause → IsOfWords cause) → IsOfWords cause
cause_of true mine r cause words is other = let same : mine ≡ cause = cc in subst IsOfWords same words
cause_of false mine r cause words is other = other is

order_numbers : (version : Version) (size : ℕ) (ns : List ℕ) (e : Transaction) → Fits (order_form version size) ns → order_by version size ns ≡ Ok e → IsEventOf version (stock_layout size) e
order_numbers version size ns e fits is =
    let form = order_form version size in
    let items : List Item = items_of (drop 3 ns) in
    let ts = place form ns 0 times fits (omega arith) refl in
    let customer = place form ns 1 (ids size) fits (omega arith) refl in
    let limit = place form ns 2 (amounts version) fits (omega arith) refl in
    let counts = count_of form (length ns) fits.count in
    let whole = unless_refused (not (length (drop 3 ns) % 3 == 0)) NoForm _ e is in
    let offered = unless_refused (not (list_all (is_offered size) items)) OutOfRange _ e whole.1 in
    let parts = unless_ok (not (are_distinct (map stock_of items))) _ e offered.1 in
    subst (IsEventOf version (stock_layout size)) parts.1
    (order_valid version size (slice_index ns 0) (slice_index ns 1) (slice_index ns 2) items ts.0 ts.1 (omega (arith, customer.0, customer.1)) limit.1
    (omega (arith, few_items (drop 3 ns), length-drop 3 ns, counts.1))
    (are_ordered size (drop 3 ns) (All-weaker (IsInRange item_numbers) IsItemNumber (λ n is. is.1) (drop 3 ns) (rest_in form ns fits)) (not-false (list_all (is_offered size) items) offered.0)) (not-false (are_distinct (map stock_of items)) parts.0))

kinds_sound : (version : Version) (size : ℕ) → AreSound version (stock_layout size) (stock_kinds version size)
kinds_sound version size = (
  record { valid = λ ns e fits is. restock_numbers version size ns e fits is; causes = λ ns cause is. absurd (cc) },
  (
    record { valid = λ ns e fits is. payment_numbers version size ns e fits is; causes = λ ns cause is. absurd (cc) },
    (
      record {
        valid = λ ns e fits is. order_numbers version size ns e fits is;
        causes = λ ns cause is. let items = items_of (drop 3 ns) in
            cause_of (not (length (drop 3 ns) % 3 == 0)) NoForm _ cause tt is
            (λ whole. cause_of (not (list_all (is_offered size) items)) OutOfRange _ cause tt whole
            (λ offered. subst IsOfWords (unless_err (not (are_distinct (map stock_of items))) _ cause offered) tt));
      },
      tt,
    ),
  ),
)

-- Each event that words say is valid, with its keys in the tables and with the greatest value of the version
pub stock_is_valid : (size : ℕ) (version : Version) (words : List (List ℕ)) (e : Transaction) → stock_event size version words ≡ Ok e → IsEventOf version (record { tables = 3; size = size }) e
stock_is_valid size version words e is = events_valid version (stock_layout size) (stock_kinds version size) (kinds_sound version size) words e is

-- Words have no other causes than form, range and same
pub stock_causes : (size : ℕ) (version : Version) (words : List (List ℕ)) (cause : Cause) → stock_event size version words ≡ Err cause → IsOfWords cause
stock_causes size version words cause is = events_causes version (stock_layout size) (stock_kinds version size) (kinds_sound version size) words cause is
