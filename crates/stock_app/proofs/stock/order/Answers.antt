use Rattle.std.proofs.Common.{◌≡◌, ℕ, ◌<◌, List, [], ◌∷◌, drop, get_or, refl, sym, ◌∙◌, ap, subst, arith}
use Rattle.std.specs.List.{All}
use Rattle.std.proofs.lemmas.List.Elements.{All-weaker}
use Rattle.event_reader.specs.declared.ranges.Range.{Range}
use Rattle.event_reader.specs.declared.version.Version.{Version}
use Rattle.event_reader.specs.Forms.{Form, form_of, said}
use Rattle.event_reader.specs.Ranges.{times, ids, amounts}
use Rattle.event_reader.specs.Reader.{GivesEvent}
use Rattle.event_reader.proofs.Forms.{IsInRange, read_by, read_fits, first_is, id_at, rest_in}
use Rattle.stock_app.specs.Stock.{IsItemNumber, item_numbers, order_by, order_form, ordered}
use Rattle.stock_app.proofs.stock.order.Goals as goal

abbrev with_items : Form → Form
with_items form = record form { more = item_numbers; least = 3; most = 15 }

-- the form is that of orders
made : (version : Version) (size : ℕ) (id amount : Range) (front form : Form) → front ≡ form_of 79 (times ∷ id ∷ amount ∷ []) → form ≡ with_items front → id ≡ ids size → amount ≡ amounts version
    → form ≡ order_form version size
made version size id amount front form front_is is same greatest =
    is ∙ ap with_items front_is ∙ ap (λ r. with_items (form_of 79 (times ∷ r ∷ amount ∷ []))) same ∙ ap (λ r. with_items (form_of 79 (times ∷ ids size ∷ r ∷ []))) greatest

pub order_of-requires-clause-customer : goal.order_of-requires-clause-customer
order_of-requires-clause-customer c =
    id_at (order_form c.args.version c.args.size) c.with_more-form.result c.args.words.now c.read.result c.in_ok-numbers.numbers c.first.result
    (made c.args.version c.args.size c.ids.result c.amounts.result c.new.result c.with_more-form.result c.new.ensures c.with_more-form.ensures c.ids.ensures c.amounts.ensures)
    c.read.ensures c.in_ok-numbers.was c.first.ensures 1 c.args.size (omega arith) refl c.ranges.size.fits

pub order_of-requires-clause-small : goal.order_of-requires-clause-small
order_of-requires-clause-small c =
    let form = order_form c.args.version c.args.size in
    let ns = c.in_ok-numbers.numbers in
    let same = made c.args.version c.args.size c.ids.result c.amounts.result c.new.result c.with_more-form.result c.new.ensures c.with_more-form.ensures c.ids.ensures c.amounts.ensures in
    let found = read_by form c.with_more-form.result c.args.words.now c.read.result ns c.first.result same c.read.ensures c.in_ok-numbers.was c.first.ensures in
    subst (All IsItemNumber) (sym c.rest.ensures)
    (All-weaker (IsInRange item_numbers) IsItemNumber (λ n is. is.1) (drop 3 ns) (rest_in form ns (read_fits form c.args.words.now ns found)))

-- the numbers of the line
order_at : (version : Version) (size : ℕ) (ns first rest : List ℕ) → ((i : ℕ) → i < 3 → get_or first i 0 ≡ get_or ns i 0) → rest ≡ drop 3 ns
    → order_by version size ns ≡ ordered version size (get_or first 0 0) (get_or first 1 0) (get_or first 2 0) rest
order_at version size ns first rest at behind = rw (behind, at 0 (omega arith), at 1 (omega arith), at 2 (omega arith)) refl

pub returns : goal.returns
returns c =
    let form = order_form c.args.version c.args.size in
    let ns = c.in_ok-numbers.numbers in
    let same = made c.args.version c.args.size c.ids.result c.amounts.result c.new.result c.with_more-form.result c.new.ensures c.with_more-form.ensures c.ids.ensures c.amounts.ensures in
    let found = read_by form c.with_more-form.result c.args.words.now c.read.result ns c.first.result same c.read.ensures c.in_ok-numbers.was c.first.ensures in
    let at = first_is form c.with_more-form.result c.args.words.now c.read.result ns c.first.result same c.read.ensures c.in_ok-numbers.was c.first.ensures in
    let says = ap (said (order_by c.args.version c.args.size)) found ∙ order_at c.args.version c.args.size ns c.first.result c.rest.result.now at c.rest.ensures in
    subst (λ r. GivesEvent r c.order_of.result c.order_of.new.ops) (sym says) c.order_of.ensures
