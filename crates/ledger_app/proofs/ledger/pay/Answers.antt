use Rattle.std.proofs.Common.{◌≡◌, ℕ, [], ◌∷◌, map, refl, sym, ◌∙◌, ap, subst, arith}
use Rattle.event_reader.specs.declared.ranges.Range.{Range}
use Rattle.event_reader.specs.declared.version.Version.{Version}
use Rattle.event_reader.specs.Forms.{Form, form_of, said}
use Rattle.event_reader.specs.Keys.{key_of}
use Rattle.event_reader.specs.Ranges.{times, ids, amounts}
use Rattle.event_reader.specs.Reader.{GivesEvent}
use Rattle.event_reader.proofs.Forms.{read_by, first_is, first_at, id_at, rest_few, rest_ids}
use Rattle.event_reader.proofs.Heads.{said_by_keys}
use Rattle.ledger_app.specs.Ledger.{most_paid, payout, payout_of, payouts, payout_form}
use Rattle.ledger_app.proofs.ledger.pay.Goals as goal

abbrev with_accounts : Range → Form → Form
with_accounts id form = record form { more = id; least = 1; most = most_paid }

-- the form is that of payouts
made : (version : Version) (size : ℕ) (id amount : Range) (front form : Form) → front ≡ form_of 77 (times ∷ id ∷ amount ∷ []) → form ≡ with_accounts id front → id ≡ ids size → amount ≡ amounts version
    → form ≡ payout_form version size
made version size id amount front form front_is is same greatest =
    is ∙ ap (with_accounts id) front_is ∙ ap (λ r. with_accounts r (form_of 77 (times ∷ r ∷ amount ∷ []))) same
    ∙ ap (λ r. with_accounts (ids size) (form_of 77 (times ∷ ids size ∷ r ∷ []))) greatest

pub keys_of-accounts-requires : goal.keys_of-accounts-requires
keys_of-accounts-requires c =
    let form = (payouts c.args.version c.args.size).form in
    let same = made c.args.version c.args.size c.ids-ids.result c.amounts.result c.new.result c.with_more-form.result c.new.ensures c.with_more-form.ensures c.ids-ids.ensures c.amounts.ensures in
    let few = rest_few form c.with_more-form.result c.args.words.now c.read.result c.in_ok-numbers.numbers c.first.result same c.read.ensures c.in_ok-numbers.was c.first.ensures
    c.rest-others.result.now c.rest-others.ensures in
    let small = rest_ids form c.with_more-form.result c.args.words.now c.read.result c.in_ok-numbers.numbers c.first.result same c.read.ensures c.in_ok-numbers.was c.first.ensures
    c.rest-others.result.now c.args.size c.rest-others.ensures refl c.ranges.size.fits in
    (omega arith, (omega (arith, few), small))

pub key_of-src-requires : goal.key_of-src-requires
key_of-src-requires c =
    id_at (payouts c.args.version c.args.size).form c.with_more-form.result c.args.words.now c.read.result c.in_ok-numbers.numbers c.first.result
    (made c.args.version c.args.size c.ids-ids.result c.amounts.result c.new.result c.with_more-form.result c.new.ensures c.with_more-form.ensures c.ids-ids.ensures c.amounts.ensures)
    c.read.ensures c.in_ok-numbers.was c.first.ensures 1 c.args.size (omega arith) refl c.ranges.size.fits

pub pay_out-requires-clause-small : goal.pay_out-requires-clause-small
pay_out-requires-clause-small c =
    (first_at (payouts c.args.version c.args.size).form c.with_more-form.result c.args.words.now c.read.result c.in_ok-numbers.numbers c.first.result
    (made c.args.version c.args.size c.ids-ids.result c.amounts.result c.new.result c.with_more-form.result c.new.ensures c.with_more-form.ensures c.ids-ids.ensures c.amounts.ensures)
    c.read.ensures c.in_ok-numbers.was c.first.ensures 2 (amounts c.args.version) (omega arith) refl).1

pub returns : goal.returns
returns c =
    let form = (payouts c.args.version c.args.size).form in
    let same = made c.args.version c.args.size c.ids-ids.result c.amounts.result c.new.result c.with_more-form.result c.new.ensures c.with_more-form.ensures c.ids-ids.ensures c.amounts.ensures in
    let found = read_by form c.with_more-form.result c.args.words.now c.read.result c.in_ok-numbers.numbers c.first.result same c.read.ensures c.in_ok-numbers.was c.first.ensures in
    let at = first_is form c.with_more-form.result c.args.words.now c.read.result c.in_ok-numbers.numbers c.first.result same c.read.ensures c.in_ok-numbers.was c.first.ensures in
    let says = ap (said (payout_of c.args.version)) found
    ∙ said_by_keys (payout c.args.version) 0 c.in_ok-numbers.numbers c.first.result c.key_of-src.result _ at c.key_of-src.ensures
    (c.keys_of-accounts.ensures ∙ ap (map (key_of 0)) c.rest-others.ensures) in
    subst (λ r. GivesEvent r c.pay_out.result c.pay_out.new.ops) (sym says) c.pay_out.ensures
