use Rattle.std.proofs.Common.{◌≡◌, ℕ, ◌<◌, List, [], ◌∷◌, slice_index, refl, ◌∙◌, ap, arith, rules, Ok}
use Rattle.event_reader.specs.declared.ranges.Range.{Range}
use Rattle.event_reader.specs.declared.version.Version.{Version}
use Rattle.event_reader.specs.Forms.{Form, form_of, said}
use Rattle.event_reader.specs.Ranges.{times, ids, amounts}
use Rattle.event_reader.proofs.Forms.{read_by, first_is, id_at}
use Rattle.ledger_app.specs.Ledger.{deposit, deposit_of, deposits}
use Rattle.ledger_app.proofs.ledger.deposit.Goals as goal

-- the form is that of deposits
made : (version : Version) (size : ℕ) (id amount : Range) (form : Form) → form ≡ form_of 68 (times ∷ id ∷ id ∷ amount ∷ amount ∷ []) → id ≡ ids size → amount ≡ amounts version → form ≡ (deposits version size).form
made version size id amount form is same most =
    is ∙ ap (λ r. form_of 68 (times ∷ r ∷ r ∷ amount ∷ amount ∷ [])) same ∙ ap (λ r. form_of 68 (times ∷ ids size ∷ ids size ∷ r ∷ r ∷ [])) most

pub key_of-requires : goal.key_of-requires
key_of-requires c =
    id_at (deposits c.args.version c.args.size).form c.new.result c.args.words.now c.read.result c.in_ok-numbers.numbers c.first.result
    (made c.args.version c.args.size c.ids-ids.result c.amounts-amounts.result c.new.result c.new.ensures c.ids-ids.ensures c.amounts-amounts.ensures) c.read.ensures c.in_ok-numbers.was c.first.ensures 1 c.args.size (omega arith) refl
    c.ranges.size.fits

pub key_of-requires-2 : goal.key_of-requires-2
key_of-requires-2 c =
    id_at (deposits c.args.version c.args.size).form c.new.result c.args.words.now c.read.result c.in_ok-numbers.numbers c.first.result
    (made c.args.version c.args.size c.ids-ids.result c.amounts-amounts.result c.new.result c.new.ensures c.ids-ids.ensures c.amounts-amounts.ensures) c.read.ensures c.in_ok-numbers.was c.first.ensures 2 c.args.size (omega arith) refl
    c.ranges.size.fits

-- the five numbers
deposit_at : (version : Version) (ns first : List ℕ) → ((i : ℕ) → i < 5 → slice_index first i ≡ slice_index ns i)
    → deposit_of version ns ≡ Ok (deposit version (slice_index first 0) (slice_index first 1) (slice_index first 2) (slice_index first 3) (slice_index first 4))
deposit_at version ns first at = rw (at 0 (omega arith), at 1 (omega arith), at 2 (omega arith), at 3 (omega arith), at 4 (omega arith)) refl

pub returns : goal.returns
returns c =
    let form = (deposits c.args.version c.args.size).form in
    let same = made c.args.version c.args.size c.ids-ids.result c.amounts-amounts.result c.new.result c.new.ensures c.ids-ids.ensures c.amounts-amounts.ensures in
    let found = read_by form c.new.result c.args.words.now c.read.result c.in_ok-numbers.numbers c.first.result same c.read.ensures c.in_ok-numbers.was c.first.ensures in
    let at = first_is form c.new.result c.args.words.now c.read.result c.in_ok-numbers.numbers c.first.result same c.read.ensures c.in_ok-numbers.was c.first.ensures in
    ap (said (deposit_of c.args.version)) found ∙ deposit_at c.args.version c.in_ok-numbers.numbers c.first.result at ∙ search rules
