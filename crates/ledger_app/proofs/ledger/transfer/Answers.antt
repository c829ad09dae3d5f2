use Rattle.std.proofs.Common.{◌≡◌, ℕ, ◌<◌, false, List, [], ◌∷◌, refl, ◌∙◌, ap, arith, rules}
use Rattle.std.specs.Prelude.{◌==◌, slice_index}
use Rattle.std.proofs.lemmas.Bool.Decides.{nat_tests}
use Rattle.std.proofs.lemmas.List.{get_or-drop}
use Rattle.event_reader.specs.declared.ranges.Range.{Range}
use Rattle.event_reader.specs.declared.version.Version.{Version}
use Rattle.event_reader.specs.Forms.{Form, form_of, said}
use Rattle.event_reader.specs.Ranges.{times, ids, amounts}
use Rattle.event_reader.proofs.Forms.{read_by, first_is, id_at}
use Rattle.ledger_app.specs.Ledger.{most_floors, transfers, transfer, transfer_of}
use Rattle.ledger_app.proofs.ledger.transfer.Goals as goal

-- the form is that of transfers
abbrev with_floors : Range → (most : ℕ) → Form → Form
with_floors amount most form = record form { more = amount; least = 0; most = most }

abbrev front_of : (id amount : Range) → Form
front_of id amount = form_of 88 (times ∷ id ∷ id ∷ id ∷ id ∷ amount ∷ amount ∷ [])

made : (version : Version) (size : ℕ) (id amount : Range) (most : ℕ) (front form : Form) → front ≡ front_of id amount → form ≡ with_floors amount most front → id ≡ ids size → amount ≡ amounts version
    → most ≡ most_floors version → form ≡ (transfers version size).form
made version size id amount most front form front_is is same greatest many =
    is ∙ ap (with_floors amount most) front_is ∙ ap (λ r. with_floors amount most (front_of r amount)) same ∙ ap (λ r. with_floors r most (front_of (ids size) r)) greatest
    ∙ ap (λ k. with_floors (amounts version) k (front_of (ids size) (amounts version))) many

pub key_of-src-requires : goal.key_of-src-requires
key_of-src-requires c =
    id_at (transfers c.args.version c.args.size).form c.with_more-form.result c.args.words.now c.read.result c.in_ok-numbers.numbers c.first.result
    (made c.args.version c.args.size c.ids-ids.result c.amounts-amounts.result c.most_floors.result c.new.result c.with_more-form.result c.new.ensures c.with_more-form.ensures c.ids-ids.ensures c.amounts-amounts.ensures c.most_floors.ensures) c.read.ensures c.in_ok-numbers.was c.first.ensures 1 c.args.size (omega arith) refl
    c.ranges.size.fits

pub key_of-dst-requires : goal.key_of-dst-requires
key_of-dst-requires c =
    id_at (transfers c.args.version c.args.size).form c.with_more-form.result c.args.words.now c.read.result c.in_ok-numbers.numbers c.first.result
    (made c.args.version c.args.size c.ids-ids.result c.amounts-amounts.result c.most_floors.result c.new.result c.with_more-form.result c.new.ensures c.with_more-form.ensures c.ids-ids.ensures c.amounts-amounts.ensures c.most_floors.ensures) c.read.ensures c.in_ok-numbers.was c.first.ensures 2 c.args.size (omega arith) refl
    c.ranges.size.fits

pub key_of-asrc-requires : goal.key_of-asrc-requires
key_of-asrc-requires c =
    id_at (transfers c.args.version c.args.size).form c.with_more-form.result c.args.words.now c.read.result c.in_ok-numbers.numbers c.first.result
    (made c.args.version c.args.size c.ids-ids.result c.amounts-amounts.result c.most_floors.result c.new.result c.with_more-form.result c.new.ensures c.with_more-form.ensures c.ids-ids.ensures c.amounts-amounts.ensures c.most_floors.ensures) c.read.ensures c.in_ok-numbers.was c.first.ensures 3 c.args.size (omega arith) refl
    c.ranges.size.fits

pub key_of-adst-requires : goal.key_of-adst-requires
key_of-adst-requires c =
    id_at (transfers c.args.version c.args.size).form c.with_more-form.result c.args.words.now c.read.result c.in_ok-numbers.numbers c.first.result
    (made c.args.version c.args.size c.ids-ids.result c.amounts-amounts.result c.most_floors.result c.new.result c.with_more-form.result c.new.ensures c.with_more-form.ensures c.ids-ids.ensures c.amounts-amounts.ensures c.most_floors.ensures) c.read.ensures c.in_ok-numbers.was c.first.ensures 4 c.args.size (omega arith) refl
    c.ranges.size.fits

-- the first seven numbers, and the floor behind them
transfer_at : (version : Version) (ns first : List ℕ) (floor : ℕ) → ((i : ℕ) → i < 7 → slice_index first i ≡ slice_index ns i) → floor ≡ slice_index ns 7
    → transfer_of version ns ≡ transfer version (slice_index first 0) (slice_index first 1) (slice_index first 2) (slice_index first 3) (slice_index first 4) (slice_index first 5) (slice_index first 6) floor
transfer_at version ns first floor at last =
    rw (at 0 (omega arith), at 1 (omega arith), at 2 (omega arith), at 3 (omega arith), at 4 (omega arith), at 5 (omega arith), at 6 (omega arith), last) refl

pub returns : goal.returns
returns c =
    let same = made c.args.version c.args.size c.ids-ids.result c.amounts-amounts.result c.most_floors.result c.new.result c.with_more-form.result c.new.ensures c.with_more-form.ensures c.ids-ids.ensures c.amounts-amounts.ensures c.most_floors.ensures in
    let form = (transfers c.args.version c.args.size).form in
    let found = read_by form c.with_more-form.result c.args.words.now c.read.result c.in_ok-numbers.numbers c.first.result same c.read.ensures c.in_ok-numbers.was c.first.ensures in
    let at = first_is form c.with_more-form.result c.args.words.now c.read.result c.in_ok-numbers.numbers c.first.result same c.read.ensures c.in_ok-numbers.was c.first.ensures in
    let floor = c.first_or_none-floor.ensures ∙ ap (λ (l : List ℕ). slice_index l 0) c.rest.ensures ∙ get_or-drop 7 c.in_ok-numbers.numbers 0 0 in
    let all = transfer_at c.args.version c.in_ok-numbers.numbers c.first.result c.first_or_none-floor.result at floor in
    let accounts : (slice_index c.first.result 1 == slice_index c.first.result 2) ≡ false = grind (arith, nat_tests) in
    let assets : (slice_index c.first.result 3 == slice_index c.first.result 4) ≡ false = grind (arith, nat_tests) in
    ap (said (transfer_of c.args.version)) found ∙ all ∙ rw (accounts, assets) (search rules)
