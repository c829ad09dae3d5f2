use Rattle.std.proofs.Common.{◌≡◌, ℕ, [], ◌∷◌, map, refl, sym, ◌∙◌, ap, subst, arith}
use Rattle.event_reader.specs.declared.ranges.Range.{Range}
use Rattle.event_reader.specs.declared.version.Version.{Version}
use Rattle.event_reader.specs.Forms.{Form, form_of, said}
use Rattle.event_reader.specs.Keys.{key_of}
use Rattle.event_reader.specs.Ranges.{times, ids, amounts}
use Rattle.event_reader.specs.Reader.{GivesEvent}
use Rattle.event_reader.proofs.Forms.{read_by, first_is, id_at, rest_few, rest_ids}
use Rattle.event_reader.proofs.Heads.{said_by_keys}
use Rattle.grep_app.specs.Grep.{most_cells, gather, gather_of, sums, sum_form}
use Rattle.grep_app.specs.GrepLaws.{cells_at_most}
use Rattle.grep_app.proofs.grep.sum.Goals as goal

abbrev with_cells : Range → (most : ℕ) → Form → Form
with_cells id most form = record form { more = id; least = 1; most = most }

-- the form is that of sums
made : (version : Version) (size : ℕ) (id amount : Range) (most : ℕ) (front form : Form) → front ≡ form_of 71 (times ∷ id ∷ amount ∷ []) → form ≡ with_cells id most front → id ≡ ids size → amount ≡ amounts version
    → most ≡ most_cells version → form ≡ sum_form version size
made version size id amount most front form front_is is same greatest many =
    is ∙ ap (with_cells id most) front_is ∙ ap (λ r. with_cells r most (form_of 71 (times ∷ r ∷ amount ∷ []))) same
    ∙ ap (λ r. with_cells (ids size) most (form_of 71 (times ∷ ids size ∷ r ∷ []))) greatest ∙ ap (λ k. with_cells (ids size) k (form_of 71 (times ∷ ids size ∷ amounts version ∷ []))) many

pub keys_of-cells-requires : goal.keys_of-cells-requires
keys_of-cells-requires c =
    let form = (sums c.args.version c.args.size).form in
    let same = made c.args.version c.args.size c.ids-ids.result c.amounts.result c.most_cells.result c.new.result c.with_more-form.result c.new.ensures c.with_more-form.ensures c.ids-ids.ensures c.amounts.ensures c.most_cells.ensures in
    let few = rest_few form c.with_more-form.result c.args.words.now c.read.result c.in_ok-numbers.numbers c.first.result same c.read.ensures c.in_ok-numbers.was c.first.ensures
    c.rest-others.result.now c.rest-others.ensures in
    let most = cells_at_most c.args.version in
    let small = rest_ids form c.with_more-form.result c.args.words.now c.read.result c.in_ok-numbers.numbers c.first.result same c.read.ensures c.in_ok-numbers.was c.first.ensures
    c.rest-others.result.now c.args.size c.rest-others.ensures refl c.ranges.size.fits in
    (omega arith, (omega (arith, few, most), small))

pub key_of-target-requires : goal.key_of-target-requires
key_of-target-requires c =
    id_at (sums c.args.version c.args.size).form c.with_more-form.result c.args.words.now c.read.result c.in_ok-numbers.numbers c.first.result
    (made c.args.version c.args.size c.ids-ids.result c.amounts.result c.most_cells.result c.new.result c.with_more-form.result c.new.ensures c.with_more-form.ensures c.ids-ids.ensures c.amounts.ensures c.most_cells.ensures)
    c.read.ensures c.in_ok-numbers.was c.first.ensures 1 c.args.size (omega arith) refl c.ranges.size.fits

pub returns : goal.returns
returns c =
    let form = (sums c.args.version c.args.size).form in
    let same = made c.args.version c.args.size c.ids-ids.result c.amounts.result c.most_cells.result c.new.result c.with_more-form.result c.new.ensures c.with_more-form.ensures c.ids-ids.ensures c.amounts.ensures c.most_cells.ensures in
    let found = read_by form c.with_more-form.result c.args.words.now c.read.result c.in_ok-numbers.numbers c.first.result same c.read.ensures c.in_ok-numbers.was c.first.ensures in
    let at = first_is form c.with_more-form.result c.args.words.now c.read.result c.in_ok-numbers.numbers c.first.result same c.read.ensures c.in_ok-numbers.was c.first.ensures in
    let says = ap (said (gather_of c.args.version)) found
    ∙ said_by_keys (gather c.args.version) 0 c.in_ok-numbers.numbers c.first.result c.key_of-target.result _ at c.key_of-target.ensures
    (c.keys_of-cells.ensures ∙ ap (map (key_of 0)) c.rest-others.ensures) in
    subst (λ r. GivesEvent r c.gather.result c.gather.new.ops) (sym says) c.gather.ensures
