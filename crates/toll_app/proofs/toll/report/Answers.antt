use Rattle.std.proofs.Common.{◌≡◌, ℕ, [], ◌∷◌, refl, ◌∙◌, ap, arith, rules}
use Rattle.event_reader.specs.declared.ranges.Range.{Range}
use Rattle.event_reader.specs.declared.version.Version.{Version}
use Rattle.event_reader.specs.Forms.{Form, form_of, said}
use Rattle.event_reader.specs.Ranges.{times, ids}
use Rattle.event_reader.proofs.Forms.{read_by, first_all, first_at, id_at}
use Rattle.toll_app.specs.Toll.{segments, miles, reports, report_of}
use Rattle.toll_app.proofs.toll.report.Goals as goal

-- the form is that of reports
made : (version : Version) (size : ℕ) (id segment : Range) (form : Form) → form ≡ form_of 84 (times ∷ id ∷ segment ∷ miles ∷ []) → id ≡ ids size → segment ≡ segments size
    → form ≡ (reports version size).form
made version size id segment form is same same' =
    is ∙ ap (λ r. form_of 84 (times ∷ r ∷ segment ∷ miles ∷ [])) same ∙ ap (λ r. form_of 84 (times ∷ ids size ∷ r ∷ miles ∷ [])) same'

pub key-average-requires : goal.key-average-requires
key-average-requires c =
    let at = first_at (reports c.args.version c.args.size).form c.new.result c.args.words.now c.read.result c.in_ok-numbers.numbers c.first.result
    (made c.args.version c.args.size c.ids.result c.segments.result c.new.result c.new.ensures c.ids.ensures c.segments.ensures) c.read.ensures c.in_ok-numbers.was c.first.ensures
    2 (segments c.args.size) (omega arith) refl in
    omega (arith, at.0, at.1)

pub key-place-requires : goal.key-place-requires
key-place-requires c =
    id_at (reports c.args.version c.args.size).form c.new.result c.args.words.now c.read.result c.in_ok-numbers.numbers c.first.result
    (made c.args.version c.args.size c.ids.result c.segments.result c.new.result c.new.ensures c.ids.ensures c.segments.ensures) c.read.ensures c.in_ok-numbers.was c.first.ensures
    1 c.args.size (omega arith) refl c.ranges.size.fits

pub overflow_mul-speed : goal.overflow_mul-speed
overflow_mul-speed c =
    let at = first_at (reports c.args.version c.args.size).form c.new.result c.args.words.now c.read.result c.in_ok-numbers.numbers c.first.result
    (made c.args.version c.args.size c.ids.result c.segments.result c.new.result c.new.ensures c.ids.ensures c.segments.ensures) c.read.ensures c.in_ok-numbers.was c.first.ensures
    3 miles (omega arith) refl in
    omega (arith, at.0, at.1)

pub returns : goal.returns
returns c =
    let same = made c.args.version c.args.size c.ids.result c.segments.result c.new.result c.new.ensures c.ids.ensures c.segments.ensures in
    let form = (reports c.args.version c.args.size).form in
    let found = read_by form c.new.result c.args.words.now c.read.result c.in_ok-numbers.numbers c.first.result same c.read.ensures c.in_ok-numbers.was c.first.ensures in
    let all = first_all form c.new.result c.args.words.now c.read.result c.in_ok-numbers.numbers c.first.result same c.read.ensures c.in_ok-numbers.was c.first.ensures refl in
    ap (said (report_of c.args.version)) found ∙ ap (report_of c.args.version) all ∙ search rules
