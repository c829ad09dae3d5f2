use Rattle.std.proofs.Common.{◌≡◌, [], ap, sym, ◌∙◌, arith, get_or}
use Rattle.event_reader.proofs.Parts.{first_here, parts_behind}
use Rattle.event_reader.proofs.words.Words.word.Goals as goal

pub places-preserved : goal.places-preserved
places-preserved c =
    parts_behind c.args.self.now c.places.rest.now c.behind_first-rest.result.now c.places.place c.places.invariant
    (omega (arith, c.requires, c.places-test.true))
    c.behind_first-rest.ensures

pub returns : goal.returns
returns c =
    let place : c.places.place ≡ c.args.i = omega (arith, c.places-test.false, c.places.auto.place-end) in
    sym (ap (λ ps. get_or ps 0 []) c.first_part.ensures)
    ∙ first_here c.args.self.now c.places.rest.now c.places.place c.places.invariant
    ∙ ap (λ n. get_or c.args.self.now n []) place
