use Rattle.std.proofs.Common.{sym, ◌∙◌, true, false}
use Rattle.event_reader.proofs.Forms.{range_step, ranges_end}
use Rattle.event_reader.proofs.form.Form.are_in.Goals as goal

pub returns-then-not-contains : goal.returns-then-not-contains
returns-then-not-contains g c =
    sym
    (c.places.invariant
    ∙ range_step c.args.self.now c.args.numbers.now c.places.i c.range.result c.contains.result false c.requires c.places-test.true c.range.ensures c.contains.ensures c.if-not-contains.true)

pub places-preserved : goal.places-preserved
places-preserved g c =
    c.places.invariant
    ∙ range_step c.args.self.now c.args.numbers.now c.places.i c.range.result c.contains.result true c.requires c.places-test.true c.range.ensures c.contains.ensures c.if-not-contains.false

pub returns : goal.returns
returns g c = sym (c.places.invariant ∙ ranges_end c.args.self.now c.args.numbers.now c.places.i c.requires c.places-test.false)
