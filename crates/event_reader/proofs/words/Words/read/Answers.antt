use Rattle.std.proofs.Common.{sym}
use Rattle.event_reader.proofs.Forms.{read_is, read_out}
use Rattle.event_reader.proofs.words.Words.read.Goals as goal

pub returns-then-are_in : goal.returns-then-are_in
returns-then-are_in g c =
    sym
    (read_is c.args.form.now c.args.self.now c.in-Some.numbers.now c.has_form.result c.are_in.result c.has_form.ensures.form.formed c.has_form.ensures.has
    c.if-not-has_form.false c.in-Some.ensures (c.are_in.ensures) c.if-are_in.true)

pub returns-else-are_in : goal.returns-else-are_in
returns-else-are_in g c =
    sym
    (read_out c.args.form.now c.args.self.now c.in-Some.numbers.now c.has_form.result c.are_in.result c.has_form.ensures.form.formed c.has_form.ensures.has
    c.if-not-has_form.false c.in-Some.ensures (c.are_in.ensures) c.if-are_in.false)
