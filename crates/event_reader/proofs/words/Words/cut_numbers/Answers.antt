use Rattle.std.proofs.Common.{length, arith}
use Rattle.event_reader.specs.Words.{parts_of}
use Rattle.event_reader.proofs.NumberLists.{not_all_numbers}
use Rattle.event_reader.proofs.words.Words.cut_numbers.Goals as goal

pub returns-then-self : goal.returns-then-self
returns-then-self c =
    rw (← c.self.view_is)
    (not_all_numbers (parts_of c.self.inside.line.now) (length c.self.inside.numbers.now) (omega (arith, c.if-self.true, c.self.invariant.all))
    (c.self.invariant.stops c.if-self.true))
