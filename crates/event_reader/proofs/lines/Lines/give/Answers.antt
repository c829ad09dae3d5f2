use Rattle.std.proofs.Common.{◌+◌, ◌≤◌, arith}
use Rattle.std.proofs.lemmas.List.Edits.{length-between}
use Rattle.event_reader.proofs.BufferParts.{range_rest, range_first, view_of}
use Rattle.event_reader.proofs.lines.Lines.give.Goals as goal

pub returns-clause-gives : goal.returns-clause-gives
returns-clause-gives c =
    let inner = c.self.inside in
    let held = rw (← c.self.view_is) at c.requires.held in
    let inside : inner.start + c.args.used ≤ inner.end
    = omega (arith, held, length-between inner.buffer.items inner.start inner.end (omega arith)) in
    rw (← c.self.view_is)
    (view_of _ _ _ _ _ _ _ _ _ (range_rest inner.buffer.items inner.start inner.end c.args.used inside)
    (range_first inner.buffer.items inner.start inner.end c.args.len (omega arith)))
