use Rattle.std.proofs.Common.{[]}
use Rattle.snapshot_reader.specs.Whole.{IsStateAfter}
use Rattle.snapshot_reader.proofs.Opens.{opens, first_keeps}
use Rattle.snapshot_reader.proofs.setup.writer.Goals as goal

pub new-requires-clause-rule : goal.new-requires-clause-rule
new-requires-clause-rule c =
    let b = c.in_ok-first.first in
    first_keeps b (opens c.args.layout b c.in_ok-first.ensures.layout c.in_ok-first.ensures.number c.in_ok-first.ensures.values)

pub returns-clause-steady : goal.returns-clause-steady
returns-clause-steady c =
    let b = c.in_ok-first.first in
    let e = c.in_ok-new.ensures in
    let whole : IsStateAfter b [] = opens c.args.layout b c.in_ok-first.ensures.layout c.in_ok-first.ensures.number c.in_ok-first.ensures.values in
    record {
      whole = rw (e.0, e.2) whole;
      none = e.1;
    }
