use Rattle.std.proofs.Common.{◌≤◌, ◌∙◌, length, drop, sym, arith}
use Rattle.std.proofs.lemmas.List.{take_rest}
use Rattle.morph_io.proofs.RepeatedLine.{left_from_given}
use Rattle.morph_io.proofs.repeat_source.RepeatSourceSource.read.Goals as goal

pub returns-clause-bytes : goal.returns-clause-bytes
returns-clause-bytes c =
    let same = rw c.as_slice.ensures at c.next_place-at.ensures.same in
    let count = rw (c.as_slice-2.ensures, take_rest) at c.min-count.ensures in
    let given = rw (c.as_slice-2.ensures, take_rest) at c.copy_to.ensures in
    let short : c.min-count.result ≤ length (drop c.next_place-at.result.0 c.self.inside.line.items) = omega (arith, count) in
    sym c.self.view_is ∙ sym same ∙ left_from_given _ _ _ _ _ _ short given
