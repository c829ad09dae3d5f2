-- Where a call gives nothing, no byte is left, since a piece and the buffer have room for one.
use Rattle.std.proofs.Common.{◌+◌, ◌≤◌, length, ap, arith}
use Rattle.std.proofs.lemmas.List.{drop_all, take_rest, length-drop}
use Rattle.morph_io.proofs.mem_source.MemSourceSource.read.Goals as goal

pub returns-clause-end : goal.returns-clause-end
returns-clause-end c = λ none.
    let given = simp (take_rest, length-drop) at c.min.ensures in
    let bytes = ap length c.as_slice-2.ensures in
    let room = c.requires in
    let past : length c.self.inside.bytes.items ≤ c.self.inside.at + c.min-count.result =
    omega (arith, c.min-count.ensures, given, bytes, c.self.invariant.0) in
    drop_all _ _ past
