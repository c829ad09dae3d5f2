use Rattle.std.proofs.Common.{◌++◌, drop, sym, ◌∙◌, ap, arith}
use Rattle.std.proofs.lemmas.List.{take_rest}
use Rattle.event_reader.proofs.GeneratedLines.{part_given}
use Rattle.event_reader.proofs.gen_source.GenSourceSource.read.Goals as goal

pub returns-clause-bytes : goal.returns-clause-bytes
returns-clause-bytes g c =
    let n = c.min-count.result in
    let line = c.self.inside.line in
    let count = rw (c.bytes.ensures.bytes, take_rest) at c.min-count.ensures in
    let copied = rw (c.bytes.ensures.bytes, take_rest) at c.copy_from_slice.ensures.after in
    sym c.begin_line.ensures.same
    ∙ rw (← c.self.view_is)
    (part_given line (drop n c.args.buf.now) (c.copy_from_slice.new.self ++ drop n c.args.buf.now) _ c.self.inside.at n (omega (arith, count)) (ap (λ front. front ++ drop n c.args.buf.now) copied))
