use Rattle.std.proofs.Common.{◌+◌, ◌++◌, ap, sym, ◌∙◌, arith, append-nil, append_assoc}
use Rattle.run_text.specs.Text.{lines_between}
use Rattle.run_text.proofs.EventLines.{line_at}
use Rattle.run_text.proofs.Pieces.{number_more, numbers_none}
use Rattle.run_text.proofs.lines.lines_in_memory.Goals as goal

pub loop-i-preserved : goal.loop-i-preserved
loop-i-preserved c =
    let p = c.args.plan.now in
    let r = c.args.settled.now in
    let rest = lines_between p r (c.loop-i.i + 1) c.args.end in
    ap (λ text. text ++ rest) (c.in_ok-extend_from_slice.ensures.items ∙ ap (λ l. c.loop-i.text.items ++ l)
    (c.bytes.ensures.bytes ∙ c.whole_line.ensures))
    ∙ append_assoc c.loop-i.text.items (line_at p r c.loop-i.i) rest
    ∙ ap (λ l. c.loop-i.text.items ++ l) (sym (number_more (line_at p r) c.args.end c.loop-i.i c.loop-i-test.true))
    ∙ c.loop-i.invariant

pub returns : goal.returns
returns c =
    sym (append-nil c.loop-i.text.items)
    ∙ ap (λ l. c.loop-i.text.items ++ l) (sym (numbers_none (line_at c.args.plan.now c.args.settled.now) c.args.end c.loop-i.i (omega (arith, c.loop-i-test.false))))
    ∙ c.loop-i.invariant
