use Rattle.std.proofs.Common.{◌∙◌, ap, arith, Ok}
use Rattle.morph_base.specs.declared.operation.Func.TheVariants.{Sum}
use Rattle.event_reader.specs.Versions.{op_in}
use Rattle.event_reader.proofs.Heads.{headed_ops}
use Rattle.event_reader.proofs.LineKeys.{refused_again, refused_twice, not_refused}
use Rattle.grep_app.specs.Grep.{keep, gathering}
use Rattle.grep_app.proofs.grep.gather.Goals as goal
use Rattle.grep_app.proofs.grep.gather.Goals.{then-has_key-via-then-has_key, then-has_key-via-else-has_key+then-not-are_distinct}

pub returns-then-has_key : goal.returns-then-has_key
returns-then-has_key c =
    let event = gathering c.args.version c.args.ts c.args.limit c.args.target c.args.cells.now in elim c.then-has_key.branch [
      | then-has_key-via-then-has_key w ↦ refused_again c.args.target c.args.cells.now event c.has_key.result c.has_key.ensures w.if-has_key.true
      | then-has_key-via-else-has_key+then-not-are_distinct w ↦ refused_twice c.args.target c.args.cells.now event c.has_key.result c.has_key.ensures w.are_distinct.result
          w.if-has_key.false w.are_distinct.ensures w.if-not-are_distinct.true
    ]

pub returns : goal.returns
returns c =
    not_refused c.args.target c.args.cells.now (gathering c.args.version c.args.ts c.args.limit c.args.target c.args.cells.now) c.has_key.result c.has_key.ensures c.are_distinct.result
    c.if-has_key.false c.are_distinct.ensures c.if-not-are_distinct.false
    ∙ ap Ok (headed_ops c.args.ts (op_in c.args.version Sum c.args.target c.args.cells.now c.args.limit) (keep c.args.version) c.args.cells.now c.loop-cell.cell-index c.loop-cell.ops
    (omega (arith, c.loop-cell-test.false)) c.loop-cell.invariant.items)
