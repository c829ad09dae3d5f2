use Rattle.std.proofs.Common.{subst, sym, arith}
use Rattle.morph_base.specs.Operations.{InLayout}
use Rattle.morph_base.proofs.OpFillLaws.{RowPlace, row_place}
use Rattle.std.proofs.Common.{length}
use Rattle.morph_base.proofs.plan_ops.fill_word.Goals as goal

pub get-requires-in-Base : goal.get-requires-in-Base
get-requires-in-Base c =
    let at : RowPlace c.args.rows.now c.args.place
    = row_place c.args.rows.now (length c.args.rows.now) c.args.place (omega arith) c.requires.rows in
    subst (InLayout c.args.values.now.layout) (sym (c.key_at.ensures at.row at.column at.inside at.kept at.is))
    (c.requires.keys at.row at.column at.inside at.kept (omega (arith, at.is)))
