use Rattle.std.proofs.Common.{sym, ◌∙◌}
use Rattle.morph_base.proofs.RowViewLaws.{count_is}
use Rattle.morph_base.proofs.op_rows.OpRows.len.Goals as goal

pub returns : goal.returns
returns c =
    let s = c.self.inside in
    c.len.ensures ∙ sym (count_is s.heads.items s.keys.items s.limits.items c.args.self.now c.self.view_is
    c.self.invariant.rows)
