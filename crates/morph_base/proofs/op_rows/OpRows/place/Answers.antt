use Rattle.std.proofs.Common.{sym, ap, ◌∙◌}
use Rattle.morph_base.specs.declared.op_rows.OpHead.{OpHead}
use Rattle.morph_base.specs.RowViews.{no_row_head}
use Rattle.morph_base.proofs.RowViewLaws.{inner, place_is}
use Rattle.morph_base.proofs.op_rows.OpRows.place.Goals as goal

pub get-requires : goal.get-requires
get-requires c =
    let s = c.self.inside in
    inner s.heads.items s.keys.items s.limits.items c.args.self.now c.self.view_is c.self.invariant.rows c.args.o
    c.requires

pub returns-clause-count : goal.returns-clause-count
returns-clause-count c =
    let s = c.self.inside in
    ap (λ (h : OpHead). h.place) (c.get.ensures.at no_row_head)
    ∙ sym (place_is s.heads.items s.keys.items s.limits.items c.args.self.now c.self.view_is c.self.invariant.rows
    c.args.o c.requires)
