use Rattle.std.proofs.Common.{sym, ap, ◌∙◌}
use Rattle.morph_base.specs.declared.op_rows.OpHead.{OpHead}
use Rattle.morph_base.specs.declared.op_rows.OpLimits.{OpLimits}
use Rattle.morph_base.specs.Operations.{limited_to}
use Rattle.morph_base.specs.RowViews.{no_row_head, row_limits_at, key_row, op_headed, op_made}
use Rattle.morph_base.proofs.RowViewLaws.{inner, made_is}
use Rattle.morph_base.proofs.op_rows.OpRows.get.Goals as goal

pub get-head-requires : goal.get-head-requires
get-head-requires c =
    let s = c.self.inside in
    inner s.heads.items s.keys.items s.limits.items c.args.self.now c.self.view_is c.self.invariant.rows c.args.o
    c.requires

pub returns : goal.returns
returns c =
    let s = c.self.inside in
    let h : OpHead = c.get-head.result.now in
    let l : OpLimits = c.limits_at-low.result in
    let o = c.args.o in
    c.limited.ensures.parts
    ∙ ap (limited_to l.low l.high) (c.op_in.ensures ∙ ap (op_headed h) c.row_of.ensures)
    ∙ ap (λ (x : OpLimits). op_made x h (key_row h s.keys.items)) c.limits_at-low.ensures
    ∙ ap (λ (x : OpHead). op_made (row_limits_at s.limits.items o) x (key_row x s.keys.items))
    (c.get-head.ensures.at no_row_head)
    ∙ sym (made_is s.heads.items s.keys.items s.limits.items c.args.self.now c.self.view_is c.self.invariant.rows o
    c.requires)
