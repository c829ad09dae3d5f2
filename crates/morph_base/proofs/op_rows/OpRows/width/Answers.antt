use Rattle.std.proofs.Common.{sym, ap, ◌∙◌, arith}
use Rattle.morph_base.specs.declared.op_rows.OpHead.{OpHead}
use Rattle.morph_base.specs.RowViews.{no_row_head}
use Rattle.morph_base.proofs.RowViewLaws.{inner, width_is}
use Rattle.morph_base.proofs.op_rows.OpRows.width.Goals as goal

pub get-requires : goal.get-requires
get-requires c =
    let s = c.self.inside in
    inner s.heads.items s.keys.items s.limits.items c.args.self.now c.self.view_is c.self.invariant.rows c.args.o
    c.requires

pub returns-clause-count : goal.returns-clause-count
returns-clause-count c =
    let s = c.self.inside in
    c.from.ensures ∙ ap (λ (h : OpHead). h.width) (c.get.ensures.at no_row_head)
    ∙ sym (width_is s.heads.items s.keys.items s.limits.items c.args.self.now c.self.view_is c.self.invariant.rows
    c.args.o c.requires)

pub returns-clause-some : goal.returns-clause-some
returns-clause-some c =
    let s = c.self.inside in
    let lt = inner s.heads.items s.keys.items s.limits.items c.args.self.now c.self.view_is c.self.invariant.rows
    c.args.o c.requires in
    omega (
      arith,
      c.from.ensures,
      ap (λ (h : OpHead). h.width) (c.get.ensures.at no_row_head),
      c.self.invariant.rows.some c.args.o lt,
    )

pub returns-clause-few : goal.returns-clause-few
returns-clause-few c =
    let s = c.self.inside in
    let lt = inner s.heads.items s.keys.items s.limits.items c.args.self.now c.self.view_is c.self.invariant.rows
    c.args.o c.requires in
    omega (
      arith,
      c.from.ensures,
      ap (λ (h : OpHead). h.width) (c.get.ensures.at no_row_head),
      c.self.invariant.rows.few c.args.o lt,
    )
