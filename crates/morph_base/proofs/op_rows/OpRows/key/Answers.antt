use Rattle.std.proofs.Common.{◌≡◌, ℕ, ◌+◌, get_or, sym, ap, ◌∙◌, arith}
use Rattle.morph_base.specs.declared.op_rows.OpHead.{OpHead}
use Rattle.morph_base.specs.Operations.{no_key}
use Rattle.morph_base.specs.RowViews.{no_row_head, row_head_at}
use Rattle.morph_base.proofs.RowViewLaws.{inner, inside_is, key_is}
use Rattle.morph_base.proofs.op_rows.OpRows.key.Goals as goal

pub get-requires : goal.get-requires
get-requires c =
    let s = c.self.inside in
    inner s.heads.items s.keys.items s.limits.items c.args.self.now c.self.view_is c.self.invariant.rows c.args.o
    c.requires.inside

pub overflow_add-place : goal.overflow_add-place
overflow_add-place c =
    let s = c.self.inside in
    let head : c.get.result.now.place ≡ (row_head_at s.heads.items c.args.o).place
    = ap (λ (h : OpHead). h.place) (c.get.ensures.at no_row_head) in
    let inside = inside_is s.heads.items s.keys.items s.limits.items c.args.self.now c.self.view_is
    c.self.invariant.rows
    c.args.o c.requires.inside c.args.j c.requires.place in
    omega (arith, head, inside, c.self.invariant.fits)

pub get-requires-2 : goal.get-requires-2
get-requires-2 c =
    let s = c.self.inside in
    let head : c.get.result.now.place ≡ (row_head_at s.heads.items c.args.o).place
    = ap (λ (h : OpHead). h.place) (c.get.ensures.at no_row_head) in
    let inside = inside_is s.heads.items s.keys.items s.limits.items c.args.self.now c.self.view_is
    c.self.invariant.rows
    c.args.o c.requires.inside c.args.j c.requires.place in
    omega (arith, head, inside)

pub returns : goal.returns
returns c =
    let s = c.self.inside in
    let head : c.get.result.now.place + c.args.j ≡ (row_head_at s.heads.items c.args.o).place + c.args.j
    = ap (λ (h : OpHead). h.place + c.args.j) (c.get.ensures.at no_row_head) in
    c.get-2.ensures.at no_key ∙ ap (λ (i : ℕ). get_or s.keys.items i no_key) head
    ∙ sym (key_is s.heads.items s.keys.items s.limits.items c.args.self.now c.self.view_is c.self.invariant.rows
    c.args.o c.requires.inside c.args.j c.requires.place)
