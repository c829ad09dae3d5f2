use Rattle.std.proofs.Common.{◌≡◌, ℕ, ◌+◌, get_or, sym, ap, ◌∙◌, arith}
use Rattle.morph_base.specs.Operations.{no_key}
use Rattle.morph_base.specs.RowViews.{row_head_at}
use Rattle.morph_base.proofs.RowViewLaws.{keys_are, place_is, key_is}
use Rattle.morph_base.proofs.op_rows.OpRows.key_at.Goals as goal

pub get-requires : goal.get-requires
get-requires c =
    let s = c.self.inside in
    omega (arith, c.requires, keys_are s.heads.items s.keys.items s.limits.items c.args.self.now c.self.view_is c.self.invariant.rows)

pub returns : goal.returns
returns c o j lt kept is =
    let s = c.self.inside in
    let rows = c.self.invariant.rows in
    let place : c.args.place ≡ (row_head_at s.heads.items o).place + j
    = is ∙ ap (λ (n : ℕ). n + j) (place_is s.heads.items s.keys.items s.limits.items c.args.self.now c.self.view_is rows o lt) in
    c.get.ensures.at no_key ∙ ap (λ (i : ℕ). get_or s.keys.items i no_key) place
    ∙ sym (key_is s.heads.items s.keys.items s.limits.items c.args.self.now c.self.view_is rows o lt j kept)
