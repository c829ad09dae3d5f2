use Rattle.std.proofs.Common.{◌≡◌, ℕ, take, drop, sym, ap, ◌∙◌, arith}
use Rattle.morph_base.specs.OpRows.{keys_before}
use Rattle.morph_base.specs.OpParts.{origins_in}
use Rattle.morph_base.specs.OpViews.{words_of}
use Rattle.morph_base.proofs.OpViewLaws.{in_rows, inside_is, origins_are}
use Rattle.morph_base.proofs.plan_ops.PlanOps.origins.Goals as goal

pub place-place-requires : goal.place-place-requires
place-place-requires c = in_rows c.self.inside c.args.self.now c.self.view_is c.self.invariant c.args.o c.requires

pub width-requires : goal.width-requires
width-requires c = in_rows c.self.inside c.args.self.now c.self.view_is c.self.invariant c.args.o c.requires

pub row_of-requires : goal.row_of-requires
row_of-requires c =
    let s = c.self.inside in
    omega (arith, c.place-place.ensures.count, c.width.ensures.count, inside_is s c.args.self.now c.self.view_is c.self.invariant c.args.o c.requires)

pub returns : goal.returns
returns c =
    let s = c.self.inside in
    let words : c.row_of.result.now ≡ words_of s.rows s.places.items c.args.o
    = c.row_of.ensures
    ∙ ap (λ (n : ℕ). take c.width.result (drop n s.places.items)) c.place-place.ensures.count
    ∙ ap (λ (n : ℕ). take n (drop (keys_before s.rows c.args.o) s.places.items)) c.width.ensures.count in
    c.origins_in.ensures ∙ ap origins_in words
    ∙ sym (origins_are s c.args.self.now c.self.view_is c.self.invariant c.args.o c.requires)
