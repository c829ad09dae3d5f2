use Rattle.std.proofs.Common.{ℕ, ◌+◌, ◌<◌, length, get_or, sym, ap, ◌∙◌, arith}
use Rattle.morph_base.specs.OpRows.{keys_before}
use Rattle.morph_base.specs.OpParts.{origin_of}
use Rattle.morph_base.proofs.OpViewLaws.{in_rows, origin_is, place_inside}
use Rattle.morph_base.proofs.plan_ops.PlanOps.origin.Goals as goal

pub place-place-requires : goal.place-place-requires
place-place-requires c = in_rows c.self.inside c.args.self.now c.self.view_is c.self.invariant c.args.o c.requires.inside

pub overflow_add-place : goal.overflow_add-place
overflow_add-place c =
    let s = c.self.inside in
    let inside : keys_before s.rows c.args.o + c.args.j < length s.places.items
    = place_inside s c.args.self.now c.self.view_is c.self.invariant c.args.o c.requires.inside c.args.j c.requires.place in
    omega (arith, c.place-place.ensures.count, inside, c.self.invariant.fits)

pub get-requires : goal.get-requires
get-requires c =
    let s = c.self.inside in
    let inside : keys_before s.rows c.args.o + c.args.j < length s.places.items
    = place_inside s c.args.self.now c.self.view_is c.self.invariant c.args.o c.requires.inside c.args.j c.requires.place in
    omega (arith, c.place-place.ensures.count, inside)

pub returns : goal.returns
returns c =
    let s = c.self.inside in
    c.origin_of.ensures
    ∙ ap origin_of (c.get.ensures.at 0 ∙ ap (λ (i : ℕ). get_or s.places.items (i + c.args.j) 0) c.place-place.ensures.count)
    ∙ sym (origin_is s c.args.self.now c.self.view_is c.self.invariant c.args.o c.requires.inside c.args.j c.requires.place)
