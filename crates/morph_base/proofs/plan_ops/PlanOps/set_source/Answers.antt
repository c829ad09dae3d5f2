use Rattle.std.proofs.Common.{ℕ, ◌+◌, ◌<◌, length, set, ap, ◌∙◌, arith}
use Rattle.std.specs.Prelude.{slice_index_or}
use Rattle.morph_base.specs.declared.plan.Origin.{Origin}
use Rattle.morph_base.specs.Plans.{no_plan_op}
use Rattle.morph_base.specs.OpLists.{with_origin}
use Rattle.morph_base.specs.OpRows.{keys_before}
use Rattle.morph_base.proofs.OpViewLaws.{in_rows, place_inside, sourced_view, sourced_are}
use Rattle.morph_base.proofs.plan_ops.PlanOps.set_source.Goals as goal

pub place-place-requires : goal.place-place-requires
place-place-requires c = in_rows c.self.inside c.args.self.now c.self.view_is c.self.invariant c.args.o c.requires.inside

pub set-requires : goal.set-requires
set-requires c =
    let s = c.self.inside in
    let inside : keys_before s.rows c.args.o + c.args.j < length s.places.items
    = place_inside s c.args.self.now c.self.view_is c.self.invariant c.args.o c.requires.inside c.args.j c.requires.place in
    omega (arith, c.place-place.ensures.count, inside)

pub overflow_add-place : goal.overflow_add-place
overflow_add-place c =
    let s = c.self.inside in
    let inside : keys_before s.rows c.args.o + c.args.j < length s.places.items
    = place_inside s c.args.self.now c.self.view_is c.self.invariant c.args.o c.requires.inside c.args.j c.requires.place in
    omega (arith, c.place-place.ensures.count, inside, c.self.invariant.fits)

pub returns : goal.returns
returns c =
    let s = c.self.inside in
    let v = c.args.self.now in
    let word : ℕ = c.word_of.result in
    sourced_view s v c.self.view_is c.self.invariant c.args.o c.requires.inside c.args.j word
    c.requires.place c.set.new.self
    (c.set.ensures.items ∙ ap (λ (i : ℕ). set s.places.items (i + c.args.j) word) c.place-place.ensures.count)
    ∙ ap (λ (origin : Origin). record v { items = set v.items c.args.o (with_origin (slice_index_or v.items c.args.o no_plan_op) c.args.j origin) }) c.word_of.ensures

pub invariant_of-self : goal.invariant_of-self
invariant_of-self c =
    let s = c.self.inside in
    sourced_are s c.args.self.now c.self.view_is c.self.invariant c.args.o c.requires.inside c.args.j c.word_of.result
    c.requires.place c.set.new.self
    (c.set.ensures.items ∙ ap (λ (i : ℕ). set s.places.items (i + c.args.j) c.word_of.result) c.place-place.ensures.count)
