use Rattle.std.proofs.Common.{◌≡◌, length, subst, sym, ◌∙◌, arith}
use Rattle.morph_base.specs.Flat.{contents}
use Rattle.morph_base.specs.OpRows.{keys_before}
use Rattle.morph_base.specs.OpFills.{AreKeysIn, AreFilled}
use Rattle.morph_base.proofs.OpViewLaws.{places_are, first_places, keys_are_in, filled_view, filled_inside}
use Rattle.morph_base.proofs.plan_ops.PlanOps.fill_bases.Goals as goal

pub fill_words-requires-clause-rows : goal.fill_words-requires-clause-rows
fill_words-requires-clause-rows c =
    let end : c.all_places-end.result ≡ keys_before c.self.inside.rows (length c.self.inside.marks.items)
    = c.all_places-end.ensures.count ∙ places_are c.self.inside c.args.self.now c.self.view_is c.self.invariant in
    omega (arith, end, first_places c.self.inside c.args.self.now c.self.view_is c.self.invariant)

pub fill_words-requires-clause-places : goal.fill_words-requires-clause-places
fill_words-requires-clause-places c =
    let end : c.all_places-end.result ≡ keys_before c.self.inside.rows (length c.self.inside.marks.items)
    = c.all_places-end.ensures.count ∙ places_are c.self.inside c.args.self.now c.self.view_is c.self.invariant in
    omega (arith, end, first_places c.self.inside c.args.self.now c.self.view_is c.self.invariant, c.self.invariant.whole)

pub fill_words-requires-clause-keys : goal.fill_words-requires-clause-keys
fill_words-requires-clause-keys c =
    let end : c.all_places-end.result ≡ keys_before c.self.inside.rows (length c.self.inside.marks.items)
    = c.all_places-end.ensures.count ∙ places_are c.self.inside c.args.self.now c.self.view_is c.self.invariant in
    subst (AreKeysIn c.args.values.now.layout c.self.inside.rows) (sym end)
    (keys_are_in c.self.inside c.args.self.now c.self.view_is c.self.invariant c.args.values.now.layout c.requires)

pub returns : goal.returns
returns c =
    let end : c.all_places-end.result ≡ keys_before c.self.inside.rows (length c.self.inside.marks.items)
    = c.all_places-end.ensures.count ∙ places_are c.self.inside c.args.self.now c.self.view_is c.self.invariant in
    let s = c.self.inside in
    filled_view s c.args.self.now c.self.view_is c.self.invariant (contents c.args.values.now) c.fill_words.new.places
    (subst (λ n. AreFilled (contents c.args.values.now) s.rows n s.places.items c.fill_words.new.places.items) end c.fill_words.ensures.filled)

pub invariant_of-self : goal.invariant_of-self
invariant_of-self c =
    let end : c.all_places-end.result ≡ keys_before c.self.inside.rows (length c.self.inside.marks.items)
    = c.all_places-end.ensures.count ∙ places_are c.self.inside c.args.self.now c.self.view_is c.self.invariant in
    let s = c.self.inside in
    filled_inside s c.args.self.now c.self.view_is c.self.invariant (contents c.args.values.now) c.fill_words.new.places
    (subst (λ n. AreFilled (contents c.args.values.now) s.rows n s.places.items c.fill_words.new.places.items) end c.fill_words.ensures.filled)
