use Rattle.std.proofs.Common.{◌<◌, ◌≤◌, ℕ, List, sym, subst, ◌∙◌, take, length, le_trans, arith}
use Rattle.std.proofs.lemmas.List.{length-take, get_or-take}
use Rattle.std.proofs.lemmas.List.Elements.{All-from_get_or}
use Rattle.morph_base.specs.declared.limits.TheConstants.{MAX}
use Rattle.morph_base.proofs.BoundLaws.{high_of-small}
use Rattle.interleaving_core.proofs.Sources.{settled_small}
use Rattle.morph_base.specs.Plans.{keys_of}
use Rattle.interleaving_core.specs.Core.{value_in}
use Rattle.interleaving_core.specs.Stored.{core_of}
use Rattle.interleaving_core.proofs.Places.{read_sources}
use Rattle.interleaving_core.proofs.state.CoreState.answer.Goals as goal

pub returns : goal.returns
returns c =
    let long : c.places_of-places.result ≤ length c.loop-j.values = (let few = c.places_of-places.ensures.few in omega (arith, few)) in
    c.eval.ensures.value
    ∙ read_sources c.args.plan.now (value_in (core_of c.args.self.now)) c.args.op c.places_of-places.result c.loop-j.j c.loop-j.values c.requires.plan c.requires.op
    c.places_of-places.ensures.places c.loop-j-test.false long c.loop-j.invariant.1

pub eval-requires-clause-values : goal.eval-requires-clause-values
eval-requires-clause-values c =
    let p = c.args.plan.now in
    let n : ℕ = c.places_of-places.result in
    let values : List ℕ = c.loop-j.values in
    All-from_get_or (λ x. x ≤ MAX) (take n values) 0
    (λ k below.
    let in_n : k < n = omega (arith, length-take n values) in
    let is = get_or-take n values k 0 in_n ∙ c.loop-j.invariant.1 k (omega (arith, c.loop-j-test.false)) in
    let in_places : k < length (keys_of p c.args.op) = omega (arith, c.places_of-places.ensures.places) in
    subst (λ x. x ≤ MAX) (sym is)
    (le_trans (settled_small p c.args.self.now.cap c.requires.plan (core_of c.args.self.now) c.requires.state.sound c.args.op k c.requires.op in_places (c.requires.settled k in_places)) (high_of-small p c.requires.plan)))
