use Rattle.std.proofs.Common.{sym, ap, ◌∙◌}
use Rattle.abort_eager.specs.Targets.{is_among}
use Rattle.abort_eager.proofs.Placing.{found_place, no_place, place_over}
use Rattle.abort_eager.proofs.search.place_from.Goals as goal

pub returns-then-is_one_of : goal.returns-then-is_one_of
returns-then-is_one_of c =
    let is = ap (is_among c.args.first c.args.end) (sym c.origin.ensures) ∙ sym c.is_one_of.ensures ∙ c.if-is_one_of.true in
    found_place _ _ _ _ _ _ _ c.places_of-count.ensures.places c.loop-j.invariant c.places_of-count.type_inv c.loop-j-test.true is

pub loop-j-preserved : goal.loop-j-preserved
loop-j-preserved c =
    let is = ap (is_among c.args.first c.args.end) (sym c.origin.ensures) ∙ sym c.is_one_of.ensures ∙ c.if-is_one_of.false in
    c.loop-j.invariant ∙ place_over _ _ _ _ _ _ c.loop-j-test.true is

pub returns : goal.returns
returns c = no_place _ _ _ _ _ _ _ c.places_of-count.ensures.places c.loop-j.invariant c.loop-j-test.false
