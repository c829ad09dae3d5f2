use Rattle.std.proofs.Common.{◌≡◌, ◌<◌, ◌≢◌, ap, ◌∙◌, sym, subst, arith, length, get_or, below_more, length-set, get_or-set_same, get_or-set_other}
use Rattle.morph_base.specs.Clean.{from, source}
use Rattle.morph_base.specs.Known.{IsKnown}
use Rattle.morph_base.specs.Plans.{keys_of, final}
use Rattle.abort_lazy.proofs.Made.{places_some}
use Rattle.abort_lazy.proofs.Reading.{source_known, source_read, front_read}
use Rattle.abort_lazy.proofs.sources.read_settled.Goals as goal

pub value_in-requires : goal.value_in-requires
value_in-requires c =
    let p = c.args.plan.now in
    let o = c.args.o in
    let places = c.places-j-end.ensures.count in
    let place : c.loop-j.j < length (keys_of p o) = omega (arith, places, c.loop-j-test.true) in
    let at_place = c.origin.ensures in
    subst (IsKnown (λ t. t < length c.args.values.now.items)) (sym at_place) (source_known p o c.loop-j.j c.args.values.now.items c.requires.plan c.requires.op place c.requires.values)

pub loop-j-preserved : goal.loop-j-preserved
loop-j-preserved c =
    let p = c.args.plan.now in
    let o = c.args.o in
    let j = c.loop-j.j in
    let xs = c.loop-j.xs in
    let places = c.places-j-end.ensures.count in
    let place : c.loop-j.j < length (keys_of p o) = omega (arith, places, c.loop-j-test.true) in
    let at_place = c.origin.ensures in
    let few = (places_some p o c.requires.plan c.requires.op).1 in
    let is_read : c.value_in.result ≡ source p (final p) o j =
    c.value_in.ensures ∙ ap (from (λ t. get_or c.args.values.now.items t 0)) at_place ∙ source_read p o j c.args.values.now.items c.requires.plan c.requires.op place c.requires.values in
    record {
      read = below_more _ _
          (λ k less. let apart : k ≢ j = omega arith in get_or-set_other xs j k c.value_in.result 0 apart ∙ c.loop-j.invariant.read k less)
          (let inside : j < length xs = omega (arith, c.loop-j.invariant.len) in get_or-set_same xs j c.value_in.result 0 inside ∙ is_read);
      len = length-set xs j c.value_in.result ∙ c.loop-j.invariant.len;
    }

pub returns-clause-values : goal.returns-clause-values
returns-clause-values c =
    let p = c.args.plan.now in
    let o = c.args.o in
    let places = c.places-j-end.ensures.count in
    front_read p o c.loop-j.xs c.requires.plan c.requires.op (omega (arith, c.loop-j.invariant.len, (places_some p o c.requires.plan c.requires.op).1))
    (λ k place. c.loop-j.invariant.read k (omega (arith, places, c.loop-j-test.false)))
