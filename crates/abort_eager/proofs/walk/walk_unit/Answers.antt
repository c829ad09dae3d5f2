use Rattle.std.proofs.Common.{true, refl}
use Rattle.chain_units.proofs.Entering.{unit_inside}
use Rattle.abort_eager.proofs.UnitWalks.{not_evaluated, stands_there, visited_at, stopped_at, none_left, unit_walked}
use Rattle.abort_eager.proofs.walk.walk_unit.Goals as goal

pub loop-i-init : goal.loop-i-init
loop-i-init g c = (c.requires.can, λ u all. all)

pub visit-requires-clause-in_range : goal.visit-requires-clause-in_range
visit-requires-clause-in_range g c = unit_inside _ _ c.requires.ground.units _ _ c.ops-unit.ensures _ c.loop-i-test.true

pub loop-i-preserved : goal.loop-i-preserved
loop-i-preserved g c = (c.visit.ensures.can, λ u all. c.loop-i.invariant.1 u (visited_at _ _ _ _ _ u _ true c.loop-i-test.true c.in-Evaluated.ensures.visits refl all))

pub returns-clause-walks : goal.returns-clause-walks
returns-clause-walks g c =
    unit_walked _ _ _ _ _ _ _ _ c.ops-unit.ensures (stands_there _ _ _ _ c.unit_of.ensures.stands c.place_of-place.ensures.alone) (c.loop-i.invariant.1 _ (none_left _ _ _ _ c.loop-i-test.false))

pub returns-in_default-clause-walks : goal.returns-in_default-clause-walks
returns-in_default-clause-walks g c =
    unit_walked _ _ _ _ _ _ _ _ c.ops-unit.ensures (stands_there _ _ _ _ c.unit_of.ensures.stands c.place_of-place.ensures.alone)
    (c.loop-i.invariant.1 _ (stopped_at _ _ _ _ _ c.visit.result c.loop-i-test.true c.visit.ensures.visits (not_evaluated c.visit.result c.in_default.not-Evaluated)))
