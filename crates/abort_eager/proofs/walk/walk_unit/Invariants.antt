use Rattle.std.specs.Prelude.{true, drop}
use Rattle.abort_eager.specs.Walks.{VisitsInTurn}
use Rattle.abort_eager.proofs.walk.walk_unit.Given as goal

abbrev pub invariant-loop-i : goal.invariant-loop-i
invariant-loop-i g l =
    g.V.Walking.can_walk l.ground l.worker
    × ((u : _) → VisitsInTurn (g.V.Walking.visits l.ground) true (drop l.i l.unit) l.worker u → VisitsInTurn (g.V.Walking.visits l.ground) true (drop l.place l.unit) l.fn.worker u)
