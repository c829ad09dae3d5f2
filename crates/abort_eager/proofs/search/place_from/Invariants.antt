use Rattle.std.proofs.Common.{◌≡◌, ◌-◌}
use Rattle.abort_eager.specs.Targets.{place_targets}
use Rattle.abort_eager.proofs.search.place_from.Given as goal

abbrev pub invariant-loop-j : goal.invariant-loop-j
invariant-loop-j l = place_targets l.plan l.first l.end l.op l.from (l.count - l.from) ≡ place_targets l.plan l.first l.end l.op l.j (l.count - l.j)
