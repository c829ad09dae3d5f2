use Rattle.std.proofs.Common.{ℕ, ◌+◌, ◌<◌}
use Rattle.interleaving_core.specs.Steps.{FailsOnSettled}
use Rattle.interleaving_core.specs.Stored.{core_of}
use Rattle.interleaving_core.proofs.state.CoreState.one_fails.Given as goal

abbrev pub invariant-loop-k : goal.invariant-loop-k
invariant-loop-k l = (m : ℕ) → m < l.k → FailsOnSettled l.plan (core_of l.self) (l.planned.first + m) → ⊥
