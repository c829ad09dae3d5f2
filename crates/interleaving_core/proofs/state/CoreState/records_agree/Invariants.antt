use Rattle.std.proofs.Common.{ℕ, ◌<◌}
use Rattle.interleaving_core.specs.Steps.{RecordAgrees}
use Rattle.interleaving_core.specs.Stored.{core_of}
use Rattle.interleaving_core.proofs.state.CoreState.records_agree.Given as goal

abbrev pub invariant-loop-j : goal.invariant-loop-j
invariant-loop-j l = (k : ℕ) → k < l.j → RecordAgrees l.plan (core_of l.self) l.op k
