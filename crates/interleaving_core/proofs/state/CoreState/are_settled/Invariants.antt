use Rattle.std.proofs.Common.{ℕ, ◌<◌}
use Rattle.morph_base.specs.Plans.{origin_at}
use Rattle.morph_base.specs.Known.{IsKnown}
use Rattle.interleaving_core.specs.Core.{IsSettledIn}
use Rattle.interleaving_core.specs.Stored.{core_of}
use Rattle.interleaving_core.proofs.state.CoreState.are_settled.Given as goal

abbrev pub invariant-loop-j : goal.invariant-loop-j
invariant-loop-j l = (k : ℕ) → k < l.j → IsKnown (IsSettledIn (core_of l.self)) (origin_at l.plan l.op k)
