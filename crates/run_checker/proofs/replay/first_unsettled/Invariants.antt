use Rattle.std.proofs.Common.{ℕ, ◌<◌}
use Rattle.interleaving_core.specs.Core.{IsSettledIn}
use Rattle.interleaving_core.specs.Stored.{core_of}
use Rattle.run_checker.proofs.replay.first_unsettled.Given as goal

abbrev pub invariant-loop-op : goal.invariant-loop-op
invariant-loop-op l = (o : ℕ) → o < l.op → IsSettledIn (core_of l.state) o
