use Rattle.std.proofs.Common.{◌≡◌, ℕ, ◌<◌, slice_index}
use Rattle.interleaving_core.specs.Core.{value_in}
use Rattle.interleaving_core.specs.Stored.{core_of}
use Rattle.run_checker.proofs.replay.first_unlike.Given as goal

abbrev pub invariant-loop-op : goal.invariant-loop-op
invariant-loop-op l = (o : ℕ) → o < l.op → value_in (core_of l.state) o ≡ slice_index l.values o
