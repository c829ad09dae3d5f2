use Rattle.std.proofs.Common.{◌≡◌, ℕ, ◌<◌, length, get_or}
use Rattle.morph_base.specs.declared.limits.TheConstants.{READS}
use Rattle.morph_base.specs.Clean.{source}
use Rattle.interleaving_core.specs.Core.{value_in}
use Rattle.interleaving_core.specs.Stored.{core_of}
use Rattle.interleaving_core.proofs.state.CoreState.answer.Given as goal

abbrev pub invariant-loop-j : goal.invariant-loop-j
invariant-loop-j l =
    (length l.values ≡ READS) × ((k : ℕ) → k < l.j → get_or l.values k 0 ≡ source l.plan (value_in (core_of l.self)) l.op k)
