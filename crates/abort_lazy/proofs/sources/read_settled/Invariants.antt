use Rattle.std.proofs.Common.{◌≡◌, ℕ, ◌<◌, length, get_or}
use Rattle.morph_base.specs.declared.limits.TheConstants.{READS}
use Rattle.morph_base.specs.Clean.{source}
use Rattle.morph_base.specs.Plans.{final}
use Rattle.abort_lazy.proofs.sources.read_settled.Given as goal

abbrev pub invariant-loop-j : goal.invariant-loop-j
invariant-loop-j l = record {
  read : (k : ℕ) → k < l.j → get_or l.xs k 0 ≡ source l.plan (final l.plan) l.o k;
  len : length l.xs ≡ READS;
}
