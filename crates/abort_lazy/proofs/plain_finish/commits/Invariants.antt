use Rattle.std.proofs.Common.{ℕ, ◌<◌, ◌≤◌, IsSome}
use Rattle.morph_base.specs.Clean.{outcome}
use Rattle.morph_base.specs.Plans.{event_at, final}
use Rattle.abort_lazy.proofs.plain_finish.commits.Given as goal

abbrev pub invariant-loop-o : goal.invariant-loop-o
invariant-loop-o l = (t : ℕ) → (event_at l.plan l.i).first ≤ t → t < l.o → IsSome (outcome l.plan (final l.plan) t)
