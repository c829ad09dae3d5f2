use Rattle.std.proofs.Common.{◌≡◌, ℕ, ◌+◌, ◌≤◌, cond, eqb, get_or, sum, take}
use Rattle.morph_base.specs.Limits.{most_workers}
use Rattle.morph_engine.specs.Accounts.{settled_by}
use Rattle.run_text.proofs.tally.count_each.Given as goal

abbrev pub invariant-loop-worker : goal.invariant-loop-worker
invariant-loop-worker l = record {
  each : (w : ℕ) → w ≤ most_workers → get_or l.counts w 0 + cond (eqb w l.last) l.run 0 ≡ get_or l.initial.counts w 0 + settled_by (take l.worker-index l.workers) w;
  all : sum l.counts + l.run ≡ sum l.initial.counts + l.worker-index;
  inside : l.last ≤ most_workers;
}
