-- What a lone root leaves: each operation was pushed, popped, and ran.
use Rattle.std.proofs.Common.{◌≡◌, ℕ, zero, suc, ◌+◌, ◌<◌, List, ◌++◌, sym, ap, ◌∙◌, subst, inl, inr, arith}
use Rattle.std.specs.Prelude.{All, sum_by}
use Rattle.std.proofs.lemmas.List.Sums.{sum_by-append}
use Rattle.morph_base.specs.declared.plan.Plan.{Plan}
use Rattle.morph_base.specs.Plans.{IsPlan, op_count}
use Rattle.op_eval.specs.declared.runner.Runner.{Runner}
use Rattle.op_eval.specs.Alone.{Ran}
use Rattle.op_eval.specs.Running.{hand_view}
use Rattle.op_eval.proofs.Alone.{come_first}
use Rattle.steal_explorer.specs.declared.deque_rule.Log.{Log}
use Rattle.abort_eager.specs.declared.ground.Ground.{Ground}
use Rattle.steal_explorer.specs.declared.member.Member.{Member}
use Rattle.steal_explorer.specs.Alone.{AreSourcesRun, HasRunOp, EndsAlone, LeavesAlone}
use Rattle.steal_explorer.specs.Draining.{IsCleared, IsEmptied, IsEmptiedBy}
use Rattle.steal_explorer.specs.Gathering.{KeptByWorker, kept_of}
use Rattle.steal_explorer.specs.Handing.{came, gone, one}
use Rattle.steal_explorer.specs.HandingOut.{is_one}
use Rattle.steal_explorer.specs.Members.{Thief, own, IsWorkerOf}
use Rattle.steal_explorer.proofs.Counting.{many_ones}
use Rattle.steal_explorer.proofs.Outcome.{no_items}

module _ (g : Ground) (ts : List Thief) (w : Member) (worker : IsWorkerOf g ts w) (ends : EndsAlone g.plan.now w.end w) where
  abbrev p : Plan
  p = g.plan.now

  -- all that was pushed was popped
  all_popped : (h : ℕ → ℕ) → sum_by h (own w).pushed ≡ sum_by h (own w).popped
  all_popped h =
      let a : sum_by h (own w).stolen ≡ 0 = ap (sum_by h) worker.tickets.bare_stolen in
      let b : sum_by h (own w).left ≡ 0 = ap (sum_by h) worker.tickets.bare_left in
      let c = ends.even h in
      omega arith

  -- an operation that is due was pushed, and ran
  due_ran : (o : ℕ) → o < op_count p → AreSourcesRun p (hand_view w.runner).trail o → (sum_by (is_one o) (own w).pushed ≡ 1) × HasRunOp o w
  due_ran o lt due =
      elim (ends.turning.handing.each o lt) [
        | inl waits ↦ absurd (omega (arith, (waits.asked due).1))
        | inr more ↦
            elim more [
              | inl queued ↦ (queued.once, ends.turning.ran o lt (let a = all_popped (is_one o) in let b = queued.once in omega arith))
              | inr gone ↦ (gone.once, gone.ran)
            ]
      ]

  -- so each did, as its sources come before it
  all_before : IsPlan p → (k o : ℕ) → o < k → o < op_count p → (sum_by (is_one o) (own w).pushed ≡ 1) × HasRunOp o w
  all_before valid zero o less lt = absurd (omega arith)
  all_before valid (suc k) o less lt = due_ran o lt (λ s source. let first : s < o = come_first p o valid lt s source in (all_before valid k s (omega arith) (omega arith)).1)

  module _ (valid : IsPlan p) (cap : ℕ) (a b : Member) (kept : kept_of a ≡ kept_of w) (emptied : IsEmptied p cap a b) where
    cleared : IsCleared p cap a b
    cleared = subst (λ e. IsEmptiedBy p cap e a b) (ap (λ (q : KeptByWorker). q.end) kept ∙ ends.drained) emptied

    pushed : (own b).pushed ≡ (own w).pushed
    pushed = ap (λ (v : Log). v.pushed) cleared.popped ∙ ap (λ (q : KeptByWorker). q.pushed) kept

    -- nothing was left to pop, and nothing had been stolen
    none_there : (h : ℕ → ℕ) → (sum_by h cleared.items ≡ 0) × (sum_by h (own b).stolen ≡ 0)
    none_there h =
        let c = cleared.even h in
        let d : came h (own b) ≡ sum_by h (own w).pushed = ap (sum_by h) pushed in
        let e : sum_by h (own b).popped ≡ sum_by h ((own w).popped ++ cleared.items) =
        ap (λ (v : Log). sum_by h v.popped) cleared.popped ∙ ap (λ (q : KeptByWorker). sum_by h (q.popped ++ cleared.items)) kept in
        let f : sum_by h ((own w).popped ++ cleared.items) ≡ sum_by h (own w).popped + sum_by h cleared.items = sum_by-append h (own w).popped cleared.items in
        let i = all_popped h in
        (omega arith, omega arith)

    runner : b.runner ≡ w.runner
    runner = cleared.quiet (no_items cleared.items (sym (many_ones cleared.items) ∙ (none_there one).0)) ∙ ap (λ (q : KeptByWorker). q.runner) kept

    pub leaves_alone : LeavesAlone p b
    leaves_alone = record {
      drained = ap (λ (m : Member). m.end) cleared.is ∙ ap (λ (q : KeptByWorker). q.end) kept ∙ ends.drained;
      inside = subst (All (λ x. x < op_count p)) (sym pushed) worker.deque.below;
      once = λ o lt. ap (sum_by (is_one o)) pushed ∙ (all_before valid (suc o) o (omega arith) lt).0;
      unstolen = λ h. (none_there h).1;
      ran = λ o lt. subst (λ (r : Runner). Ran (hand_view r).trail o) (sym runner) (all_before valid (suc o) o (omega arith) lt).1;
    }
