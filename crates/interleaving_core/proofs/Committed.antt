-- Each operation that was settled in a committed event was evaluated.
use Rattle.std.proofs.Common.{◌≡◌, ℕ, suc, zero, ◌<◌, ◌≤◌, false, cond, eqb, List, ap, arith, refl}
use Rattle.std.specs.Prelude.{◌&&◌, ◌==◌, count_by, sum_by}
use Rattle.std.proofs.lemmas.Bool.{and_from, eq-eqb}
use Rattle.morph_base.specs.Limits.{most_attempts}
use Rattle.morph_base.specs.declared.plan.Plan.{Plan}
use Rattle.morph_base.specs.declared.word.OpState.{OpState}
use Rattle.morph_base.specs.declared.word.OpState.TheVariants.{Blocked, Ready, Claimed, Executed, Failed, Spread, Settled, SettledAborted}
use Rattle.morph_base.specs.Plans.{IsPlan, op_count}
use Rattle.morph_base.specs.Graphs.{below}
use Rattle.interleaving_core.specs.declared.event.CoreEvent.{CoreEvent}
use Rattle.interleaving_core.specs.Core.{Core, is_shown, entry_of}
use Rattle.interleaving_core.specs.Steps.{Run}
use Rattle.interleaving_core.specs.Soundness.{IsSound, IsSoundAt}
use Rattle.interleaving_core.specs.Counts.{evaluated, is_committed, shown_now}
use Rattle.interleaving_core.proofs.Basics.{count_some}
use Rattle.interleaving_core.proofs.Machine.{run_sound}
use Rattle.interleaving_core.proofs.Bounds.{evaluated-rolled, sum_below}

sum_most : (f g : ℕ → ℕ) (n : ℕ) → ((k : ℕ) → k < n → f k ≤ g k) → sum_by f (below n) ≤ sum_by g (below n)
sum_most f g zero few = omega arith
sum_most f g (suc n) few =
    let rest = sum_most f g n (λ k lt. few k (omega arith)) in let here = few n (omega arith) in let one = sum_below f n in let two = sum_below g n in omega arith

-- each operation that was settled in a committed event was evaluated
pub settled-evaluated : (p : Plan) (cap : ℕ) → IsPlan p → cap < most_attempts → (es : List CoreEvent) (c : Core) → Run p cap es c
    → count_by (λ o. is_committed (c.word o).state) (below (op_count p)) ≤ evaluated es
settled-evaluated p cap valid small es c run =
    let sound : IsSound p cap c = run_sound p cap valid small es c run in
    let shown = sum_most (λ o. cond (is_committed (c.word o).state) 1 0) (shown_now c) (op_count p) (λ o lt. at o lt (sound.each_op o lt) (c.word o).state refl) in
    let whole = evaluated-rolled p cap valid small es c run in
    omega (arith, shown, whole)
  where
    none : (o : ℕ) → cond false 1 0 ≤ shown_now c o
    none o = omega arith

    at : (o : ℕ) → o < op_count p → IsSoundAt p cap c o (c.word o) → (s : OpState) → (c.word o).state ≡ s → cond (is_committed s) 1 0 ≤ shown_now c o
    at o lt here Blocked is = none o
    at o lt here Ready is = none o
    at o lt here Claimed is = none o
    at o lt here Executed is = none o
    at o lt here Failed is = none o
    at o lt here Spread is = none o
    at o lt here SettledAborted is = none o
    at o lt here Settled is =
        count_some (λ e. (e.op == o) && (e.attempt == (c.word o).attempt)) c.published (entry_of o (c.word o)) (here.published.shown (ap is_shown is))
        (and_from (eqb o o) (eqb (c.word o).attempt (c.word o).attempt) (eq-eqb o o refl) (eq-eqb (c.word o).attempt (c.word o).attempt refl))
