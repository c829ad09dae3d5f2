-- How many operations runners rolled back.
use Rattle.std.proofs.Common.{◌≡◌, ℕ, zero, suc, ◌+◌, ◌<◌, ◌≤◌, Bool, true, false, List, [], ◌∷◌, length, get_or, refl, ap, inl, inr, arith}
use Rattle.std.specs.Prelude.{sum_by}
use Rattle.std.proofs.lemmas.List.Sums.{sum_by-cons}
use Rattle.morph_base.specs.declared.strategy.Abort.TheVariants.{Eager}
use Rattle.interleaving_core.specs.Counts.{rolled}
use Rattle.op_words.specs.Hands.{up_to}
use Rattle.op_words.specs.declared.trail.View.{View}
use Rattle.op_eval.specs.declared.runner.Runner.{Runner}
use Rattle.op_eval.specs.Running.{hand_view}
use Rattle.strata_explorer.specs.Levels.{rolled_by, FollowsPass}
use Rattle.strata_explorer.specs.Passes.{AreLike}
use Rattle.op_eval.specs.Exploring.{RunRules}

abbrev pub many_rolled : Runner → ℕ
many_rolled r = rolled (hand_view r).events

sum_same : (xs ys : List Runner) → length ys ≡ length xs → ((k : ℕ) (d : Runner) → k < length xs → many_rolled (get_or ys k d) ≡ many_rolled (get_or xs k d)) → sum_by many_rolled ys ≡ sum_by many_rolled xs
sum_same [] [] len same = refl
sum_same [] (y ∷ ys) len same = absurd (omega arith)
sum_same (x ∷ xs) [] len same = absurd (omega arith)
sum_same (x ∷ xs) (y ∷ ys) len same =
    let first : many_rolled y ≡ many_rolled x = same 0 x (omega arith) in
    let rest : sum_by many_rolled ys ≡ sum_by many_rolled xs = sum_same xs ys (omega arith) (λ k d lt. same (suc k) d (omega arith)) in
    let a : sum_by many_rolled (y ∷ ys) ≡ many_rolled y + sum_by many_rolled ys = sum_by-cons many_rolled y ys in
    let b : sum_by many_rolled (x ∷ xs) ≡ many_rolled x + sum_by many_rolled xs = sum_by-cons many_rolled x xs in
    omega arith

-- calls that change no view roll nothing back
pub like_rolled : (before after : List Runner) → AreLike before after → rolled_by after ≡ rolled_by before
like_rolled before after like = sum_same before after like.len each
  where
    each : (k : ℕ) (d : Runner) → k < length before → many_rolled (get_or after k d) ≡ many_rolled (get_or before k d)
    each zero d lt = ap (λ (v : View). rolled v.events) (like.first d).view
    each (suc k) d lt = ap many_rolled (like.others (suc k) d (omega arith))

-- the level that comes next is the one above, or operations were rolled back in the pass over this one
pub follows_from : (rules : RunRules) (level next : ℕ) (before rs qs after : List Runner) → AreLike before rs → AreLike qs after → (risen : Bool) (counted : ℕ) → counted ≡ up_to (rolled_by rs) → (risen ≡ true → rules.abort ≡ Eager)
    → (risen ≡ true → counted < up_to (rolled_by qs)) → next ≤ level + 1 → (risen ≡ false → next ≡ level + 1) → FollowsPass rules next (level ∷ []) before after
follows_from rules level next before rs qs after first last false counted is eager more most above = inl (above refl)
follows_from rules level next before rs qs after first last true counted is eager more most above =
    let a : rolled_by rs ≡ rolled_by before = like_rolled before rs first in
    let b : rolled_by after ≡ rolled_by qs = like_rolled qs after last in
    let c : counted < up_to (rolled_by qs) = more refl in
    inr (eager refl, most, omega arith)
