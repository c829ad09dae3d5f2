-- What exploring comes to, under eager and under lazy abort.
use Rattle.std.proofs.Common.{◌≡◌, ℕ, ◌*◌, ◌<◌, ◌≤◌, max, List, [], length, refl, sym, ap, subst, arith}
use Rattle.std.specs.Prelude.{slice_index_or}
use Rattle.morph_base.specs.declared.strategy.Abort.{Abort}
use Rattle.morph_base.specs.declared.strategy.Abort.TheVariants.{Eager, Lazy}
use Rattle.morph_base.specs.Plans.{IsPlan}
use Rattle.op_eval.specs.declared.explored.RunEnd.{RunEnd}
use Rattle.op_eval.specs.declared.explored.RunEnd.TheVariants.{Whole}
use Rattle.op_eval.specs.declared.runner.Runner.{Runner}
use Rattle.op_eval.specs.Exploring.{RunRules}
use Rattle.op_eval.specs.Further.{HaveGoneOn}
use Rattle.worker_gate.specs.declared.parts.Shares.{Shares}
use Rattle.worker_gate.specs.Parts.{AreShares}
use Rattle.strata_explorer.specs.Levels.{passed_ops, AreLevels, AreStrata, HaveReached, IsAlone}
use Rattle.strata_explorer.specs.Outcomes.{HasPassed, HaveGoneOver, HaveMadePasses}
use Rattle.strata_explorer.specs.Parts.{parted_ops, GoesOver}
use Rattle.strata_explorer.proofs.Ends.{reached_none}
use Rattle.strata_explorer.proofs.Going.{first_saw, going_further, going_reached, gone_alone}

pub apart : (abort : Abort) → abort ≡ Lazy → abort ≡ Eager → ⊥
apart abort lazy eager = cc

module _ (rules : RunRules) (start now : List Runner) (end : RunEnd) (counters : ℕ) where
  pub passed_eager : rules.abort ≡ Eager → HaveMadePasses rules start now end counters → HasPassed rules start now end counters
  passed_eager eager made = record { eager = λ _. made; lazy = λ lazy. absurd (apart rules.abort lazy eager) }

  pub passed_lazy : rules.abort ≡ Lazy → HaveGoneOver rules start now end counters → HasPassed rules start now end counters
  passed_lazy lazy gone = record { eager = λ eager. absurd (apart rules.abort lazy eager); lazy = λ _. gone }

-- all workers went over all levels
module _ (rules : RunRules) (shares : Shares) (are : AreShares shares) (start now : List Runner) (len : length now ≡ length start)
    (over : (k : ℕ) (d : Runner) → k < length start → GoesOver rules shares k (length rules.plan.op_levels.items) (slice_index_or start k d) (slice_index_or now k d)) where
  abbrev depth : ℕ
  depth = length rules.plan.op_levels.items

  pub gone_further : HaveGoneOn start now
  gone_further = record {
    len = len;
    each = λ k d lt. going_further rules shares are k depth (slice_index_or start k d) (slice_index_or now k d) (over k d lt);
  }

  reached_by : AreStrata rules.plan [] start → 0 < length start → HaveReached rules.plan (depth * shares.parts) (parted_ops rules.plan shares.parts) now
  reached_by ready some = record {
    each = λ k d lt.
        let there : k < length start = subst (λ n. k < n) len lt in
        going_reached rules shares are k depth (slice_index_or start k d) (slice_index_or now k d) (over k d there)
        (reached_none rules.plan (parted_ops rules.plan shares.parts) (depth * shares.parts) (slice_index_or start k d) (ready.each k d there));
    enough = λ c lt. (
      0,
      subst (λ n. 0 < n) (sym len) some,
      λ d. first_saw rules shares are 0 depth refl (slice_index_or start 0 d) (slice_index_or now 0 d) (over 0 d some) c lt,
    );
  }

  pub gone_over : shares.parts ≤ max 1 (length start) → AreStrata rules.plan [] start → 0 < length start → HaveGoneOver rules start now Whole (depth * shares.parts)
  gone_over most ready some = record {
    shares = shares;
    are = are;
    most = most;
    len = len;
    each = over;
    reached = reached_by ready some;
    counted = refl;
    whole = refl;
  }

  pub all_alone : rules.abort ≡ Lazy → IsPlan rules.plan → 1 ≤ rules.cap → AreLevels rules.plan → shares.parts ≤ max 1 (length start) → AreStrata rules.plan [] start → 0 < length start → IsAlone rules.plan depth start now
  all_alone lazy valid cap levels most ready some one d begins =
      gone_alone rules lazy valid cap levels shares are (single one) depth (slice_index_or start 0 d) (slice_index_or now 0 d) (λ c. (ready.each 0 d some).unused c (omega arith)) begins (over 0 d some)
    where
      single : length start ≡ 1 → shares.parts ≡ 1
      single one = let least = are.some in let is : max 1 (length start) ≡ 1 = ap (max 1) one in omega (arith, least, is, most)

-- what each runner reached, for the call that hands the runners on
pub passed_reached : (rules : RunRules) (start now : List Runner) (end : RunEnd) (counters : ℕ) → HasPassed rules start now end counters → (list : ℕ → List ℕ) × HaveReached rules.plan counters list now
passed_reached rules start now end counters passed = by rules.abort refl
  where
    by : (abort : Abort) → rules.abort ≡ abort → (list : ℕ → List ℕ) × HaveReached rules.plan counters list now
    by Lazy is = let gone = passed.lazy is in (parted_ops rules.plan gone.shares.parts, gone.reached)
    by Eager is = let made = passed.eager is in (passed_ops rules.plan made.levels, subst (λ n. HaveReached rules.plan n (passed_ops rules.plan made.levels) now) (sym made.counted) made.strata)
