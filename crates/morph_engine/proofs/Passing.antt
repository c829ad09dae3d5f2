-- What exploring by strata comes to.
use Rattle.std.proofs.Common.{◌≡◌, ◌≢◌, ◌⊎◌, ℕ, ◌<◌, ◌≤◌, List, length, refl, sym, subst, inl, inr, arith}
use Rattle.morph_base.specs.declared.plan.Plan.{Plan}
use Rattle.morph_base.specs.declared.strategy.Abort.{Abort}
use Rattle.morph_base.specs.declared.strategy.Abort.TheVariants.{Eager, Lazy}
use Rattle.std.specs.Prelude.{Contains}
use Rattle.op_eval.specs.declared.explored.Explored.{Explored}
use Rattle.op_eval.specs.declared.explored.RunEnd.{RunEnd}
use Rattle.op_eval.specs.declared.explored.RunEnd.TheVariants.{Whole, Drained, Spent}
use Rattle.op_eval.specs.declared.runner.Runner.{Runner}
use Rattle.op_eval.specs.Gathering.{runners_of}
use Rattle.op_eval.specs.Exploring.{RunRules}
use Rattle.strata_explorer.specs.Levels.{counters_for, passed_ops, HaveReached}
use Rattle.strata_explorer.specs.Outcomes.{HasPassed, HaveGoneOver, HaveMadePasses}
use Rattle.strata_explorer.specs.Parts.{parted_ops}
use Rattle.worker_gate.proofs.Ordering.{counters_fit}
use Rattle.morph_engine.specs.Exploring.{AreNamed, AreParts, ArePasses, HavePassed}

whole_cases : (end : RunEnd) → (end ≡ Whole) ⊎ (end ≢ Whole)
whole_cases Whole = inl refl
whole_cases Drained = inr apart
  where
    apart : Drained ≡ Whole → ⊥
    apart e = cc
whole_cases Spent = inr apart
  where
    apart : Spent ≡ Whole → ⊥
    apart e = cc

module _ (rules : RunRules) (start : List Runner) (e : Explored) (passed : HasPassed rules start (runners_of e.runners) e.end e.next_counter) where
  module _ (made : HaveMadePasses rules start (runners_of e.runners) e.end e.next_counter) where
    all_passed : ((l : ℕ) → l < length rules.plan.op_levels.items → Contains made.levels l) ⊎ (length made.levels ≡ counters_for rules.plan)
    all_passed =
        elim (whole_cases e.end) [
          | inl whole ↦ inl (made.whole whole)
          | inr other ↦ inr (made.spent other).1
        ]

    are_passes : ArePasses rules.plan e.next_counter (passed_ops rules.plan made.levels)
    are_passes = record {
      levels = made.levels;
      passed = record { few = made.few; inside = made.inside; all = all_passed };
      counted = made.counted;
      is = λ c. refl;
    }

  are_parts : (gone : HaveGoneOver rules start (runners_of e.runners) e.end e.next_counter) → AreParts rules.plan e.next_counter (parted_ops rules.plan gone.shares.parts)
  are_parts gone = record {
    parts = gone.shares.parts;
    some = gone.are.some;
    few = gone.are.few;
    counted = gone.counted;
    is = λ c. refl;
  }

  -- what the counters are for, and that nothing was handed out
  pub have_passed : HavePassed rules.plan rules.abort e 0 0
  have_passed = by rules.abort refl
    where
      by : (abort : Abort) → rules.abort ≡ abort → HavePassed rules.plan abort e 0 0
      by Eager is =
          let made = passed.eager is in
          record {
            list = passed_ops rules.plan made.levels;
            named = are_passes made;
            reached = subst (λ n. HaveReached rules.plan n (passed_ops rules.plan made.levels) (runners_of e.runners)) (sym made.counted) made.strata;
            none_handed = refl;
            none_stolen = refl;
          }
      by Lazy is =
          let gone = passed.lazy is in
          record {
            list = parted_ops rules.plan gone.shares.parts;
            named = are_parts gone;
            reached = gone.reached;
            none_handed = refl;
            none_stolen = refl;
          }

-- the counters are at most those that the board has for exploring
pub named_few : (p : Plan) (abort : Abort) (counters : ℕ) (list : ℕ → List ℕ) → AreNamed p abort counters list → counters ≤ counters_for p
named_few p Eager counters list named = let few = named.passed.few in let is = named.counted in omega (arith, few, is)
named_few p Lazy counters list named = let fit = counters_fit named.parts (length p.op_levels.items) named.few in let is = named.counted in omega (arith, fit, is)
