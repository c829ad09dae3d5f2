-- Passes one after another, under eager abort, each over the level that comes next.
use Rattle.std.proofs.Common.{◌≡◌, ◌≢◌, ℕ, zero, suc, ◌+◌, ◌<◌, ◌≤◌, List, [], ◌∷◌, length, refl, sym, subst, inl, inr, arith}
use Rattle.std.specs.Prelude.{Contains, All}
use Rattle.std.proofs.lemmas.Bool.{cases_eq}
use Rattle.op_eval.specs.declared.explored.RunEnd.TheVariants.{Whole, Spent}
use Rattle.op_eval.specs.declared.runner.Runner.{Runner}
use Rattle.op_eval.specs.Further.{HaveGoneOn}
use Rattle.op_eval.proofs.Further.{all_same}
use Rattle.op_eval.proofs.Elements.{contains_first, contains_later}
use Rattle.strata_explorer.specs.Levels.{counters_for, ops_of, AreStrata, FollowsPass, Passes}
use Rattle.strata_explorer.specs.Outcomes.{HaveMadePasses}
use Rattle.strata_explorer.specs.Passes.{IsPassed}
use Rattle.strata_explorer.proofs.Climbing.{all_strata_more}
use Rattle.strata_explorer.proofs.Further.{passed_further}
use Rattle.op_eval.specs.Exploring.{RunRules}

module _ (rules : RunRules) where
  abbrev depth : ℕ
  depth = length rules.plan.op_levels.items

  -- passes were made over levels, the last first, as many as counters are used, and this level comes next
  pub record IsClimbing (level counters : ℕ) (start now : List Runner) : Type 0 where
    pub levels : List ℕ
    pub before : List Runner
    pub passes : Passes rules levels start before now
    pub further : HaveGoneOn start now
    pub strata : AreStrata rules.plan levels now
    pub counted : counters ≡ length levels
    pub inside : All (λ l. l < depth) levels
    pub next : FollowsPass rules level levels before now

  no_passes : (rs : List Runner) → Passes rules [] rs rs rs
  unfolding Passes
  no_passes rs = refl

  one_pass_more : (l : ℕ) (ls : List ℕ) (start earlier before now : List Runner) → Passes rules ls start earlier before → FollowsPass rules l ls earlier before → IsPassed rules (length ls) (ops_of rules.plan l) before now → Passes rules (l ∷ ls) start before now
  unfolding Passes
  one_pass_more l ls start earlier before now passes follows passed = (earlier, passes, follows, passed)

  pub climbing_none : (rs : List Runner) → AreStrata rules.plan [] rs → IsClimbing 0 0 rs rs
  climbing_none rs strata = record {
    levels = [];
    before = rs;
    passes = no_passes rs;
    further = all_same rs;
    strata = strata;
    counted = refl;
    inside = λ k d lt. absurd (omega arith);
    next = refl;
  }

  -- ---- a pass more

  all_first : (l : ℕ) (ls : List ℕ) → l < depth → All (λ l. l < depth) ls → All (λ l. l < depth) (l ∷ ls)
  all_first l ls here rest zero d lt = here
  all_first l ls here rest (suc k) d lt = rest k d (omega arith)

  pub climbing_more : (level counter next : ℕ) (start rs qs : List Runner) → IsClimbing level counter start rs → level < depth → IsPassed rules counter (ops_of rules.plan level) rs qs → FollowsPass rules next (level ∷ []) rs qs
      → IsClimbing next (counter + 1) start qs
  climbing_more level counter next start rs qs old low pass follows =
      let ls = old.levels in
      let passed : IsPassed rules (length ls) (ops_of rules.plan level) rs qs = subst (λ c. IsPassed rules c (ops_of rules.plan level) rs qs) old.counted pass in
      record {
        levels = level ∷ ls;
        before = rs;
        passes = one_pass_more level ls start old.before rs qs old.passes old.next passed;
        further = passed_further rules (length ls) (ops_of rules.plan level) start rs qs old.further passed;
        strata = all_strata_more rules level ls rs qs old.strata passed;
        counted = let many = old.counted in omega arith;
        inside = all_first level ls low old.inside;
        next = follows;
      }

  -- ---- the end

  -- what comes next is at most the number of levels
  low_next : (level : ℕ) (ls : List ℕ) (before now : List Runner) → All (λ l. l < depth) ls → FollowsPass rules level ls before now → level ≤ depth
  low_next level [] before now inside follows = omega arith
  low_next level (l ∷ ls) before now inside (inl above) = let low : l < depth = inside 0 l (omega arith) in omega arith
  low_next level (l ∷ ls) before now inside (inr back) = let low : l < depth = inside 0 l (omega arith) in let most : level ≤ l + 1 = back.1 in omega arith

  -- each level below the one that comes next was passed
  all_below : (level : ℕ) (ls : List ℕ) (start before now : List Runner) → Passes rules ls start before now → FollowsPass rules level ls before now → (l : ℕ) → l < level → Contains ls l
  unfolding Passes
  all_below level [] start before now passes follows l lt = absurd (omega arith)
  all_below level (k ∷ ks) start before now passes follows l lt =
      elim (cases_eq l k) [
        | inl same ↦ subst (λ x. Contains (k ∷ ks) x) (sym same) (contains_first k ks)
        | inr other ↦ contains_later k ks l (all_below k ks start passes.0 before passes.1 passes.2 l (lower follows other))
      ]
    where
      lower : FollowsPass rules level (k ∷ ks) before now → l ≢ k → l < k
      lower (inl above) other = omega arith
      lower (inr back) other = let most : level ≤ k + 1 = back.1 in omega arith

  module _ (level counters : ℕ) (start now : List Runner) (climbing : IsClimbing level counters start now) (few : counters ≤ counters_for rules.plan) where
    low : level ≤ depth
    low = low_next level climbing.levels climbing.before now climbing.inside climbing.next

    few_passes : length climbing.levels ≤ counters_for rules.plan
    few_passes = subst (λ n. n ≤ counters_for rules.plan) climbing.counted few

    pub ends_whole : depth ≤ level → HaveMadePasses rules start now Whole counters
    ends_whole past = record {
      levels = climbing.levels;
      before = climbing.before;
      passes = climbing.passes;
      strata = climbing.strata;
      counted = climbing.counted;
      few = few_passes;
      inside = climbing.inside;
      last = λ e. follows;
      whole = λ e l lt. all_below depth climbing.levels start climbing.before now climbing.passes follows l lt;
      spent = λ other. absurd (other refl);
    }
      where
        all : level ≡ depth
        all = let most = low in omega arith

        follows : FollowsPass rules depth climbing.levels climbing.before now
        follows = subst (λ l. FollowsPass rules l climbing.levels climbing.before now) all climbing.next

    pub ends_spent : level < depth → counters_for rules.plan ≤ counters → HaveMadePasses rules start now Spent counters
    ends_spent less used = record {
      levels = climbing.levels;
      before = climbing.before;
      passes = climbing.passes;
      strata = climbing.strata;
      counted = climbing.counted;
      few = few_passes;
      inside = climbing.inside;
      last = λ e. absurd (apart e);
      whole = λ e. absurd (apart e);
      spent = λ other. (refl, used_all, level, less, climbing.next);
    }
      where
        apart : Spent ≡ Whole → ⊥
        apart e = cc

        used_all : length climbing.levels ≡ counters_for rules.plan
        used_all = let many = climbing.counted in let most = few in omega arith
