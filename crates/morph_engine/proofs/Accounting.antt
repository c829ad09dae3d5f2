-- What a batch counts, from what its closed board shows.
use Rattle.std.proofs.Common.{◌≡◌, ◌⊎◌, ℕ, ◌+◌, ◌*◌, ◌<◌, ◌≤◌, Bool, true, false, cond, not, eqb, List, [], length, map, refl, sym, ap, ◌∙◌, subst, inl, inr, arith}
use Rattle.std.specs.Prelude.{count_by, slice_index, sum_by}
use Rattle.std.proofs.lemmas.Bool.{false≢true, cases_Bool, cond-true, cond-false, eq-eqb, eqb-true, and_parts}
use Rattle.std.proofs.lemmas.List.{get_or_default}
use Rattle.std.proofs.lemmas.List.FromFn.{length-range_with_len}
use Rattle.std.proofs.lemmas.List.Sums.{count_by-le-length, length-filter}
use Rattle.morph_base.specs.declared.limits.TheConstants.{EVENT_OPS, EVENTS}
use Rattle.morph_base.specs.declared.plan.Plan.{Plan}
use Rattle.morph_base.specs.declared.strategy.Abort.{Abort}
use Rattle.morph_base.specs.declared.strategy.Abort.TheVariants.{Lazy}
use Rattle.morph_base.specs.declared.strategy.Explore.{Explore}
use Rattle.morph_base.specs.declared.strategy.Explore.TheVariants.{Strata, Steal}
use Rattle.morph_base.specs.declared.strategy.Strategy.{Strategy}
use Rattle.morph_base.specs.Contents.{Contents}
use Rattle.morph_base.specs.Graphs.{below}
use Rattle.morph_base.specs.Plans.{IsPlan, op_at, op_count, event_of, verdict}
use Rattle.morph_base.specs.Words.{is_settled}
use Rattle.morph_base.proofs.NumberLaws.{op_count-small}
use Rattle.interleaving_core.specs.declared.event.CoreEvent.{CoreEvent}
use Rattle.interleaving_core.specs.Core.{Core}
use Rattle.interleaving_core.specs.Counts.{evaluated, spreads, rolled, is_committed}
use Rattle.interleaving_core.proofs.Bounds.{spreads-rolled, evaluated-spreads, no_spread}
use Rattle.interleaving_core.proofs.Committed.{settled-evaluated}
use Rattle.interleaving_core.proofs.Sources.{settled_cases}
use Rattle.op_words.specs.declared.answers.Counts.{Counts}
use Rattle.op_words.specs.Closing.{journal_of}
use Rattle.op_words.specs.declared.closed.Closed.{Closed}
use Rattle.op_words.specs.Hands.{counts_of, up_to}
use Rattle.op_words.proofs.Sizes.{range_size}
use Rattle.op_eval.specs.declared.answers.Left.{Left}
use Rattle.abort_lazy.specs.Ended.{causes}
use Rattle.abort_lazy.proofs.Causing.{settler_within}
use Rattle.abort_lazy.proofs.Covering.{few_left}
use Rattle.abort_lazy.proofs.Summing.{below_least, below_same, sum_map, sum_places}
use Rattle.steal_explorer.specs.Dealing.{level_one}
use Rattle.morph_engine.specs.Accounts.{Account, settled_by, is_committed_by_worker, IsAccount, IsAccountAlone}
use Rattle.morph_engine.specs.Caps.{cap_for}
use Rattle.morph_engine.specs.Exploring.{Items, AreBalanced}
use Rattle.morph_engine.specs.Runs.{run_outcome, HasRun}
use Rattle.morph_engine.proofs.Caps.{cap_small, attempts_few, rises_few}
use Rattle.morph_engine.proofs.HandingOut.{one, weight_one}

up_to_same : (n : ℕ) → n < 4294967296 → up_to n ≡ n
up_to_same n small = omega arith

explore_cases : (e : Explore) → (e ≡ Strata) ⊎ (e ≡ Steal)
explore_cases Strata = inl refl
explore_cases Steal = inr refl

-- a test that passes only where another does counts no more
fewer : (a b : Bool) → (a ≡ true → b ≡ true) → cond a 1 0 ≤ cond b 1 0
fewer true b implies = let one = cond-true {A = ℕ} b 1 0 (implies refl) in omega (arith, one)
fewer false b implies = omega arith

sums : {a b m n : ℕ} → a ≡ m → b ≡ n → m + n ≡ a + b
sums first second = omega (arith, first, second)

-- ---- what was handed out

up_to_least : (m n : ℕ) → m ≤ n → up_to m ≤ up_to n
up_to_least m n least = omega arith

module _ (p : Plan) (valid : IsPlan p) (handed stolen : ℕ) where
  module _ (x : Items) (balanced : AreBalanced p x handed stolen) where
    -- each operation weighs 1
    stolen_few : stolen ≤ handed
    stolen_few =
        let pushed = weight_one x.pushed in
        let taken = balanced.balance one in
        let part = balanced.by_steals one in
        let some = weight_one x.stolen in
        let all = up_to_least (length x.stolen) (length x.pushed) (omega arith) in
        let a = balanced.stolen_is in
        let b = balanced.handed_is in
        omega (arith, all, a, b)

    dealt_least : length (level_one p) ≤ handed
    dealt_least =
        let pushed = weight_one x.pushed in
        let level = weight_one (level_one p) in
        let part = balanced.dealt one in
        let small = op_count-small p valid in
        let within = count_by-le-length (λ o. eqb (op_at p o).level 1) (below (op_count p)) in
        let passing = length-filter (λ o. eqb (op_at p o).level 1) (below (op_count p)) in
        let all = length-range_with_len 0 (op_count p) in
        let is = balanced.handed_is in
        omega arith

    handed_once : ((h : ℕ → ℕ) → sum_by h x.pushed ≡ sum_by h (below (op_count p))) → handed ≡ op_count p
    handed_once once =
        let all = range_size 0 (op_count p) in
        let many : length x.pushed ≡ op_count p = sym (weight_one x.pushed) ∙ once one ∙ all in
        let small = op_count-small p valid in
        balanced.handed_is ∙ ap up_to many ∙ up_to_same (op_count p) (omega (arith, small))

    none_stolen : x.stolen ≡ [] → stolen ≡ 0
    none_stolen own = balanced.stolen_is ∙ ap (λ (l : List ℕ). up_to (length l)) own

module _ (p : Plan) (valid : IsPlan p) (strategy : Strategy) (workers : ℕ) (closed : Closed) (lists : List (List Left)) (by : List ℕ) (handed stolen : ℕ) (run : HasRun p strategy.explore strategy.abort workers closed (run_outcome lists by handed stolen))
    (each : length by ≡ op_count p) (counts : Counts)
    (counted : counts ≡ counts_of run.ended.ends.history) (left : ℕ) (kept : left ≡ causes lists) where
  abbrev core : Core
  core = run.ended.ends.core

  abbrev explore : Explore
  explore = strategy.explore

  abbrev abort : Abort
  abort = strategy.abort

  abbrev account : Account
  account = record { plan = p; strategy = strategy; by = by; counts = counts; left = left; handed = handed; stolen = stolen; journal = journal_of closed }

  -- ---- who settled an operation

  settled_by_tag : (o : ℕ) → o < op_count p → is_settled (core.word o).state ≡ true → slice_index by o ≡ (core.word o).by
  settled_by_tag o lt now = run.tags o lt ∙ cond-true (is_settled (core.word o).state) (core.word o).by 0 now

  left_open : (o : ℕ) → o < op_count p → is_settled (core.word o).state ≡ false → slice_index by o ≡ 0
  left_open o lt now = run.tags o lt ∙ cond-false (is_settled (core.word o).state) (core.word o).by 0 now

  within : (o : ℕ) → o < op_count p → slice_index by o ≤ workers
  within o lt =
      elim (cases_Bool (is_settled (core.word o).state)) [
        | inl now ↦ let is = settled_by_tag o lt now in let most = (settler_within run.ended.ends o lt now).1 in let made = run.hands in omega (arith, is, most, made)
        | inr now ↦ let is = left_open o lt now in omega (arith, is)
      ]

  by_nobody : (o : ℕ) → o < op_count p → slice_index by o ≡ 0 → not (is_settled (core.word o).state) ≡ true
  by_nobody o lt none =
      elim (cases_Bool (is_settled (core.word o).state)) [
        | inl now ↦ let is = settled_by_tag o lt now in let least = (settler_within run.ended.ends o lt now).0 in absurd (omega (arith, none, is, least))
        | inr now ↦ ap not now
      ]

  committed_there : (o : ℕ) → o < op_count p → is_committed_by_worker p by o ≡ true → is_committed (core.word o).state ≡ true
  committed_there o lt is =
      let both = and_parts (verdict p (event_of p o)) (not (eqb (slice_index by o) 0)) is in
      elim (cases_Bool (is_settled (core.word o).state)) [
        | inr now ↦ absurd (false≢true (ap not (sym (eq-eqb (slice_index by o) 0 (left_open o lt now))) ∙ both.1))
        | inl now ↦
            elim (settled_cases (core.word o).state now) [
              | inl state ↦ ap is_committed state
              | inr state ↦
                  let decided = run.ended.ends.sound.decided (event_of p o) false ((run.ended.ends.sound.each_op o lt).aborted state).decided in
                  absurd (false≢true (sym decided.1 ∙ both.0))
            ]
      ]

  -- ---- over all operations

  -- the entries of the list one by one
  by_each : (q : ℕ → Bool) → count_by q by ≡ sum_by (λ o. cond (q (slice_index by o)) 1 0) (below (op_count p))
  by_each q = sum_places (λ t. cond (q t) 1 0) by 0 ∙ ap (λ n. sum_by (λ o. cond (q (slice_index by o)) 1 0) (below n)) each

  few_by_nobody : settled_by by 0 ≤ EVENT_OPS * left
  few_by_nobody =
      let open_ops = few_left p valid core run.view lists run.left in
      let all = by_each (λ t. eqb t 0) in
      let least =
      below_least (λ o. cond (eqb (slice_index by o) 0) 1 0) (λ o. cond (not (is_settled (core.word o).state)) 1 0) (op_count p)
      (λ o lt. fewer (eqb (slice_index by o) 0) (not (is_settled (core.word o).state)) (λ is. by_nobody o lt (eqb-true (slice_index by o) 0 is))) in
      let same : EVENT_OPS * left ≡ EVENT_OPS * causes lists = ap (λ n. EVENT_OPS * n) kept in
      omega (arith, open_ops, all, least, same)

  abbrev history : List CoreEvent
  history = run.ended.ends.history

  small : op_count p ≤ EVENT_OPS * EVENTS
  small = op_count-small p valid

  few_evaluated : evaluated history + spreads history ≤ (cap_for abort + 1) * op_count p
  few_evaluated = evaluated-spreads p (cap_for abort) valid (cap_small abort) history core run.ended.ends.run

  few_rolled : spreads history + rolled history ≤ cap_for abort * op_count p
  few_rolled = spreads-rolled p (cap_for abort) valid (cap_small abort) history core run.ended.ends.run

  evaluated_is : counts.evaluated ≡ evaluated history
  evaluated_is = ap (λ (n : Counts). n.evaluated) counted ∙ up_to_same (evaluated history) (let few = attempts_few abort _ _ few_evaluated in let all = small in omega (arith, few, all))

  spread_is : counts.spread ≡ spreads history
  spread_is = ap (λ (n : Counts). n.spread) counted ∙ up_to_same (spreads history) (let few = attempts_few abort _ _ few_evaluated in let all = small in omega (arith, few, all))

  rolled_is : counts.rolled ≡ rolled history
  rolled_is = ap (λ (n : Counts). n.rolled) counted ∙ up_to_same (rolled history) (let few = rises_few abort _ _ few_rolled in let all = small in omega (arith, few, all))

  none_spread : abort ≡ Lazy → counts.spread ≡ 0
  none_spread lazy = spread_is ∙ no_spread p (cap_for abort) valid (cap_small abort) history core run.ended.ends.run (ap cap_for lazy)

  committed_few : count_by (is_committed_by_worker p by) (below (op_count p)) ≤ counts.evaluated
  committed_few =
      let least =
      below_least (λ o. cond (is_committed_by_worker p by o) 1 0) (λ o. cond (is_committed (core.word o).state) 1 0) (op_count p)
      (λ o lt. fewer (is_committed_by_worker p by o) (is_committed (core.word o).state) (committed_there o lt)) in
      let all = settled-evaluated p (cap_for abort) valid (cap_small abort) history core run.ended.ends.run in
      let is = evaluated_is in
      omega (arith, least, all, is)

  -- ---- what was handed out, by strata and by deques

  stolen_within : stolen ≤ handed
  stolen_within =
      elim (explore_cases explore) [
        | inl strata ↦ let none = run.unhanded strata in let zero = none.1 in omega (arith, zero)
        | inr steal ↦ let out = run.handed_out steal in stolen_few p valid handed stolen out.items out.balanced
      ]

  dealt_within : explore ≡ Steal → length (level_one p) ≤ handed
  dealt_within steal = let out = run.handed_out steal in dealt_least p valid handed stolen out.items out.balanced

  handed_alone : workers ≡ 1 → abort ≡ Lazy → explore ≡ Steal → handed ≡ op_count p
  handed_alone only lazy steal = let out = run.handed_out steal in handed_once p valid handed stolen out.items out.balanced ((out.alone only).once lazy)

  stolen_alone : workers ≡ 1 → stolen ≡ 0
  stolen_alone only =
      elim (explore_cases explore) [
        | inl strata ↦ (run.unhanded strata).1
        | inr steal ↦ let out = run.handed_out steal in none_stolen p valid handed stolen out.items out.balanced (out.alone only).own
      ]

  alone : workers ≡ 1 → IsAccountAlone explore abort account
  alone one =
      let lone = run.alone one in
      record {
        none = kept ∙ lone.none;
        mine =
            by_each (λ t. eqb t 1)
            ∙ below_same (λ o. cond (eqb (slice_index by o) 1) 1 0) (λ o. 1) (op_count p) (λ o lt. cond-true (eqb (slice_index by o) 1) 1 0 (eq-eqb (slice_index by o) 1 (lone.mine o lt)))
            ∙ range_size 0 (op_count p);
        stolen = stolen_alone one;
        evaluated = λ lazy. evaluated_is ∙ lone.evaluated_is lazy ∙ ap (λ n. op_count p + n) (sym rolled_is);
        rolled = λ lazy. rolled_is ∙ lone.rolled_is lazy;
        handed = handed_alone one;
      }

  pub is_account : IsAccount explore abort workers account
  is_account = record {
    each = each;
    inside = λ k d lt.
        let less : k < op_count p = subst (λ n. k < n) each lt in
        subst (λ t. t ≤ workers) (get_or_default by k 0 d lt) (within k less);
    evaluated = subst (λ n. n ≤ (cap_for abort + 1) * op_count p) (sums evaluated_is spread_is) few_evaluated;
    spread = none_spread;
    rolled = subst (λ n. n ≤ cap_for abort * op_count p) (sums spread_is rolled_is) few_rolled;
    committed = committed_few;
    rest = few_by_nobody;
    stolen = stolen_within;
    dealt = dealt_within;
    by_strata = λ strata. (run.unhanded strata).0;
    alone = alone;
  }

-- how many causes lists have
pub causes_in : (ls : List (Contents Left)) → sum_by (λ (l : Contents Left). length l.items) ls ≡ causes (map (λ (l : Contents Left). l.items) ls)
causes_in ls = sym (sum_map length (λ (l : Contents Left). l.items) ls)
