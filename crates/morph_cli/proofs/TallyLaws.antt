-- The tally of the batches that were run: one batch more, and at each end of a run.
use Rattle.std.proofs.Common.{◌≡◌, ℕ, ◌+◌, ◌*◌, ◌<◌, ◌≤◌, All, List, [], ◌∷◌, ◌++◌, length, sum, sum_by, get_or, refl, ap, sym, subst, ◌∙◌, arith, cond}
use Rattle.std.specs.Prelude.{not}
use Rattle.std.proofs.lemmas.List.{length-append}
use Rattle.std.proofs.lemmas.List.Elements.{All-nil, All-cons, All-append, All-tail}
use Rattle.std.proofs.lemmas.List.Sums.{sum_by-append, sum_by-cons, sum_by_push}
use Rattle.morph_base.specs.declared.limits.TheConstants.{EVENT_OPS, EVENTS}
use Rattle.morph_base.specs.declared.strategy.Abort.TheVariants.{Lazy}
use Rattle.morph_base.specs.declared.strategy.Explore.{Explore}
use Rattle.morph_base.specs.declared.strategy.Explore.TheVariants.{Strata, Steal}
use Rattle.morph_base.specs.declared.strategy.Strategy.{Strategy}
use Rattle.morph_base.specs.Transactions.{Transaction, by_time}
use Rattle.morph_base.specs.States.{State, opening_state, after_all}
use Rattle.morph_base.specs.Outcomes.{Fate, fates}
use Rattle.morph_base.specs.Plans.{op_count}
use Rattle.morph_base.specs.Guesses.{stale_count}
use Rattle.morph_base.proofs.NumberLaws.{op_count-small}
use Rattle.morph_base.proofs.PlainLaws.{fates-nil}
use Rattle.morph_base.proofs.StateLaws.{after_all-append, after_all-nil}
use Rattle.decision_model.specs.declared.counts.Last.{Last}
use Rattle.morph_engine.specs.Accounts.{Account, settled_by}
use Rattle.morph_engine.specs.Caps.{cap_for}
use Rattle.run_text.specs.declared.choices.Planning.{Planning}
use Rattle.run_text.specs.declared.choices.Planning.TheVariants.{Fixed}
use Rattle.run_text.specs.declared.tally.Tally.{Tally}
use Rattle.run_text.specs.Text.{in_order, run_state, run_fates, committed_in, aborted_in}
use Rattle.run_text.specs.Counts.{CountsBatch, counted_to, no_tally}
use Rattle.run_text.proofs.Workers.{counted_more, counts_of_none, settled_beyond}
use Rattle.steal_explorer.specs.Dealing.{level_one}
use Rattle.morph_cli.specs.Strategies.{last_from, strategy_by}
use Rattle.decision_model.specs.Choices.{last_of, no_last}
use Rattle.morph_cli.specs.TellerLaws.{at_any}
use Rattle.morph_cli.specs.Tallies.{IsMadeOf, AreRunFrom, IsSoundAccount, AreLazy, AreExploredBy, IsTallyOf, IsLazyTally, FollowsAccounts, IsBalancedBy, IsBalanced, committed_by_workers, dealt_by, dealt_count}

-- between two batches: the accounts of those that were done, and their tally with the bounds of its numbers
pub record Tallied (planning : Planning) (workers : ℕ) (done : List (List Transaction)) (accounts : List Account) (t : Tally) : Type 0 where
  pub ran : AreRunFrom planning opening_state no_last done accounts
  pub sound : All (IsSoundAccount workers) accounts
  pub counts : IsTallyOf done accounts t
  pub founded : FollowsAccounts workers accounts t
  pub balanced : IsBalanced planning workers t
  pub few_batches : t.batches ≤ t.events
  pub few_ops : t.ops ≤ EVENT_OPS * EVENTS * t.batches

-- what came of the batch before the next one
abbrev pub last_after : List (List Transaction) → Last
last_after done = last_from opening_state no_last done

last_more : (s : State) (last : Last) (done : List (List Transaction)) (batch : List Transaction) → last_from s last (done ++ batch ∷ []) ≡ last_of (fates (after_all s (in_order done)) (by_time batch))
unfolding last_from
last_more s last [] batch = ap (λ r. last_of (fates r (by_time batch))) (sym (after_all-nil s))
last_more s last (b ∷ bs) batch =
    last_more (after_all s (by_time b)) (last_of (fates s (by_time b))) bs batch ∙ ap (λ r. last_of (fates r (by_time batch))) (sym (after_all-append s (by_time b) (in_order bs)))

pub last_is : (done : List (List Transaction)) (batch : List Transaction) (told : List Fate) → told ≡ fates (run_state done) (by_time batch) → last_of told ≡ last_after (done ++ batch ∷ [])
last_is done batch told is = ap last_of is ∙ sym (last_more opening_state no_last done batch)

pub last_start : no_last ≡ last_after []
unfolding last_from
last_start = refl

-- one batch more
ran_more : (planning : Planning) (s : State) (last : Last) (done : List (List Transaction)) (accounts : List Account) (batch : List Transaction) (a : Account) → AreRunFrom planning s last done accounts →
    IsMadeOf (after_all s (in_order done)) batch a.plan → a.strategy ≡ strategy_by planning a.plan (last_from s last done) → AreRunFrom planning s last (done ++ batch ∷ []) (accounts ++ a ∷ [])
unfolding AreRunFrom last_from
ran_more planning s last [] [] batch a ran made chosen = (subst (λ r. IsMadeOf r batch a.plan) (after_all-nil s) made, chosen, tt)
ran_more planning s last [] (x ∷ xs) batch a ran made chosen = absurd ran
ran_more planning s last (b ∷ bs) [] batch a ran made chosen = absurd ran
ran_more planning s last (b ∷ bs) (x ∷ xs) batch a ran made chosen =
    (ran.0, ran.1, ran_more planning (after_all s (by_time b)) (last_of (fates s (by_time b))) bs xs batch a ran.2 (subst (λ r. IsMadeOf r batch a.plan) (after_all-append s (by_time b) (in_order bs)) made) chosen)

nothing_ran : (planning : Planning) → AreRunFrom planning opening_state no_last [] []
unfolding AreRunFrom
nothing_ran planning = tt

-- where the words give a strategy each batch was run with it
ran_fixed : (planning : Planning) (f : Strategy) (s : State) (last : Last) (done : List (List Transaction)) (accounts : List Account) → planning ≡ Fixed f → AreRunFrom planning s last done accounts →
    All (λ a. a.strategy ≡ f) accounts
unfolding AreRunFrom
ran_fixed planning f s last [] [] is ran = All-nil (λ a. a.strategy ≡ f)
ran_fixed planning f s last [] (x ∷ xs) is ran = absurd ran
ran_fixed planning f s last (b ∷ bs) [] is ran = absurd ran
ran_fixed planning f s last (b ∷ bs) (x ∷ xs) is ran =
    All-cons (λ a. a.strategy ≡ f) x xs (ran.1 ∙ ap (λ q. strategy_by q x.plan last) is)
    (ran_fixed planning f (after_all s (by_time b)) (last_of (fates s (by_time b))) bs xs is ran.2)

-- and the laws that name the batches hold of the tally
by_strategy : (f : Strategy) (workers : ℕ) (accounts : List Account) (t : Tally) → All (λ a. a.strategy ≡ f) accounts → FollowsAccounts workers accounts t → IsBalancedBy f workers t
by_strategy f workers accounts t all founded =
    let explored : (e : Explore) → f.explore ≡ e → AreExploredBy e accounts = λ e is k d lt. ap (λ (s : Strategy). s.explore) (all k d lt) ∙ is in
    let lazy : f.abort ≡ Lazy → AreLazy accounts = λ is k d lt. ap (λ (s : Strategy). s.abort) (all k d lt) ∙ is in
    record {
      by_strata = λ is. founded.by_strata (explored Strata is);
      lazy = λ is. founded.lazy (lazy is);
      evaluated = λ one is. founded.evaluated one (lazy is);
      handed = λ one is steal. founded.handed one (lazy is) (explored Steal steal);
    }

-- nothing was run yet: no worker settled anything
lazy_start : IsLazyTally no_tally
lazy_start = record { evaluated = omega arith; rolled = omega arith; spread = refl }

pub balanced_start : (planning : Planning) (workers : ℕ) → IsBalanced planning workers no_tally
balanced_start planning workers = record {
  events = refl;
  settled = refl;
  inside = λ w above. counts_of_none w;
  evaluated = omega arith;
  rolled = omega arith;
  rest = omega arith;
  stolen = omega arith;
  alone = λ one. record { none = refl; mine = refl; stolen = refl };
  by = λ f is. record { by_strata = λ strata. refl; lazy = λ lazy. lazy_start; evaluated = λ one lazy. refl; handed = λ one lazy steal. refl };
}

at_start : (planning : Planning) (workers : ℕ) → Tallied planning workers [] [] no_tally
at_start planning workers = record {
  ran = nothing_ran planning;
  sound = All-nil (IsSoundAccount workers);
  counts = record {
    batches = refl;
    events = refl;
    committed = ap committed_in (sym (fates-nil opening_state));
    aborted = ap aborted_in (sym (fates-nil opening_state));
    ops = refl;
    evaluated = refl;
    spread = refl;
    rolled = refl;
    settled = λ w few. counts_of_none w;
    workers = refl;
    left = refl;
    handed = refl;
    stolen = refl;
  };
  founded = record {
    committed = omega arith;
    dealt = omega arith;
    by_strata = λ strata. refl;
    lazy = λ lazy. lazy_start;
    evaluated = λ one lazy. refl;
    rolled = λ one lazy. refl;
    handed = λ one lazy steal. refl;
  };
  balanced = balanced_start planning workers;
  few_batches = omega arith;
  few_ops = omega arith;
}

pub tallied_start : (planning : Planning) (workers : ℕ) (t : Tally) → t ≡ no_tally → Tallied planning workers [] [] t
tallied_start planning workers t is = subst (Tallied planning workers [] []) (sym is) (at_start planning workers)

first_of_sum : (xs : List ℕ) → get_or xs 0 0 ≤ sum xs
first_of_sum [] = omega arith
first_of_sum (x ∷ xs) = let whole = sum_by-cons (λ n. n) x xs in omega (arith, whole)

-- what one account more adds to a sum over accounts
adds_one : (f : Account → ℕ) (accounts : List Account) (a : Account) (old new : ℕ) → new ≡ old + f a → old ≡ sum_by f accounts → new ≡ sum_by f (accounts ++ a ∷ [])
adds_one f accounts a old new adds so_far = adds ∙ ap (λ k. k + f a) so_far ∙ sym (sum_by_push f accounts a)

-- the same of a sum that stops at the greatest number
counts_one : (f : Account → ℕ) (accounts : List Account) (a : Account) (old new : ℕ) → new ≡ counted_to (old + f a) → old ≡ counted_to (sum_by f accounts) →
    new ≡ counted_to (sum_by f (accounts ++ a ∷ []))
counts_one f accounts a old new adds so_far = adds ∙ ap (λ k. counted_to (k + f a)) so_far ∙ counted_more (sum_by f accounts) (f a) ∙ ap counted_to (sym (sum_by_push f accounts a))

all_front : {X : Type 0} (P : X → Type 0) (xs : List X) (x : X) → All P (xs ++ x ∷ []) → All P xs
all_front P [] x all = All-nil P
all_front P (y ∷ ys) x all = All-cons P y ys (all 0 y (omega arith)) (all_front P ys x (All-tail P y (ys ++ x ∷ []) all))

all_last : {X : Type 0} (P : X → Type 0) (xs : List X) (x : X) → All P (xs ++ x ∷ []) → P x
all_last P [] x all = all 0 x (omega arith)
all_last P (y ∷ ys) x all = all_last P ys x (All-tail P y (ys ++ x ∷ []) all)

-- an account of a batch is as its way to abort and its way to explore say
at_lazy : (workers : ℕ) (a : Account) → IsSoundAccount workers a → a.strategy.abort ≡ Lazy → (a.counts.evaluated + a.counts.spread ≤ 2 * op_count a.plan) × (a.counts.spread + a.counts.rolled ≤ op_count a.plan)
at_lazy workers a sound is =
    let cap : cap_for a.strategy.abort ≡ 1 = ap cap_for is in
    let evaluated : a.counts.evaluated + a.counts.spread ≤ (1 + 1) * op_count a.plan = subst (λ n. a.counts.evaluated + a.counts.spread ≤ (n + 1) * op_count a.plan) cap sound.evaluated in
    let rolled : a.counts.spread + a.counts.rolled ≤ 1 * op_count a.plan = subst (λ n. a.counts.spread + a.counts.rolled ≤ n * op_count a.plan) cap sound.rolled in
    (omega (arith, evaluated), omega (arith, rolled))

dealt_few : (workers : ℕ) (a : Account) → IsSoundAccount workers a → dealt_count a ≤ a.handed
dealt_few workers a sound = by_explore a.strategy.explore sound.dealt
  where
    by_explore : (e : Explore) → (e ≡ Steal → length (level_one a.plan) ≤ a.handed) → dealt_by e a.plan ≤ a.handed
    by_explore Strata dealt = omega arith
    by_explore Steal dealt = dealt refl

module _ (planning : Planning) (workers : ℕ) (done : List (List Transaction)) (accounts : List Account) (t t' : Tally) (batch : List Transaction) (a : Account) (fs : List Fate)
    (so_far : Tallied planning workers done accounts t) (adds : CountsBatch t t' a fs) (sound : IsSoundAccount workers a) where
  counts_more : run_fates (done ++ batch ∷ []) ≡ run_fates done ++ fs → IsTallyOf (done ++ batch ∷ []) (accounts ++ a ∷ []) t'
  counts_more told =
      let counts = so_far.counts in
      record {
        batches = let before = counts.batches in let now = adds.batches in let long : length (done ++ batch ∷ []) ≡ length done + 1 = length-append done (batch ∷ []) in
            omega (arith, before, now, long);
        events = let before = counts.events in let now = adds.events in let all = adds.both in omega (arith, before, now, all);
        committed = adds.committed ∙ ap (λ k. k + committed_in fs) counts.committed ∙ sym (sum_by-append (λ (f : Fate). cond f.committed 1 0) (run_fates done) fs) ∙ ap committed_in (sym told);
        aborted = adds.aborted ∙ ap (λ k. k + aborted_in fs) counts.aborted ∙ sym (sum_by-append (λ (f : Fate). cond (not f.committed) 1 0) (run_fates done) fs) ∙ ap aborted_in (sym told);
        ops = adds_one (λ a. op_count a.plan) accounts a t.ops t'.ops adds.ops counts.ops;
        evaluated = adds_one (λ a. a.counts.evaluated) accounts a t.evaluated t'.evaluated adds.evaluated counts.evaluated;
        spread = adds_one (λ a. a.counts.spread) accounts a t.spread t'.spread adds.spread counts.spread;
        rolled = adds_one (λ a. a.counts.rolled) accounts a t.rolled t'.rolled adds.rolled counts.rolled;
        settled = λ w few. adds_one (λ a. settled_by a.by w) accounts a (get_or t.settled_by w 0) (get_or t'.settled_by w 0) (adds.settled w few) (counts.settled w few);
        workers = adds.workers;
        left = counts_one (λ a. a.left) accounts a t.left t'.left adds.left counts.left;
        handed = counts_one (λ a. a.handed) accounts a t.handed t'.handed adds.handed counts.handed;
        stolen = counts_one (λ a. a.stolen) accounts a t.stolen t'.stolen adds.stolen counts.stolen;
      }

  lazy_more : IsLazyTally t → a.strategy.abort ≡ Lazy → IsLazyTally t'
  lazy_more old is =
      let few = at_lazy workers a sound is in
      let ops = adds.ops in
      record {
        evaluated = let before = old.evaluated in let new = few.0 in let now = adds.evaluated in omega (arith, before, new, now, ops);
        rolled = let before = old.rolled in let new = few.1 in let now = adds.rolled in omega (arith, before, new, now, ops);
        spread = let before = old.spread in let new = sound.spread is in let now = adds.spread in omega (arith, before, new, now);
      }

  founded_more : FollowsAccounts workers (accounts ++ a ∷ []) t'
  founded_more =
      let before = so_far.founded in
      let ops = adds.ops in
      let lazy : AreLazy (accounts ++ a ∷ []) → AreLazy accounts × (a.strategy.abort ≡ Lazy) = λ all. (all_front (λ b. b.strategy.abort ≡ Lazy) accounts a all, all_last (λ b. b.strategy.abort ≡ Lazy) accounts a all) in
      let explored : (e : Explore) → AreExploredBy e (accounts ++ a ∷ []) → AreExploredBy e accounts × (a.strategy.explore ≡ e) =
      λ e all. (all_front (λ b. b.strategy.explore ≡ e) accounts a all, all_last (λ b. b.strategy.explore ≡ e) accounts a all) in
      record {
        committed =
            let old = before.committed in let new = sound.committed in let now = adds.evaluated in let all = sum_by_push committed_by_workers accounts a in
            omega (arith, old, new, now, all);
        dealt = let old = before.dealt in let new = dealt_few workers a sound in let now = adds.handed in let all = sum_by_push dealt_count accounts a in omega (arith, old, new, now, all);
        by_strata = λ all.
            let both = explored Strata all in let old = before.by_strata both.0 in let new = sound.by_strata both.1 in let now = adds.handed in omega (arith, old, new, now);
        lazy = λ all. let both = lazy all in lazy_more (before.lazy both.0) both.1;
        evaluated = λ one all.
            let both = lazy all in
            let old = before.evaluated one both.0 in
            let new = (sound.alone one).evaluated both.1 in
            let rolled = adds.rolled in
            let now = adds.evaluated in
            omega (arith, old, new, rolled, now, ops);
        rolled = λ one all.
            let both = lazy all in
            adds_one (λ a. stale_count a.plan) accounts a t.rolled t'.rolled (adds.rolled ∙ ap (λ k. t.rolled + k) ((sound.alone one).rolled both.1)) (before.rolled one both.0);
        handed = λ one all steals.
            let both = lazy all in
            let stole = explored Steal steals in
            let old = before.handed one both.0 stole.0 in
            let new = (sound.alone one).handed both.1 stole.1 in
            let now = adds.handed in
            let fits = adds.fits in
            omega (arith, old, new, now, ops, fits);
      }

  balanced_more : AreRunFrom planning opening_state no_last (done ++ batch ∷ []) (accounts ++ a ∷ []) → IsBalanced planning workers t'
  balanced_more ran =
      let before = so_far.balanced in
      let ops = adds.ops in
      let each = sound.each in
      let few = at_any workers a sound in
      let evaluated_few = few.0 in
      let rolled_few = few.1 in
      record {
        events = let old = before.events in let now = adds.events in let all = adds.both in omega (arith, old, now, all);
        settled = let old = before.settled in let now = adds.settled_all in omega (arith, old, now, ops, each);
        inside = λ w above. settled_beyond t t' a workers w adds.settled adds.workers sound.inside above (before.inside w above);
        evaluated = let old = before.evaluated in let now = adds.evaluated in let spread = adds.spread in omega (arith, old, evaluated_few, now, spread, ops);
        rolled = let old = before.rolled in let now = adds.rolled in let spread = adds.spread in omega (arith, old, rolled_few, now, spread, ops);
        rest =
            let old = before.rest in
            let new = sound.rest in
            let now = adds.settled 0 (omega arith) in
            let left = adds.left in
            let all = adds.settled_all in
            let settled = before.settled in
            let fits = adds.fits in
            let part = first_of_sum t'.settled_by in
            omega (arith, old, new, now, left, all, settled, each, ops, fits, part);
        stolen = let old = before.stolen in let new = sound.stolen in let handed = adds.handed in let stolen = adds.stolen in omega (arith, old, new, handed, stolen);
        alone = λ one.
            let old = before.alone one in
            let new = sound.alone one in
            record {
              none = let zero = old.none in let none = new.none in let now = adds.left in omega (arith, zero, none, now);
              mine = let all = old.mine in let mine = new.mine in let now = adds.settled 1 (omega arith) in omega (arith, all, mine, now, ops);
              stolen = let none = old.stolen in let nobody = new.stolen in let now = adds.stolen in omega (arith, none, nobody, now);
            };
        by = λ f is. by_strategy f workers (accounts ++ a ∷ []) t' (ran_fixed planning f opening_state no_last (done ++ batch ∷ []) (accounts ++ a ∷ []) is ran) founded_more;
      }

  pub tallied_more : IsMadeOf (run_state done) batch a.plan → a.strategy ≡ strategy_by planning a.plan (last_after done) → run_fates (done ++ batch ∷ []) ≡ run_fates done ++ fs → 0 < length fs →
      Tallied planning workers (done ++ batch ∷ []) (accounts ++ a ∷ []) t'
  tallied_more made chosen told some =
      let few_ops : op_count a.plan ≤ EVENT_OPS * EVENTS = op_count-small a.plan made.valid.plan in
      let ran = ran_more planning opening_state no_last done accounts batch a so_far.ran made chosen in
      record {
        ran = ran;
        sound = All-append (IsSoundAccount workers) accounts (a ∷ []) so_far.sound (All-cons (IsSoundAccount workers) a [] sound (All-nil (IsSoundAccount workers)));
        counts = counts_more told;
        founded = founded_more;
        balanced = balanced_more ran;
        few_batches = let before = so_far.few_batches in let now = adds.batches in let events = adds.events in omega (arith, before, now, events, some);
        few_ops = let before = so_far.few_ops in let now = adds.batches in let ops = adds.ops in omega (arith, before, now, ops, few_ops);
      }
