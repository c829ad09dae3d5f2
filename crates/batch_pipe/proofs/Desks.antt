-- Plans that are run one after another, and what a teller does with the results.
use Rattle.std.proofs.Common.{◌≡◌, ℕ, ◌+◌, Bool, true, false, List, [], ◌∷◌, ◌++◌, length, refl, ap, sym, subst, ◌∙◌, arith, append-nil, append_assoc}
use Rattle.std.specs.Prelude.{All}
use Rattle.std.proofs.lemmas.List.Elements.{All-tail}
use Rattle.morph_base.specs.States.{State, after_all}
use Rattle.morph_base.specs.Plans.{transactions}
use Rattle.decision_model.specs.declared.counts.Last.{Last}
use Rattle.batch_pipe.specs.declared.items.Sent.{Sent}
use Rattle.batch_pipe.specs.declared.items.Ran.{Ran}
use Rattle.batch_pipe.specs.declared.runner.RunEnd.{RunEnd}
use Rattle.batch_pipe.specs.declared.runner.RunEnd.TheVariants.{Whole, NoMemory, Untold}
use Rattle.batch_pipe.specs.PlannedBatches.{AreNumbered}
use Rattle.batch_pipe.specs.Results.{IsResult, AreTaken, AreTold}
use Rattle.batch_pipe.specs.PlanRuns.{Manner, AreRun, IsSentRun, state_after, last_after, came_of, Desk, Post, Runs, RunsPlans, RunsWaiting, is_told}

pub state_after-append : (s : State) (xs ys : List Sent) → state_after s (xs ++ ys) ≡ state_after (state_after s xs) ys
unfolding state_after
state_after-append s [] ys = refl
state_after-append s (x ∷ xs) ys = state_after-append (after_all s (transactions x.plan)) xs ys

pub last_after-append : (last : Last) (xs ys : List Ran) → last_after last (xs ++ ys) ≡ last_after (last_after last xs) ys
unfolding last_after
last_after-append last [] ys = refl
last_after-append last (x ∷ xs) ys = last_after-append (came_of x) xs ys

pub AreRun-append : (m : Manner) (s : State) (last : Last) (xs ys : List Sent) (rs qs : List Ran) → AreRun m s last xs rs →
    AreRun m (state_after s xs) (last_after last rs) ys qs → AreRun m s last (xs ++ ys) (rs ++ qs)
unfolding AreRun state_after last_after
AreRun-append m s last [] ys [] qs p q = q
AreRun-append m s last [] ys (r ∷ rs) qs p q = absurd p
AreRun-append m s last (x ∷ xs) ys [] qs p q = absurd p
AreRun-append m s last (x ∷ xs) ys (r ∷ rs) qs p q = (p.0, AreRun-append m (after_all s (transactions x.plan)) (came_of r) xs ys rs qs p.1 q)

pub empty_is : {T : Type 0} (xs : List T) → length xs ≡ 0 → xs ≡ []
empty_is [] e = refl
empty_is (x ∷ xs) e = absurd (omega arith)

-- a result that a plan was run to is one by itself
pub is_result : {m : Manner} {s : State} {last : Last} {x : Sent} {r : Ran} → IsSentRun m s last x r → IsResult r
is_result {m} run = record { workers = m.workers; valid = run.valid; settled = run.settled; account = run.account }

module _ {Teller : Type 0} (takes : Teller → Ran → Bool → Teller → Type 0) where
  pub AreTaken-append : (rs qs : List Ran) (a b c : Teller) → AreTaken takes a rs b → AreTaken takes b qs c → AreTaken takes a (rs ++ qs) c
  unfolding AreTaken
  AreTaken-append [] qs a b c p q = subst (λ t. AreTaken takes t qs c) p q
  AreTaken-append (r ∷ rs) qs a b c p q = (p.0, p.1, AreTaken-append rs qs p.0 b c p.2 q)

  pub AreTold-append : (rs qs : List Ran) (all : Bool) (a b c : Teller) → AreTaken takes a rs b → AreTold takes b qs all c → AreTold takes a (rs ++ qs) all c
  AreTold-append rs qs true a b c p q = AreTaken-append rs qs a b c p q
  AreTold-append rs qs false a b c p q = record {
    taken = rs ++ q.taken;
    last = q.last;
    between = q.between;
    parts = ap (λ l. rs ++ l) q.parts ∙ sym (append_assoc rs q.taken (q.last ∷ []));
    before = AreTaken-append rs q.taken a b q.between p q.before;
    refused = q.refused;
  }

  pub told_one : (a b : Teller) (r : Ran) (all : Bool) → takes a r all b → AreTold takes a (r ∷ []) all b
  unfolding AreTaken
  told_one a b r true p = (b, p, refl)
  told_one a b r false p = record { taken = []; last = r; between = a; parts = refl; before = refl; refused = p }

  -- after results were taken, that of the next number can be taken
  pub can_go_on : (m : Manner) (can_take : Teller → ℕ → Type 0)
      (goes_on : (old new : Teller) (ran : Ran) → can_take old ran.number → IsResult ran → takes old ran true new → can_take new (ran.number + 1))
      (s : State) (last : Last) (n : ℕ) (xs : List Sent) (rs : List Ran) (a b : Teller) → AreRun m s last xs rs → AreNumbered n xs → AreTaken takes a rs b →
      can_take a (n + 1) → can_take b (n + length xs + 1)
  unfolding AreRun AreNumbered AreTaken
  can_go_on m can_take goes_on s last n [] [] a b run numbered taken can =
      let none : List Sent = [] in
      let same : n + 1 ≡ n + length none + 1 = omega arith in
      subst (λ t. can_take t (n + length none + 1)) (sym taken) (subst (can_take a) same can)
  can_go_on m can_take goes_on s last n [] (r ∷ rs) a b run numbered taken can = absurd run
  can_go_on m can_take goes_on s last n (x ∷ xs) [] a b run numbered taken can = absurd run
  can_go_on m can_take goes_on s last n (x ∷ xs) (r ∷ rs) a b run numbered taken can =
      let number : r.number ≡ n + 1 = run.0.number ∙ numbered.0 in
      let next : can_take taken.0 (r.number + 1) = goes_on a taken.0 r (subst (can_take a) (sym number) can) (is_result run.0) taken.1 in
      let on : n + 1 + length xs + 1 ≡ n + length (x ∷ xs) + 1 = omega arith in
      subst (can_take b) on
      (can_go_on m can_take goes_on (after_all s (transactions x.plan)) (came_of r) (n + 1) xs rs taken.0 b run.1 numbered.1 taken.2
      (subst (λ k. can_take taken.0 (k + 1)) number next))

  module _ (m : Manner) where
    pub runs_nothing : (a : Desk Teller) → Runs takes m a [] true a
    unfolding AreRun AreTaken state_after last_after
    runs_nothing a = record { rans = []; run = tt; told = refl; state_is = refl; last_is = refl }

    pub runs_one : (a b : Desk Teller) (x : Sent) (r : Ran) (all : Bool) → IsSentRun m a.state a.last x r → takes a.teller r all b.teller →
        b.state ≡ after_all a.state (transactions x.plan) → b.last ≡ came_of r → Runs takes m a (x ∷ []) all b
    unfolding AreRun state_after last_after
    runs_one a b x r all run told state last = record { rans = r ∷ []; run = (run, tt); told = told_one a.teller b.teller r all told; state_is = state; last_is = last }

    pub runs_both : {a b c : Desk Teller} (xs ys : List Sent) (all : Bool) → Runs takes m a xs true b → Runs takes m b ys all c → Runs takes m a (xs ++ ys) all c
    runs_both {a} {b} {c} xs ys all p q = record {
      rans = p.rans ++ q.rans;
      run = AreRun-append m a.state a.last xs ys p.rans q.rans p.run
          (subst (λ (s : State). AreRun m s (last_after a.last p.rans) ys q.rans) p.state_is (subst (λ (l : Last). AreRun m b.state l ys q.rans) p.last_is q.run));
      told = AreTold-append p.rans q.rans all a.teller b.teller c.teller p.told q.told;
      state_is = q.state_is ∙ ap (λ s. state_after s ys) p.state_is ∙ sym (state_after-append a.state xs ys);
      last_is = q.last_is ∙ ap (λ l. last_after l q.rans) p.last_is ∙ sym (last_after-append a.last p.rans q.rans);
    }

    -- all plans were run, and more plans were taken behind them
    pub plans_both : {a b c : Desk Teller} (xs ys : List Sent) (end : RunEnd) → Runs takes m a xs true b → RunsPlans takes m b ys end c → RunsPlans takes m a (xs ++ ys) end c
    plans_both xs ys end p q = record {
      runs = xs ++ q.runs;
      lost = q.lost;
      run = runs_both xs q.runs (is_told end) p q.run;
      parts = ap (λ l. xs ++ l) q.parts ∙ sym (append_assoc xs q.runs q.lost);
      lost_is = q.lost_is;
    }

    -- all plans were taken and run
    pub all_run : {a b : Desk Teller} (xs : List Sent) → RunsPlans takes m a xs Whole b → Runs takes m a xs true b
    all_run {a} {b} xs p =
        subst (λ (l : List Sent). Runs takes m a l true b) (sym (p.parts ∙ ap (λ l. p.runs ++ l) (empty_is p.lost p.lost_is) ∙ append-nil p.runs)) p.run

    pub runs_whole : {a b : Desk Teller} (xs : List Sent) → Runs takes m a xs true b → RunsPlans takes m a xs Whole b
    runs_whole xs p = record { runs = xs; lost = []; run = p; parts = sym (append-nil xs); lost_is = refl }

    -- all that waited was run, and more plans that came over the ring were taken behind them
    pub waiting_both : {a b c : Post Teller} (first known : List Sent) (end : RunEnd) → RunsWaiting takes m a first known Whole b → RunsWaiting takes m b [] [] end c → RunsWaiting takes m a first known end c
    waiting_both {a} {b} {c} first known end p q = record {
      popped = p.popped ++ q.popped;
      plans = subst (λ (l : List Sent). RunsPlans takes m a.desk l end c.desk) (append_assoc first p.popped q.popped)
          (plans_both (first ++ p.popped) q.popped end (all_run (first ++ p.popped) p.plans) q.plans);
      received_is = q.received_is ∙ ap (λ l. l ++ q.popped) p.received_is ∙ append_assoc a.received p.popped q.popped;
      later = p.later ++ q.popped;
      whole = λ is. ap (λ l. l ++ q.popped) (p.whole refl) ∙ append_assoc known p.later q.popped;
    }

    -- memory was refused for a plan
    pub loses_one : (a b : Desk Teller) (x : Sent) → b.state ≡ a.state → b.last ≡ a.last → b.teller ≡ a.teller → RunsPlans takes m a (x ∷ []) NoMemory b
    unfolding AreRun AreTaken state_after last_after
    loses_one a b x state last teller =
        record { runs = []; lost = x ∷ []; run = record { rans = []; run = tt; told = teller; state_is = state; last_is = last }; parts = refl; lost_is = refl }

    -- the result of a plan was refused
    pub refused_one : {a b : Desk Teller} (x : Sent) → Runs takes m a (x ∷ []) false b → RunsPlans takes m a (x ∷ []) Untold b
    refused_one x p = record { runs = x ∷ []; lost = []; run = p; parts = refl; lost_is = refl }

-- of what holds of all, the part in the middle
pub all_middle : {T : Type 0} (P : T → Type 0) (xs ys zs : List T) (x : T) → All P xs → xs ≡ ys ++ x ∷ zs → P x
all_middle P xs [] zs x h e = (let whole = subst (All P) e h in whole 0 x (omega arith))
all_middle P xs (y ∷ ys) zs x h e = all_middle P (ys ++ x ∷ zs) ys zs x (All-tail P y (ys ++ x ∷ zs) (subst (All P) e h)) refl
