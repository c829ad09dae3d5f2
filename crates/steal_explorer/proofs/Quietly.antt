-- Attempts with the cascades that follow them, in which nothing is asked or pushed.
use Rattle.std.proofs.Common.{◌≡◌, ℕ, zero, suc, false, Bool, Option, Some, None, List, [], ◌∷◌, ◌++◌, refl, sym, subst, arith}
use Rattle.std.specs.Prelude.{All}
use Rattle.std.proofs.lemmas.List.Elements.{All-append, Contains-append_right}
use Rattle.morph_base.specs.declared.plan.Plan.{Plan}
use Rattle.morph_base.specs.declared.strategy.Abort.{Abort}
use Rattle.morph_base.specs.declared.strategy.Abort.TheVariants.{Lazy, Eager}
use Rattle.op_eval.specs.declared.answers.Evaluation.{Evaluation}
use Rattle.op_eval.specs.declared.runner.Runner.{Runner}
use Rattle.op_eval.proofs.Elements.{contains_first, contains_later}
use Rattle.op_eval.proofs.Turns.{in_turn_append}
use Rattle.op_eval.specs.Exploring.{RunRules}
use Rattle.abort_eager.specs.declared.answers.Target.{Target}
use Rattle.abort_eager.specs.Sweeps.{cascade_for, SweepsOne, SweepsAll, SweepsAllFor, AttemptsNoting}
use Rattle.abort_eager.specs.Targets.{targets}
use Rattle.abort_eager.specs.Walks.{WalksUnit}
use Rattle.abort_eager.proofs.Noting.{attempts_of}
use Rattle.abort_eager.proofs.UnitWalks.{by_walk}
use Rattle.steal_explorer.specs.Calls.{ServeCall, Tried, Swept, is_asked, NoneSwept, MakesServeCall, MakesServeCalls, WalkedUnit}
use Rattle.steal_explorer.proofs.Cascading.{eager_lazy}
use Rattle.steal_explorer.proofs.Going.{lazy_one, lazy_both}

all_one : (P : ServeCall → Type 0) (c : ServeCall) → P c → All P (c ∷ [])
all_one P c is zero d lt = is
all_one P c is (suc k) d lt = absurd (omega arith)

-- the calls that touch these targets, the last one first
abbrev touch_calls : List Target → List ServeCall
touch_calls [] = []
touch_calls (g ∷ gs) = touch_calls gs ++ Swept g ∷ []

touches_unasked : (gs : List Target) → All (λ c. is_asked c ≡ false) (touch_calls gs)
touches_unasked [] = λ k d lt. absurd (omega arith)
touches_unasked (g ∷ gs) = All-append (λ c. is_asked c ≡ false) (touch_calls gs) (Swept g ∷ []) (touches_unasked gs) (all_one (λ c. is_asked c ≡ false) (Swept g) refl)

-- the calls of a cascade, if there is one
abbrev cascade_calls : Plan → ℕ → Option Bool → List ServeCall
cascade_calls p o None = []
cascade_calls p o (Some failed) = touch_calls (targets p o failed)

cascade_unasked : (p : Plan) (o : ℕ) (f : Option Bool) → All (λ c. is_asked c ≡ false) (cascade_calls p o f)
cascade_unasked p o None = λ k d lt. absurd (omega arith)
cascade_unasked p o (Some failed) = touches_unasked (targets p o failed)

cascade_lazy : (p : Plan) (o : ℕ) (abort : Abort) (r : Evaluation) → NoneSwept abort (cascade_calls p o (cascade_for abort r))
cascade_lazy p o Lazy r = λ _ k d lt. absurd (omega arith)
cascade_lazy p o Eager r = λ lazy. absurd (eager_lazy Eager refl lazy)

-- a note that leaves the runner as it was
abbrev unnoted : Runner → Runner → Type 0
unnoted m n = n ≡ m

module _ (p : Plan) (cap : ℕ) where
  touches_made : (gs : List Target) (a b : Runner) → SweepsAll p cap unnoted gs a b → MakesServeCalls p cap (touch_calls gs) a b
  touches_made [] a b same = same
  touches_made (g ∷ gs) a b all =
      in_turn_append (MakesServeCall p cap) (touch_calls gs) (Swept g ∷ []) a all.1 b (a, refl, (all.2, subst (λ n. SweepsOne p cap g a n all.2) (sym all.5) all.3)) (touches_made gs all.1 b all.6)

  cascade_made : (o : ℕ) (f : Option Bool) (a b : Runner) → SweepsAllFor p cap unnoted o f a b → MakesServeCalls p cap (cascade_calls p o f) a b
  cascade_made o None a b same = same
  cascade_made o (Some failed) a b all = touches_made (targets p o failed) a b all

module _ (rules : RunRules) (o : ℕ) (r : Evaluation) where
  -- the calls of an attempt and of the cascade that follows, the last one first
  abbrev tried_calls : List ServeCall
  tried_calls = cascade_calls rules.plan o (cascade_for rules.abort r) ++ Tried o ∷ []

  tried_made : (a b : Runner) → AttemptsNoting rules unnoted o a b r → MakesServeCalls rules.plan rules.cap tried_calls a b
  tried_made a b attempts =
      in_turn_append (MakesServeCall rules.plan rules.cap) (cascade_calls rules.plan o (cascade_for rules.abort r)) (Tried o ∷ []) a attempts.0 b (a, refl, (r, attempts.1)) (cascade_made rules.plan rules.cap o (cascade_for rules.abort r) attempts.0 b attempts.2)

  tried_unasked : All (λ c. is_asked c ≡ false) tried_calls
  tried_unasked = All-append (λ c. is_asked c ≡ false) (cascade_calls rules.plan o (cascade_for rules.abort r)) (Tried o ∷ []) (cascade_unasked rules.plan o (cascade_for rules.abort r)) (all_one (λ c. is_asked c ≡ false) (Tried o) refl)

  tried_lazy : NoneSwept rules.abort tried_calls
  tried_lazy = lazy_both rules.abort (cascade_calls rules.plan o (cascade_for rules.abort r)) (Tried o ∷ []) (cascade_lazy rules.plan o rules.abort r) (lazy_one rules.abort (Tried o) refl)

-- ---- walking

module _ (rules : RunRules) where
  walked_first : (o : ℕ) {a b : Runner} {r : Evaluation} → AttemptsNoting rules unnoted o a b r → WalkedUnit rules o a b
  walked_first o {a} {b} {r} tries = record {
    ops = o ∷ [];
    attempts = (a, refl, (r, attempts_of rules unnoted o a b r tries));
    first = contains_first o [];
    calls = tried_calls rules o r;
    made = tried_made rules o r a b tries;
    tried = Contains-append_right (cascade_calls rules.plan o (cascade_for rules.abort r)) (Tried o ∷ []) (Tried o) (contains_first (Tried o) []);
    only = tried_unasked rules o r;
    lazy = tried_lazy rules o r;
  }

  walked_more : (o q : ℕ) {a m b : Runner} {r : Evaluation} → WalkedUnit rules o a m → AttemptsNoting rules unnoted q m b r → WalkedUnit rules o a b
  walked_more o q {a} {m} {b} {r} walked tries = record {
    ops = q ∷ walked.ops;
    attempts = (m, walked.attempts, (r, attempts_of rules unnoted q m b r tries));
    first = contains_later q walked.ops o walked.first;
    calls = tried_calls rules q r ++ walked.calls;
    made = in_turn_append (MakesServeCall rules.plan rules.cap) (tried_calls rules q r) walked.calls a m b walked.made (tried_made rules q r m b tries);
    tried = Contains-append_right (tried_calls rules q r) walked.calls (Tried o) walked.tried;
    only = All-append (λ c. is_asked c ≡ false) (tried_calls rules q r) walked.calls (tried_unasked rules q r) walked.only;
    lazy = lazy_both rules.abort (tried_calls rules q r) walked.calls (tried_lazy rules q r) walked.lazy;
  }

  pub walked_unit : (units : List (List ℕ)) (o : ℕ) (a b : Runner) → WalksUnit (AttemptsNoting rules unnoted) units o a b → WalkedUnit rules o a b
  walked_unit units o a b =
      by_walk (AttemptsNoting rules unnoted) units o a b (λ m. WalkedUnit rules o a m) (λ m r tries. walked_first o tries) (λ q m n r walked tries. walked_more o q walked tries)
