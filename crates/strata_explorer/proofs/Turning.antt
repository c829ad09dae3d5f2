-- Calls in turn: what walks of units are made of, and what they count.
use Rattle.std.proofs.Common.{◌≡◌, ℕ, zero, suc, ◌+◌, ◌<◌, ◌≤◌, Bool, true, cond, List, [], ◌∷◌, length, get_or, refl, sym, ap, ◌∙◌, inl, inr, arith, suc-le-suc, eqb}
use Rattle.std.specs.Prelude.{Contains, All, count_by}
use Rattle.std.proofs.lemmas.Bool.{false≢true, eq-eqb}
use Rattle.std.proofs.lemmas.List.Sums.{sum_by-append}
use Rattle.op_words.specs.declared.trail.Place.{Place}
use Rattle.op_eval.specs.declared.answers.Evaluation.{Evaluation}
use Rattle.op_eval.specs.declared.runner.Runner.{Runner}
use Rattle.op_words.specs.Counting.{times, place}
use Rattle.op_eval.specs.Exploring.{RunRules}
use Rattle.op_eval.specs.Running.{hand_view}
use Rattle.op_eval.proofs.Elements.{contains_first, contains_later, contains_cases}
use Rattle.op_eval.specs.Turns.{TakingCall, Took, Tried}
use Rattle.strata_explorer.specs.Calls.{MakesPassCalls}
use Rattle.abort_eager.specs.Sweeps.{Attempts}
use Rattle.strata_explorer.specs.Passes.{is_tried, names}
use Rattle.abort_eager.specs.Walks.{WalksUnit}
use Rattle.abort_eager.proofs.Sweeping.{attempted}
use Rattle.abort_eager.proofs.UnitWalks.{by_walk}

-- ---- walks

-- the runner tried operations, o among them, and did nothing else
pub record WalkedWithCalls (rules : RunRules) (o : ℕ) (a b : Runner) : Type 0 where
  pub calls : List TakingCall
  pub made : MakesPassCalls rules calls a b
  pub tried : Contains calls (Tried o)
  pub only : All (λ c. is_tried c ≡ true) calls

walked_first : (rules : RunRules) (o : ℕ) {a b : Runner} {r : Evaluation} → Attempts rules o a b r → WalkedWithCalls rules o a b
walked_first rules o {a} {b} {r} tries = record {
  calls = Tried o ∷ [];
  made = (a, refl, (r, tries));
  tried = contains_first (Tried o) [];
  only = λ k d lt. one k d lt;
}
  where
    one : (k : ℕ) (d : TakingCall) → k < 1 → is_tried (get_or (Tried o ∷ []) k d) ≡ true
    one zero d lt = refl
    one (suc k) d lt = absurd (omega arith)

walked_more : (rules : RunRules) (o q : ℕ) {a m b : Runner} {r : Evaluation} → WalkedWithCalls rules o a m → Attempts rules q m b r → WalkedWithCalls rules o a b
walked_more rules o q {a} {m} {b} {r} walked tries = record {
  calls = Tried q ∷ walked.calls;
  made = (m, walked.made, (r, tries));
  tried = contains_later (Tried q) walked.calls (Tried o) walked.tried;
  only = λ k d lt. one k d lt;
}
  where
    one : (k : ℕ) (d : TakingCall) → k < length (Tried q ∷ walked.calls) → is_tried (get_or (Tried q ∷ walked.calls) k d) ≡ true
    one zero d lt = refl
    one (suc k) d lt = walked.only k d (less k lt)
      where
        less : (k : ℕ) → suc k < suc (length walked.calls) → k < length walked.calls
        less k lt = omega arith

pub walked_calls : (rules : RunRules) (o : ℕ) (a b : Runner) → WalksUnit (Attempts rules) rules.units o a b → WalkedWithCalls rules o a b
walked_calls rules o a b =
    by_walk (Attempts rules) rules.units o a b (λ m. WalkedWithCalls rules o a m) (λ m r tries. walked_first rules o tries) (λ q m n r walked tries. walked_more rules o q walked tries)

-- ---- only evaluations

pub count_first : {X : Type 0} (t : X → Bool) (x : X) (xs : List X) → count_by t (x ∷ xs) ≡ (0 + cond (t x) 1 0) + count_by t xs
count_first t x xs = sum_by-append (λ y. cond (t y) 1 0) (x ∷ []) xs

-- where all are evaluations, none takes a place
pub no_take : (cs : List TakingCall) → All (λ c. is_tried c ≡ true) cs → (c n : ℕ) → Contains cs (Took c n) → ⊥
no_take cs all c n found = false≢true (ap is_tried (sym found.2) ∙ all found.0 (Took c n) found.1)

all_later : (x : TakingCall) (xs : List TakingCall) → All (λ c. is_tried c ≡ true) (x ∷ xs) → All (λ c. is_tried c ≡ true) xs
all_later x xs all k d lt = all (suc k) d (suc-le-suc lt)

pub tried_places : (rules : RunRules) (cs : List TakingCall) (a b : Runner) → MakesPassCalls rules cs a b → All (λ c. is_tried c ≡ true) cs → (hand_view b).places ≡ (hand_view a).places
tried_places rules [] a b calls all = ap (λ r. (hand_view r).places) calls
tried_places rules (Took c n ∷ cs) a b calls all = absurd (no_take (Took c n ∷ cs) all c n (contains_first (Took c n) cs))
tried_places rules (Tried o ∷ cs) a b calls all =
    let does = attempted rules o calls.0 b calls.2 in
    does.goes.adds.places ∙ tried_places rules cs a calls.0 calls.1 (all_later (Tried o) cs all)

pub tried_names : (len : ℕ) (cs : List TakingCall) → All (λ c. is_tried c ≡ true) cs → count_by (names len) cs ≡ 0
tried_names len [] all = refl
tried_names len (Took c n ∷ cs) all = absurd (no_take (Took c n ∷ cs) all c n (contains_first (Took c n) cs))
tried_names len (Tried o ∷ cs) all = tried_names len cs (all_later (Tried o) cs all)

-- one of them is counted
pub one_tried : (cs : List TakingCall) (o : ℕ) → Contains cs (Tried o) → 1 ≤ count_by is_tried cs
one_tried [] o found = absurd (omega (arith, found.1))
one_tried (Tried q ∷ cs) o found = let e : count_by is_tried (Tried q ∷ cs) ≡ 1 + count_by is_tried cs = count_first is_tried (Tried q) cs in omega arith
one_tried (Took c n ∷ cs) o found =
    elim (contains_cases (Took c n) cs (Tried o) found) [
      | inl same ↦ absurd (apart same)
      | inr later ↦ (let e : count_by is_tried (Took c n ∷ cs) ≡ 0 + count_by is_tried cs = count_first is_tried (Took c n) cs in let rest = one_tried cs o later in omega arith)
    ]
  where
    apart : Tried o ≡ Took c n → ⊥
    apart e = cc

-- a place of a counter is one that was taken from it
pub times_some : (c n : ℕ) (xs : List Place) → Contains xs (place c n) → 1 ≤ times c xs
times_some c n [] found = absurd (omega (arith, found.1))
times_some c n (x ∷ xs) found =
    let e : times c (x ∷ xs) ≡ (0 + cond (eqb x.counter c) 1 0) + times c xs = count_first (λ (y : Place). eqb y.counter c) x xs in
    elim (contains_cases x xs (place c n) found) [
      | inl same ↦
          let one : times c (x ∷ xs) ≡ (0 + cond true 1 0) + times c xs = e ∙ ap (λ t. (0 + cond t 1 0) + times c xs) (eq-eqb x.counter c (sym (ap (λ (y : Place). y.counter) same))) in
          omega arith
      | inr later ↦ let rest = times_some c n xs later in omega arith
    ]
