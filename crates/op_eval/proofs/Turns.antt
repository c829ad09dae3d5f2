-- Calls in turn behind calls in turn, and numbers taken from counters.
use Rattle.std.proofs.Common.{◌≡◌, ◌≢◌, ◌⊎◌, ℕ, ◌+◌, false, cond, eqb, List, [], ◌∷◌, ◌++◌, refl, sym, ap, ◌∙◌, subst, inl, inr, arith}
use Rattle.std.specs.Prelude.{Contains}
use Rattle.std.proofs.lemmas.Bool.{eq-eqb, ne_eqb}
use Rattle.std.proofs.lemmas.List.Elements.{Contains-append_left, Contains-append_cases}
use Rattle.std.proofs.lemmas.List.Sums.{sum_by-append}
use Rattle.op_words.specs.declared.trail.Place.{Place}
use Rattle.op_words.specs.declared.trail.View.{View}
use Rattle.op_words.specs.Counting.{place, times}
use Rattle.op_eval.specs.declared.runner.Runner.{Runner}
use Rattle.op_eval.specs.Running.{hand_view}
use Rattle.op_eval.specs.Turns.{CallsInOrder, TakingCall, Took, Tried, MakesTakingCall}
use Rattle.op_eval.proofs.Elements.{contains_first, contains_later, contains_cases}

pub in_turn_append : {C : Type 0} (makes : C → Runner → Runner → Type 0) (ds cs : List C) (a m b : Runner)
    → CallsInOrder makes cs a m → CallsInOrder makes ds m b → CallsInOrder makes (ds ++ cs) a b
in_turn_append makes [] cs a m b first second = subst (CallsInOrder makes cs a) (sym second) first
in_turn_append makes (d ∷ ds) cs a m b first second = (second.0, in_turn_append makes ds cs a m second.0 first second.1, second.2)

-- one number of a counter
pub times_one : (c n : ℕ) → times c (place c n ∷ []) ≡ 1
times_one c n = ap (λ t. 0 + cond t 1 0) (eq-eqb c c refl)

-- ---- the numbers that calls took

pub only_later : (l : ℕ) (c : TakingCall) (cs : List TakingCall) → ((k n : ℕ) → Contains (c ∷ cs) (Took k n) → k ≡ l) → (k n : ℕ) → Contains cs (Took k n) → k ≡ l
only_later l c cs only k n found = only k n (contains_later c cs (Took k n) found)

-- where what is tried takes no number
module _ (tries : ℕ → Runner → Runner → Type 0) (still : (i : ℕ) (a b : Runner) → tries i a b → (hand_view b).places ≡ (hand_view a).places) where
  -- a place that was not there before was taken
  pub places_taken : (cs : List TakingCall) (a b : Runner) → CallsInOrder (MakesTakingCall tries) cs a b → (c n : ℕ) → Contains (hand_view b).places (place c n) → Contains (hand_view a).places (place c n) ⊎ Contains cs (Took c n)
  places_taken [] a b calls c n found = inl (subst (λ r. Contains (hand_view r).places (place c n)) calls found)
  places_taken (Took k m ∷ cs) a b calls c n found =
      elim (Contains-append_cases (hand_view calls.0).places (place k m ∷ []) (place c n) (subst (λ (v : View). Contains v.places (place c n)) calls.2.view found)) [
        | inl old ↦ elim (places_taken cs a calls.0 calls.1 c n old) [ inl before ↦ inl before | inr later ↦ inr (contains_later (Took k m) cs (Took c n) later) ]
        | inr new ↦
            elim (contains_cases (place k m) [] (place c n) new) [
              | inr none ↦ absurd (omega (arith, none.1))
              | inl same ↦ inr (subst (λ x. Contains (Took k m ∷ cs) x) (took_is (ap (λ (x : Place). x.counter) same) (ap (λ (x : Place). x.number) same)) (contains_first (Took k m) cs))
            ]
      ]
    where
      took_is : c ≡ k → n ≡ m → Took k m ≡ Took c n
      took_is e f = ap (λ x. Took x m) (sym e) ∙ ap (Took c) (sym f)
  places_taken (Tried q ∷ cs) a b calls c n found =
      elim (places_taken cs a calls.0 calls.1 c n (subst (λ xs. Contains xs (place c n)) (still q calls.0 b calls.2) found)) [ inl before ↦ inl before | inr later ↦ inr (contains_later (Tried q) cs (Took c n) later) ]

  pub places_hold : (cs : List TakingCall) (a b : Runner) → CallsInOrder (MakesTakingCall tries) cs a b → (x : Place) → Contains (hand_view a).places x → Contains (hand_view b).places x
  places_hold [] a b calls x found = subst (λ r. Contains (hand_view r).places x) (sym calls) found
  places_hold (Took k m ∷ cs) a b calls x found =
      subst (λ (v : View). Contains v.places x) (sym calls.2.view) (Contains-append_left (hand_view calls.0).places (place k m ∷ []) x (places_hold cs a calls.0 calls.1 x found))
  places_hold (Tried q ∷ cs) a b calls x found = subst (λ xs. Contains xs x) (sym (still q calls.0 b calls.2)) (places_hold cs a calls.0 calls.1 x found)

  -- where numbers were taken from one counter, the others are as they were
  pub times_still : (c l : ℕ) → c ≢ l → (cs : List TakingCall) (a b : Runner) → ((k n : ℕ) → Contains cs (Took k n) → k ≡ l) → CallsInOrder (MakesTakingCall tries) cs a b → times c (hand_view b).places ≡ times c (hand_view a).places
  times_still c l other [] a b only calls = ap (λ r. times c (hand_view r).places) calls
  times_still c l other (Took k n ∷ cs) a b only calls =
      let same : k ≡ l = only k n (contains_first (Took k n) cs) in
      ap (λ (v : View). times c v.places) calls.2.view
      ∙ sum_by-append (λ (x : Place). cond (eqb x.counter c) 1 0) (hand_view calls.0).places (place k n ∷ [])
      ∙ ap (λ t. times c (hand_view calls.0).places + (0 + cond t 1 0)) (ne_eqb k c (λ e. other (sym e ∙ same)))
      ∙ none_more (times c (hand_view calls.0).places)
      ∙ times_still c l other cs a calls.0 (only_later l (Took k n) cs only) calls.1
    where
      none_more : (m : ℕ) → m + (0 + cond false 1 0) ≡ m
      none_more m = omega arith
  times_still c l other (Tried q ∷ cs) a b only calls = ap (times c) (still q calls.0 b calls.2) ∙ times_still c l other cs a calls.0 (only_later l (Tried q) cs only) calls.1
