-- The events up to a time are the first ones of a plan.
use Rattle.std.proofs.Common.{◌≡◌, ℕ, zero, suc, ◌+◌, ◌<◌, ◌≤◌, ◌↔◌, Bool, true, false, cond, nat_le, List, [], ◌∷◌, length, get_or, count_by, not-suc-le-zero, zero-lt-suc, suc-le-suc, le_of_suc-le-suc, ap, ◌∙◌, inl, inr, arith, le-leb, leb-true}
use Rattle.std.proofs.lemmas.List.Sums.{sum_by-cons, count_by-le-length}
use Rattle.std.proofs.lemmas.Bool.{cases_Bool, both_ways}
use Rattle.morph_base.specs.declared.plan.PlanEvent.{PlanEvent}
use Rattle.morph_base.specs.declared.plan.Plan.{Plan}
use Rattle.morph_base.specs.Plans.{IsPlan, event_count, event_at, no_event}

module _ {X : Type 0} (test : X → Bool) (d : X) where
  -- the elements that pass stand in front of those that don't
  abbrev pub PassInFront : List X → Type 0
  PassInFront xs = (i j : ℕ) → i < j → j < length xs → test (get_or xs j d) ≡ true → test (get_or xs i d) ≡ true

  front-tail : (x : X) (xs : List X) → PassInFront (x ∷ xs) → PassInFront xs
  front-tail x xs front i j less inside = front (suc i) (suc j) (suc-le-suc less) (suc-le-suc inside)

  count-more : (x : X) (xs : List X) (b : Bool) → test x ≡ b → count_by test (x ∷ xs) ≡ cond b 1 0 + count_by test xs
  count-more x xs b is = sum_by-cons (λ y. cond (test y) 1 0) x xs ∙ ap (λ t. cond t 1 0 + count_by test xs) is

  -- where the first fails none passes
  none_pass : (x : X) (xs : List X) → PassInFront (x ∷ xs) → test x ≡ false → (i : ℕ) → i < length xs → test (get_or xs i d) ≡ true → ⊥
  none_pass x xs front fails i lt passes = both_ways (test x) fails (front 0 (suc i) (zero-lt-suc i) (suc-le-suc lt) passes)

  -- then they are the first ones, as many as they are
  pub count_by-front : (xs : List X) → PassInFront xs → (i : ℕ) → i < length xs → (i < count_by test xs) ↔ (test (get_or xs i d) ≡ true)
  count_by-front [] front i lt = absurd (not-suc-le-zero lt)
  count_by-front (x ∷ xs) front i lt =
      elim (cases_Bool (test x)) [
        | inl passes ↦ first_passes passes i lt (λ k. count_by-front xs (front-tail x xs front) k)
        | inr fails ↦ first_fails fails i lt (λ k. count_by-front xs (front-tail x xs front) k)
      ]
    where
      first_passes : test x ≡ true → (i : ℕ) → i < length (x ∷ xs) → ((k : ℕ) → k < length xs → (k < count_by test xs) ↔ (test (get_or xs k d) ≡ true))
          → (i < count_by test (x ∷ xs)) ↔ (test (get_or (x ∷ xs) i d) ≡ true)
      first_passes passes zero lt rest =
          let count : count_by test (x ∷ xs) ≡ 1 + count_by test xs = count-more x xs true passes in
          (λ below. passes, λ is. omega arith)
      first_passes passes (suc i) lt rest =
          let count : count_by test (x ∷ xs) ≡ 1 + count_by test xs = count-more x xs true passes in
          let here = rest i (le_of_suc-le-suc lt) in
          (λ below. here.0 (omega arith), λ is. (let less : i < count_by test xs = here.1 is in omega arith))

      passing : test x ≡ false → (i : ℕ) → i < length (x ∷ xs) → test (get_or (x ∷ xs) i d) ≡ true → i < count_by test (x ∷ xs)
      passing fails zero lt is = absurd (both_ways (test x) fails is)
      passing fails (suc i) lt is = absurd (none_pass x xs front fails i (le_of_suc-le-suc lt) is)

      first_fails : test x ≡ false → (i : ℕ) → i < length (x ∷ xs) → ((k : ℕ) → k < length xs → (k < count_by test xs) ↔ (test (get_or xs k d) ≡ true))
          → (i < count_by test (x ∷ xs)) ↔ (test (get_or (x ∷ xs) i d) ≡ true)
      first_fails fails i lt rest =
          let count : count_by test (x ∷ xs) ≡ 0 + count_by test xs = count-more x xs false fails in
          let few : count_by test xs ≤ length xs = count_by-le-length test xs in (
            λ below.
                (let some : 0 < count_by test xs = omega arith in
                let inside : 0 < length xs = omega arith in
                absurd (none_pass x xs front fails 0 inside ((rest 0 inside).0 some))),
            passing fails i lt,
          )

-- event i is among the first, as many as have a time up to t, exactly where its own time is up to t
pub events_until : (p : Plan) (t i : ℕ) → IsPlan p → i < event_count p → (i < count_by (λ e. nat_le e.ts t) p.events.items) ↔ ((event_at p i).ts ≤ t)
events_until p t i valid lt =
    let test : PlanEvent → Bool = λ e. nat_le e.ts t in
    let front : PassInFront test no_event p.events.items = λ k j less inside is.
    (let rising : (event_at p k).ts < (event_at p j).ts = valid.numbering.rising k j less inside in
    let until : (event_at p j).ts ≤ t = leb-true (event_at p j).ts t is in
    le-leb (event_at p k).ts t (omega arith)) in
    let both = count_by-front test no_event p.events.items front i lt in
    (λ below. leb-true (event_at p i).ts t (both.0 below), λ until. both.1 (le-leb (event_at p i).ts t until))
