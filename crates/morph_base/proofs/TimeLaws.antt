-- `by_time` is the one rising order of transactions whose times differ.
use Rattle.std.proofs.Common.{◌≡◌, ◌≤◌, true, false, cond, List, [], ◌∷◌, map, arith, nat_eq, nat_le, get_or}
use Rattle.std.proofs.lemmas.Bool.{cond_both, leb-true, leb-false}
use Rattle.std.specs.List.{IsDistinct}
use Rattle.std.specs.List.Sorted.{IsPermutation, IsNonDecreasingBy}
use Rattle.std.proofs.lemmas.List.Elements.{All-cons, All-nil}
use Rattle.std.proofs.lemmas.List.Sorted.{IsPermutation-refl, IsPermutation-trans, IsPermutation-cons, IsPermutation-middle, All-permutation}
use Rattle.morph_base.specs.Transactions.{Transaction, time, in_front_of_later, by_time}
use Rattle.morph_base.proofs.Rising.{rising_order_is, first_below, IsNonDecreasingBy-tail, IsNonDecreasingBy-cons}

-- a transaction that goes in front of a later one is still among them
in_front-permutes : (e : Transaction) (fs : List Transaction) → IsPermutation (e ∷ fs) (in_front_of_later e fs)
in_front-permutes e [] = IsPermutation-refl (e ∷ [])
in_front-permutes e (f ∷ fs) =
    elim (nat_le e.ts f.ts) as (λ b. IsPermutation (e ∷ f ∷ fs) (cond b (e ∷ f ∷ fs) (f ∷ in_front_of_later e fs))) [
      | true ↦ IsPermutation-refl (e ∷ f ∷ fs)
      | false ↦ IsPermutation-trans (e ∷ f ∷ fs) (f ∷ e ∷ fs) (f ∷ in_front_of_later e fs)
          (IsPermutation-middle (e ∷ []) f fs)
          (IsPermutation-cons f (e ∷ fs) (in_front_of_later e fs) (in_front-permutes e fs))
    ]

pub by_time-permutes : (es : List Transaction) → IsPermutation es (by_time es)
unfolding by_time
by_time-permutes [] = IsPermutation-refl []
by_time-permutes (e ∷ es) =
    IsPermutation-trans (e ∷ es) (e ∷ by_time es) (in_front_of_later e (by_time es))
    (IsPermutation-cons e es (by_time es) (by_time-permutes es))
    (in_front-permutes e (by_time es))

in_front-rises : (e : Transaction) (fs : List Transaction) → IsNonDecreasingBy time fs → IsNonDecreasingBy time (in_front_of_later e fs)
in_front-rises e [] up = IsNonDecreasingBy-cons time e [] (All-nil (λ y. e.ts ≤ y.ts)) up
in_front-rises e (f ∷ fs) up =
    cond_both (nat_le e.ts f.ts) (e ∷ f ∷ fs) (f ∷ in_front_of_later e fs) (λ l. IsNonDecreasingBy time l)
    (λ is. let before = leb-true e.ts f.ts is in
    IsNonDecreasingBy-cons time e (f ∷ fs)
    (All-cons (λ y. e.ts ≤ y.ts) f fs before (λ k d lt. let le : f.ts ≤ time (get_or fs k d) = first_below time f fs up k d lt in omega arith))
    up)
    (λ is. let after = leb-false e.ts f.ts is in
    IsNonDecreasingBy-cons time f (in_front_of_later e fs)
    (All-permutation (λ y. f.ts ≤ y.ts) (e ∷ fs) (in_front_of_later e fs) (in_front-permutes e fs)
    (All-cons (λ y. f.ts ≤ y.ts) e fs (omega arith) (first_below time f fs up)))
    (in_front-rises e fs (IsNonDecreasingBy-tail time f fs up)))

pub by_time-rises : (es : List Transaction) → IsNonDecreasingBy time (by_time es)
unfolding by_time
by_time-rises [] = λ i j d le lt. absurd (omega arith)
by_time-rises (e ∷ es) = in_front-rises e (by_time es) (by_time-rises es)

-- the law of time: every rising order of transactions whose times differ is `by_time`
pub by_time-is : (es fs : List Transaction) → IsDistinct nat_eq (map time es) → IsPermutation es fs → IsNonDecreasingBy time fs → fs ≡ by_time es
by_time-is es fs apart permutes up =
    rising_order_is time es fs (by_time es) apart permutes up (by_time-permutes es) (by_time-rises es)
