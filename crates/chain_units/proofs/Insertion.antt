-- Keys that are put in their places.
use Rattle.std.proofs.Common.{◌≡◌, ◌+◌, ◌≤◌, Bool, true, false, ◌||◌, List, [], ◌∷◌, ◌++◌, length, fold, refl, sym, ◌∙◌, ap, arith}
use Rattle.std.specs.List.{AllByRecursion, list_any}
use Rattle.std.specs.List.Sorted.{IsStrictlySortedBy}
use Rattle.std.specs.Ordering.{match_ordering}
use Rattle.std.specs.declared.cmp.Ordering.{Ordering}
use Rattle.std.specs.declared.cmp.Ordering.TheVariants.{Less, Equal, Greater}
use Rattle.std.proofs.lemmas.List.Sums.{fold-append}
use Rattle.morph_base.specs.declared.key.Key.{Key}
use Rattle.morph_base.specs.Operations.{same_key}
use Rattle.chain_units.specs.Chains.{key_cmp, in_place, ordered}
use Rattle.chain_units.proofs.KeyOrder.{key_cmp_total, tied_keys, flipped, less_differs}

abbrev pub IsBelow : Key → List Key → Type 0
IsBelow key ks = AllByRecursion (λ k. key_cmp key k ≡ Less) ks

pub below_all : (a b : Key) (ks : List Key) → key_cmp a b ≡ Less → IsBelow b ks → IsBelow a ks
below_all a b [] less all = tt
below_all a b (k ∷ ks) less all = (key_cmp_total.trans a b k less all.0, below_all a b ks less all.1)

-- one key more keeps the order
below_in_place : (a key : Key) (ks : List Key) → key_cmp a key ≡ Less → IsBelow a ks → IsBelow a (in_place key ks)
unfolding in_place
below_in_place a key [] less all = (less, tt)
below_in_place a key (k ∷ ks) less all = by_order (key_cmp key k) (below_in_place a key ks less all.1)
  where
    by_order : (o : Ordering) → IsBelow a (in_place key ks) → IsBelow a (match_ordering o (key ∷ k ∷ ks) (k ∷ ks) (k ∷ in_place key ks))
    by_order Less rest = (less, all)
    by_order Equal rest = all
    by_order Greater rest = (all.0, rest)

pub in_place_rises : (key : Key) (ks : List Key) → IsStrictlySortedBy key_cmp ks → IsStrictlySortedBy key_cmp (in_place key ks)
unfolding in_place IsStrictlySortedBy
in_place_rises key [] rise = (tt, tt)
in_place_rises key (k ∷ ks) rise = by_order (key_cmp key k) refl (in_place_rises key ks rise.1)
  where
    by_order : (o : Ordering) → key_cmp key k ≡ o → IsStrictlySortedBy key_cmp (in_place key ks)
        → IsStrictlySortedBy key_cmp (match_ordering o (key ∷ k ∷ ks) (k ∷ ks) (k ∷ in_place key ks))
    by_order Less is rest = ((is, below_all key k ks is rise.0), rise)
    by_order Equal is rest = rise
    by_order Greater is rest = (below_in_place k key ks (flipped key k is) rise.0, rest)

-- the keys are those that were there and the new one
pub any_in_place : (test : Key → Bool) (key : Key) (ks : List Key) → list_any test (in_place key ks) ≡ (test key || list_any test ks)
unfolding in_place
any_in_place test key [] = refl
any_in_place test key (k ∷ ks) = by_order (key_cmp key k) refl (any_in_place test key ks)
  where
    swapped : (a b c : Bool) → (a || (b || c)) ≡ (b || (a || c))
    swapped true true c = refl
    swapped true false c = refl
    swapped false true c = refl
    swapped false false c = refl

    twice : (a c : Bool) → (a || c) ≡ (a || (a || c))
    twice true c = refl
    twice false c = refl

    by_order : (o : Ordering) → key_cmp key k ≡ o → list_any test (in_place key ks) ≡ (test key || list_any test ks)
        → list_any test (match_ordering o (key ∷ k ∷ ks) (k ∷ ks) (k ∷ in_place key ks)) ≡ (test key || (test k || list_any test ks))
    by_order Less is rest = refl
    by_order Equal is rest = twice (test k) (list_any test ks) ∙ ap (λ x. test x || (test k || list_any test ks)) (sym (tied_keys key k is))
    by_order Greater is rest = ap (λ b. test k || b) rest ∙ swapped (test k) (test key) (list_any test ks)

pub few_in_place : (key : Key) (ks : List Key) → length (in_place key ks) ≤ length ks + 1
unfolding in_place
few_in_place key [] = omega arith
few_in_place key (k ∷ ks) = by_order (key_cmp key k) (few_in_place key ks)
  where
    by_order : (o : Ordering) → length (in_place key ks) ≤ length ks + 1
        → length (match_ordering o (key ∷ k ∷ ks) (k ∷ ks) (k ∷ in_place key ks)) ≤ length (k ∷ ks) + 1
    by_order Less rest = omega arith
    by_order Equal rest = omega arith
    by_order Greater rest = omega arith

-- a key below all others is none of them
pub none_above : (key : Key) (ks : List Key) → IsBelow key ks → list_any (same_key key) ks ≡ false
none_above key [] less = refl
none_above key (k ∷ ks) less = ap (λ b. b || list_any (same_key key) ks) (less_differs key k less.0) ∙ none_above key ks less.1

-- so of all keys of a list
abbrev putting : List Key → Key → List Key
putting found key = in_place key found

pub rises_from : (found keys : List Key) → IsStrictlySortedBy key_cmp found → IsStrictlySortedBy key_cmp (fold putting found keys)
rises_from found [] rise = rise
rises_from found (key ∷ keys) rise = rises_from (in_place key found) keys (in_place_rises key found rise)

pub ordered_rises : (keys : List Key) → IsStrictlySortedBy key_cmp (ordered keys)
unfolding IsStrictlySortedBy
ordered_rises keys = rises_from [] keys tt

any_from : (test : Key → Bool) (found keys : List Key) → list_any test (fold putting found keys) ≡ (list_any test found || list_any test keys)
any_from test found [] = sym (or_none (list_any test found))
  where
    or_none : (a : Bool) → (a || false) ≡ a
    or_none true = refl
    or_none false = refl
any_from test found (key ∷ keys) =
    any_from test (in_place key found) keys ∙ ap (λ b. b || list_any test keys) (any_in_place test key found)
    ∙ regrouped (test key) (list_any test found) (list_any test keys)
  where
    regrouped : (a b c : Bool) → ((a || b) || c) ≡ (b || (a || c))
    regrouped true true c = refl
    regrouped true false c = refl
    regrouped false true c = refl
    regrouped false false c = refl

pub ordered_any : (test : Key → Bool) (keys : List Key) → list_any test (ordered keys) ≡ list_any test keys
ordered_any test keys = any_from test [] keys

few_from : (found keys : List Key) → length (fold putting found keys) ≤ length found + length keys
few_from found [] = omega arith
few_from found (key ∷ keys) = omega (arith, few_from (in_place key found) keys, few_in_place key found)

pub ordered_few : (keys : List Key) → length (ordered keys) ≤ length keys
ordered_few keys = omega (arith, few_from [] keys)

pub ordered_more : (keys : List Key) (key : Key) → ordered (keys ++ key ∷ []) ≡ in_place key (ordered keys)
ordered_more keys key = fold-append putting [] keys (key ∷ [])
