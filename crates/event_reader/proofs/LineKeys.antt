-- The keys of a line one by one, and those of which no two are the same.
use Rattle.std.proofs.Common.{◌≡◌, ℕ, ◌+◌, ◌-◌, ◌<◌, ◌≤◌, Bool, true, false, not, ◌&&◌, List, [], ◌∷◌, ◌++◌, length, map, take, drop, get_or, set, refl, sym, ◌∙◌, ap, arith, length-drop, Ok, Err}
use Rattle.std.specs.List.{AllByRecursion, IsDistinct, list_any}
use Rattle.std.proofs.lemmas.List.{drop_more, drop_all, take_all, take_more_set, map_more}
use Rattle.morph_base.specs.declared.key.Key.{Key}
use Rattle.morph_base.specs.Operations.{same_key}
use Rattle.morph_base.specs.Transactions.{Transaction}
use Rattle.event_reader.specs.declared.cause.Cause.TheVariants.{Same}
use Rattle.event_reader.specs.Forms.{unless}
use Rattle.event_reader.specs.Keys.{key_of, are_distinct}
use Rattle.event_reader.proofs.Forms.{both, neither}

-- a key more
pub keys_more : (table : ℕ) (ids : List ℕ) (keys : List Key) (i : ℕ) (key : Key) → i < length ids → i < length keys → key ≡ key_of table (get_or ids i 0)
    → take i keys ≡ map (key_of table) (take i ids) → take (i + 1) (set keys i key) ≡ map (key_of table) (take (i + 1) ids)
keys_more table ids keys i key inside inside' is so_far =
    take_more_set keys i key inside'
    ∙ ap (λ k. take i keys ++ k ∷ []) is
    ∙ ap (λ ks. ks ++ key_of table (get_or ids i 0) ∷ []) so_far
    ∙ sym (map_more (key_of table) ids i 0 inside)

pub distinct_at : (keys : List Key) (i : ℕ) (d : Key) → i < length keys
    → are_distinct (drop i keys) ≡ (not (list_any (same_key (get_or keys i d)) (drop (i + 1) keys)) && are_distinct (drop (i + 1) keys))
unfolding are_distinct
distinct_at keys i d inside = rw (drop_more keys i d inside) refl

pub distinct_end : (keys : List Key) (i : ℕ) → length keys ≤ i → are_distinct (drop i keys) ≡ true
unfolding are_distinct
distinct_end keys i past = rw (drop_all i keys past) refl

pub distinct_cons : (key : Key) (keys : List Key) → are_distinct (key ∷ keys) ≡ (not (list_any (same_key key) keys) && are_distinct keys)
unfolding are_distinct
distinct_cons key keys = refl

-- a test whether the key at a place comes again settles the answer, or leaves it to the keys after it
pub distinct_step : (keys : List Key) (i : ℕ) (d : Key) (found again : Bool) → i < length keys
    → found ≡ list_any (same_key (get_or keys i d)) (take (length keys - (i + 1)) (drop (i + 1) keys)) → found ≡ again
    → are_distinct (drop i keys) ≡ (not again && are_distinct (drop (i + 1) keys))
distinct_step keys i d found again inside is now =
    let whole : take (length keys - (i + 1)) (drop (i + 1) keys) ≡ drop (i + 1) keys = take_all (length keys - (i + 1)) (drop (i + 1) keys) (omega (arith, length-drop (i + 1) keys)) in
    let same : list_any (same_key (get_or keys i d)) (drop (i + 1) keys) ≡ again = ap (list_any (same_key (get_or keys i d))) (sym whole) ∙ sym is ∙ now in
    distinct_at keys i d inside ∙ ap (λ b. not b && are_distinct (drop (i + 1) keys)) same

-- a key more in front, and the event that is refused where it comes again, where others are the same, and else is not
module _ (key : Key) (keys : List Key) (event : Transaction) (again : Bool) (is : again ≡ list_any (same_key key) keys) where
  pub refused_again : again ≡ true → unless (not (are_distinct (key ∷ keys))) event ≡ Err Same
  refused_again here =
      let equal : are_distinct (key ∷ keys) ≡ false = distinct_cons key keys ∙ ap (λ b. not b && are_distinct keys) (sym is ∙ here) in
      rw equal refl

  told_apart : (apart : Bool) → again ≡ false → apart ≡ are_distinct keys → are_distinct (key ∷ keys) ≡ apart
  told_apart apart none distinct = distinct_cons key keys ∙ ap (λ b. not b && are_distinct keys) (sym is ∙ none) ∙ sym distinct

  pub refused_twice : (apart : Bool) → again ≡ false → apart ≡ are_distinct keys → apart ≡ false → unless (not (are_distinct (key ∷ keys))) event ≡ Err Same
  refused_twice apart none distinct twice =
      let equal : are_distinct (key ∷ keys) ≡ false = told_apart apart none distinct ∙ twice in
      rw equal refl

  pub not_refused : (apart : Bool) → again ≡ false → apart ≡ are_distinct keys → apart ≡ true → unless (not (are_distinct (key ∷ keys))) event ≡ Ok event
  not_refused apart none distinct all =
      let equal : are_distinct (key ∷ keys) ≡ true = told_apart apart none distinct ∙ all in
      rw equal refl

-- keys of which no two are the same differ
none_same : (test : Key → Bool) (keys : List Key) → list_any test keys ≡ false → AllByRecursion (λ key. test key ≡ false) keys
none_same test [] none = tt
none_same test (key ∷ keys) none = ((neither (test key) (list_any test keys) none).0, none_same test keys (neither (test key) (list_any test keys) none).1)

pub differ : (keys : List Key) → are_distinct keys ≡ true → IsDistinct same_key keys
unfolding are_distinct IsDistinct
differ [] is = tt
differ (key ∷ keys) is = by_test (list_any (same_key key) keys) refl (both (not (list_any (same_key key) keys)) (are_distinct keys) is).0
    (differ keys (both (not (list_any (same_key key) keys)) (are_distinct keys) is).1)
  where
    by_test : (again : Bool) → list_any (same_key key) keys ≡ again → not again ≡ true → IsDistinct same_key keys → IsDistinct same_key (key ∷ keys)
    by_test true e none distinct = absurd (cc)
    by_test false e none distinct = (none_same (same_key key) keys e, distinct)
