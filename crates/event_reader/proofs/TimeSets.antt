-- Timestamps in a vector that rises and in a set.
use Rattle.std.proofs.Common.{◌≡◌, ℕ, ◌<◌, ◌≤◌, ◌≢◌, Bool, true, false, ◌||◌, if◌then◌else◌, List, [], ◌∷◌, ◌++◌, length, get_or, refl, sym, ◌∙◌, ap, arith, Result, Ok, Err, inl, inr}
use Rattle.std.specs.Prelude.{◌==◌, nat_lt, is_ok, MatchResult}
use Rattle.std.specs.BTreeMap.{is_at}
use Rattle.std.specs.BTreeSet.{insert_key}
use Rattle.std.specs.declared.cmp.Ordering.{Ordering}
use Rattle.std.specs.declared.cmp.Ordering.TheVariants.{Less, Equal, Greater}
use Rattle.std.specs.List.{All, list_any}
use Rattle.std.specs.List.Sorted.{IsBinarySearchResult}
use Rattle.std.specs.Ordering.{nat_cmp, match_ordering}
use Rattle.std.proofs.lemmas.Bool.{cases_lt, cases_eq}
use Rattle.std.proofs.lemmas.Bool.Decides.{nat_tests}
use Rattle.std.proofs.lemmas.List.Elements.{All-head, All-tail, All-cons, All-from_get_or}
use Rattle.std.proofs.lemmas.List.Folds.{list_any-append}
use Rattle.std.proofs.lemmas.List.Sorted.{searched}
use Rattle.event_reader.specs.Times.{is_among}

-- a timestamp that none of them is is not among them
none_is : (times : List ℕ) (ts : ℕ) → All (λ t. t ≢ ts) times → is_among times ts ≡ false
none_is [] ts none = refl
none_is (t ∷ times) ts none =
    let differs : (t == ts) ≡ false = grind (arith, nat_tests, All-head (λ t. t ≢ ts) t times none) in
    rw differs (none_is times ts (All-tail (λ t. t ≢ ts) t times none))

-- one above them all is not among them
pub none_above : (times : List ℕ) (greatest ts : ℕ) → All (λ t. t ≤ greatest) times → greatest < ts → is_among times ts ≡ false
none_above [] greatest ts bound above = refl
none_above (t ∷ times) greatest ts bound above =
    let differs : (t == ts) ≡ false = grind (arith, nat_tests, All-head (λ t. t ≤ greatest) t times bound) in
    rw differs (none_above times greatest ts (All-tail (λ t. t ≤ greatest) t times bound) above)

-- one that a search of rising timestamps does not find is not among them
pub not_found : (times : List ℕ) (ts : ℕ) (found : Result ℕ ℕ) → is_ok found ≡ false → IsBinarySearchResult (λ t. nat_cmp t ts) times found
    → ((i j : ℕ) → i ≤ j → j < length times → get_or times i 0 ≤ get_or times j 0) → is_among times ts ≡ false
not_found times ts found fails result rises = by_found found fails (searched times ts found result rises)
  where
    by_found : (found : Result ℕ ℕ) → is_ok found ≡ false
        → MatchResult found (λ i. (i < length times) × (get_or times i 0 ≡ ts))
        (λ i. (i ≤ length times) × ((k : ℕ) → k < i → get_or times k 0 < ts) × ((k : ℕ) → i ≤ k → k < length times → ts < get_or times k 0))
        → is_among times ts ≡ false
    by_found (Ok i) fails at = absurd (cc)
    by_found (Err i) fails at =
        none_is times ts
        (All-from_get_or (λ t. t ≢ ts) times 0
        (λ k inside same. elim (cases_lt k i) [ inl low ↦ omega (arith, at.1 k low, same) | inr high ↦ omega (arith, at.2 k high inside, same) ]))

-- two numbers compare equal where they are
equal_is : (ts t : ℕ) → is_at (nat_cmp ts) t ≡ (t == ts)
equal_is ts t = elim (cases_lt ts t) [
  | inl low ↦ let less : nat_lt ts t ≡ true = grind (arith, nat_tests) in
      let differs : (t == ts) ≡ false = grind (arith, nat_tests) in
      rw (less, differs) refl
  | inr high ↦ elim (cases_eq ts t) [
    | inl same ↦ let not_less : nat_lt ts t ≡ false = grind (arith, nat_tests) in
        let equal : (ts == t) ≡ true = grind (arith, nat_tests) in
        let equal' : (t == ts) ≡ true = grind (arith, nat_tests) in
        rw (not_less, equal, equal') refl
    | inr other ↦ let not_less : nat_lt ts t ≡ false = grind (arith, nat_tests) in
        let differs : (ts == t) ≡ false = grind (arith, nat_tests) in
        let differs' : (t == ts) ≡ false = grind (arith, nat_tests) in
        rw (not_less, differs, differs') refl
  ]
]

-- a set has a timestamp where it is among its keys
pub contains_is : (times : List ℕ) (ts : ℕ) → list_any (is_at (nat_cmp ts)) times ≡ is_among times ts
contains_is [] ts = refl
contains_is (t ∷ times) ts =
    rw (equal_is ts t, contains_is times ts) refl

-- with one more, wherever it is put
pub bound_inserted : (times : List ℕ) (greatest ts : ℕ) → All (λ t. t ≤ greatest) times → ts ≤ greatest → All (λ t. t ≤ greatest) (insert_key nat_cmp times ts)
bound_inserted [] greatest ts bound one = All-cons (λ t. t ≤ greatest) ts [] one bound
bound_inserted (t ∷ times) greatest ts bound one =
    by_order (nat_cmp ts t) (bound_inserted times greatest ts (All-tail (λ t. t ≤ greatest) t times bound) one)
  where
    by_order : (order : Ordering) → All (λ t. t ≤ greatest) (insert_key nat_cmp times ts)
        → All (λ t. t ≤ greatest) (match_ordering order (ts ∷ t ∷ times) (t ∷ times) (t ∷ insert_key nat_cmp times ts))
    by_order Less rest = All-cons (λ t. t ≤ greatest) ts (t ∷ times) one bound
    by_order Equal rest = bound
    by_order Greater rest = All-cons (λ t. t ≤ greatest) t (insert_key nat_cmp times ts) (All-head (λ t. t ≤ greatest) t times bound) rest

-- where none of the rising timestamps is it, it is new where it is new to the set
pub fresh_among : (rising others : List ℕ) (ts : ℕ) → is_among rising ts ≡ false → is_among (rising ++ others) ts ≡ list_any (is_at (nat_cmp ts)) others
fresh_among rising others ts none = list_any-append (λ t. t == ts) rising others ∙ rw (none, contains_is others ts) refl

-- what is among them when the set has one more
pub more_among : (rising others others' : List ℕ) (ts : ℕ)
    → ((t : ℕ) → list_any (is_at (nat_cmp t)) others' ≡ (if is_at (nat_cmp ts) t then true else list_any (is_at (nat_cmp t)) others))
    → (t : ℕ) → is_among (rising ++ others') t ≡ (ts == t || is_among (rising ++ others) t)
more_among rising others others' ts updates t =
    list_any-append (λ s. s == t) rising others'
    ∙ ap (λ b. is_among rising t || b) (sym (contains_is others' t) ∙ updates t ∙ rw (equal_is ts t, contains_is others t) refl)
    ∙ by_tests (is_among rising t) (t == ts) (ts == t) (is_among others t) (grind (arith, nat_tests))
    ∙ ap (λ b. ts == t || b) (sym (list_any-append (λ s. s == t) rising others))
  where
    by_tests : (a e e' b : Bool) → e ≡ e' → (a || (if e then true else b)) ≡ (e' || (a || b))
    by_tests a e e' b same = rw same (by_values a e' b)
      where
        by_values : (a e b : Bool) → (a || (if e then true else b)) ≡ (e || (a || b))
        by_values true true b = refl
        by_values true false b = refl
        by_values false true b = refl
        by_values false false b = refl

-- one above the greatest is new
pub new_above : (rising others : List ℕ) (greatest ts : ℕ) → All (λ t. t ≤ greatest) rising → All (λ t. t ≤ greatest) others → greatest < ts
    → is_among (rising ++ others) ts ≡ false
new_above rising others greatest ts bound bound' above =
    list_any-append (λ t. t == ts) rising others
    ∙ rw (none_above rising greatest ts bound above, none_above others greatest ts bound' above) refl
