-- Each operation stands in exactly one unit.
use Rattle.std.proofs.Common.{◌≡◌, ℕ, zero, suc, ◌+◌, ◌-◌, ◌^◌, ◌<◌, ◌≤◌, Bool, true, false, cond, List, [], ◌∷◌, length, get_or, take, drop, drop-cons, map, filter, refl, sym, ◌∙◌, ap, subst, arith, Some, None, inl, inr}
use Rattle.std.specs.Prelude.{slice_get, Contains}
use Rattle.std.specs.List.{All, Any, list_any}
use Rattle.std.specs.List.Sorted.{IsStrictlySortedBy, IsStrictlyIncreasing}
use Rattle.std.specs.declared.cmp.Ordering.TheVariants.{Less, Equal}
use Rattle.std.proofs.lemmas.Bool.{cases_lt}
use Rattle.std.proofs.lemmas.List.{get_or_past, get_or_default, get_or-map, length-map}
use Rattle.std.proofs.lemmas.List.Sums.{length-filter, count_by-le-length}
use Rattle.std.proofs.lemmas.List.FromFn.{length-range_with_len, get_or-range_with_len, length-map-range_with_len, get_or-map-range_with_len}
use Rattle.std.proofs.lemmas.List.Elements.{All-filter, filter_passes}
use Rattle.std.proofs.lemmas.List.Folds.{list_any_at, Any-from_list_any}
use Rattle.std.proofs.lemmas.List.Kept.{IsStrictlyIncreasing-filter}
use Rattle.std.proofs.lemmas.Map.Keys.{sorted_from_strictly_increasing, below_from_sorted, Less-from_sorted}
use Rattle.std.proofs.lemmas.Option.{slice_get_within, get_or_from_slice_get, slice_get-get_or}
use Rattle.morph_base.specs.declared.key.Key.{Key}
use Rattle.morph_base.specs.declared.plan.Plan.{Plan}
use Rattle.morph_base.specs.declared.strategy.Unit.{Unit as UnitKind}
use Rattle.morph_base.specs.declared.strategy.Unit.TheVariants.{Op, Chain}
use Rattle.morph_base.specs.Operations.{same_key, no_key}
use Rattle.morph_base.specs.Plans.{op_count, target}
use Rattle.morph_base.specs.Graphs.{below}
use Rattle.morph_base.proofs.KeyLaws.{same_key-true, same_key-from}
use Rattle.chain_units.specs.Chains.{key_cmp}
use Rattle.chain_units.specs.Units.{chain, targets_in_order, units_of}
use Rattle.chain_units.specs.Places.{StandsAt, IsPartition, AreFewUnits}
use Rattle.chain_units.proofs.KeyOrder.{key_itself}
use Rattle.chain_units.proofs.Insertion.{ordered_rises, ordered_any, ordered_few}

-- ---- the numbers below n that pass a test

pub below_at : (n i : ℕ) → i < n → get_or (below n) i 0 ≡ i
below_at n i inside = get_or-range_with_len 0 n i 0 inside ∙ omega arith

below_rises : (n : ℕ) → IsStrictlyIncreasing (below n)
below_rises n k inside =
    let more : k + 1 < n = omega (arith, length-range_with_len 0 n) in
    let less : k < n = omega arith in
    omega (arith, below_at n k less, below_at n (k + 1) more)

all_below : (n : ℕ) → All (λ o. o < n) (below n)
all_below n k d inside =
    let less : k < n = omega (arith, length-range_with_len 0 n) in
    let is : get_or (below n) k d ≡ 0 + k = get_or-range_with_len 0 n k d less in
    omega arith

module _ (test : ℕ → Bool) (n : ℕ) where
  abbrev passing : List ℕ
  passing = filter test (below n)

  pub passing_rises : IsStrictlyIncreasing passing
  passing_rises = IsStrictlyIncreasing-filter test (below n) (below_rises n)

  pub passes_at : (i o : ℕ) → slice_get passing i ≡ Some o → (o < n) × (test o ≡ true)
  passes_at i o is =
      let inside = slice_get_within passing i o is in
      let here : get_or passing i 0 ≡ o = get_or_from_slice_get passing i o 0 is in (
        subst (λ x. x < n) here (All-filter test (λ x. x < n) (below n) (all_below n) i 0 inside),
        subst (λ x. test x ≡ true) here (filter_passes test (below n) i 0 inside),
      )

  pub once : (i j o : ℕ) → slice_get passing i ≡ Some o → slice_get passing j ≡ Some o → i ≡ j
  once i j o is is' =
      let here : get_or passing i 0 ≡ o = get_or_from_slice_get passing i o 0 is in
      let here' : get_or passing j 0 ≡ o = get_or_from_slice_get passing j o 0 is' in
      let rise = sorted_from_strictly_increasing passing passing_rises in
      elim (cases_lt i j) [
        | inl less ↦ absurd (omega (arith, below_from_sorted passing i j 0 rise less (slice_get_within passing j o is')))
        | inr more ↦ elim (cases_lt j i) [
          | inl less ↦ absurd (omega (arith, below_from_sorted passing j i 0 rise less (slice_get_within passing i o is)))
          | inr same ↦ omega arith
        ]
      ]

-- an element that passes stands among those that do
kept_place : (test : ℕ → Bool) (xs : List ℕ) (i o : ℕ) → slice_get xs i ≡ Some o → test o ≡ true → (j : ℕ) × (slice_get (filter test xs) j ≡ Some o)
kept_place test [] i o is passes = absurd (cc)
kept_place test (x ∷ xs) zero o is passes =
    let same : x ≡ o = cc in by_test (test x) (ap test same ∙ passes)
  where
    by_test : (t : Bool) → t ≡ true → (j : ℕ) × (slice_get (cond t (x ∷ filter test xs) (filter test xs)) j ≡ Some o)
    by_test true t = (0, is)
    by_test false t = absurd (cc)
kept_place test (x ∷ xs) (suc i) o is passes = by_test (test x) (kept_place test xs i o is passes)
  where
    by_test : (t : Bool) → (j : ℕ) × (slice_get (filter test xs) j ≡ Some o) → (j : ℕ) × (slice_get (cond t (x ∷ filter test xs) (filter test xs)) j ≡ Some o)
    by_test true rest = (suc rest.0, rest.1)
    by_test false rest = rest

place_below : (n o : ℕ) → o < n → slice_get (below n) o ≡ Some o
place_below n o inside =
    slice_get-get_or (below n) o 0 (omega (arith, length-range_with_len 0 n)) ∙ ap Some (below_at n o inside)

-- ---- units that are made from a list

module _ {X : Type 0} (f : X → List ℕ) (xs : List X) (d : X) where
  -- an operation of a unit is one of the list that the unit is made from
  pub made_from : (u i o : ℕ) → StandsAt (map f xs) u i o → (u < length xs) × (slice_get (f (get_or xs u d)) i ≡ Some o)
  made_from u i o is = elim (cases_lt u (length xs)) [
    | inl inside ↦ (inside, ap (λ unit. slice_get unit i) (sym (get_or-map f xs u d [] inside)) ∙ is)
    | inr past ↦
        let none : slice_get (get_or (map f xs) u []) i ≡ None = ap (λ unit. slice_get unit i) (get_or_past (map f xs) u [] (omega (arith, length-map xs f))) in
        absurd (cc)
  ]

  pub made_at : (u i o : ℕ) → u < length xs → slice_get (f (get_or xs u d)) i ≡ Some o → StandsAt (map f xs) u i o
  made_at u i o inside is = ap (λ unit. slice_get unit i) (get_or-map f xs u d [] inside) ∙ is

-- ---- single operations

pub single_at : (n u i o : ℕ) → StandsAt (map (λ x. x ∷ []) (below n)) u i o → (o < n) × (u ≡ o) × (i ≡ 0)
single_at n u i o is =
    let made = made_from (λ x. x ∷ []) (below n) 0 u i o is in
    let inside : u < n = omega (arith, made.0, length-range_with_len 0 n) in
    at_place i inside (below_at n u inside) made.1
  where
    at_place : (k : ℕ) → u < n → get_or (below n) u 0 ≡ u → slice_get (get_or (below n) u 0 ∷ []) k ≡ Some o → (o < n) × (u ≡ o) × (k ≡ 0)
    at_place zero inside here is' = let same : u ≡ o = cc in (omega arith, same, refl)
    at_place (suc k) inside here is' = absurd (cc)

pub single_stands : (n o : ℕ) → o < n → StandsAt (map (λ x. x ∷ []) (below n)) o 0 o
single_stands n o inside = made_at (λ x. x ∷ []) (below n) 0 o 0 o (omega (arith, length-range_with_len 0 n)) (ap Some (below_at n o inside))

pub single_unit : (n u : ℕ) → u < n → u ∷ [] ≡ get_or (map (λ x. x ∷ []) (below n)) u []
single_unit n u inside =
    sym (get_or-map (λ x. x ∷ []) (below n) u 0 [] (omega (arith, length-range_with_len 0 n)) ∙ ap (λ x. x ∷ []) (below_at n u inside))

-- one of these numbers, as a range of them
pub one_below : (os all : List ℕ) (o : ℕ) → os ≡ all → all ≡ below (length all) → o < length all → take (o + 1 - o) (drop o os) ≡ o ∷ []
one_below os all o same is inside =
    let there : get_or all o 0 ≡ o = ap (λ xs. get_or xs o 0) is ∙ below_at (length all) o inside in
    let first : drop o all ≡ get_or all o 0 ∷ drop (suc o) all = drop-cons all o 0 inside in
    let one : o + 1 - o ≡ 1 = omega arith in
    ap (λ k. take k (drop o os)) one ∙ ap (λ xs. take 1 (drop o xs)) same ∙ ap (take 1) first ∙ ap (λ x. x ∷ []) there

pub single_count : (n : ℕ) → length (map (λ x. x ∷ []) (below n)) ≡ n
single_count n = length-map-range_with_len (λ x. x ∷ []) 0 n

singles_partition : (n : ℕ) → IsPartition (map (λ x. x ∷ []) (below n)) n
singles_partition n = record {
  all = λ o inside. (o, 0, single_stands n o inside);
  inside = λ u i o is. (single_at n u i o is).0;
  alone = λ u v i j o is is'. ((single_at n u i o is).1 ∙ sym (single_at n v j o is').1, (single_at n u i o is).2 ∙ sym (single_at n v j o is').2);
}

-- ---- chains

module _ (p : Plan) where
  abbrev tests : Key → ℕ → Bool
  tests key o = same_key key (target p o)

  abbrev keys : List Key
  keys = targets_in_order p

  chain_at : (u i o : ℕ) → StandsAt (map (chain p) keys) u i o → (u < length keys) × (o < op_count p) × (get_or keys u no_key ≡ target p o)
  chain_at u i o is =
      let made = made_from (chain p) keys no_key u i o is in
      let passes = passes_at (tests (get_or keys u no_key)) (op_count p) i o made.1 in
      (made.0, passes.0, same_key-true (get_or keys u no_key) (target p o) passes.1)

  -- a key stands once among the keys
  key_once : (u v : ℕ) → u < length keys → v < length keys → get_or keys u no_key ≡ get_or keys v no_key → u ≡ v
  key_once u v inside inside' same = elim (cases_lt u v) [
    | inl less ↦
        let rise : key_cmp (get_or keys u no_key) (get_or keys v no_key) ≡ Less = Less-from_sorted key_cmp keys u v no_key (ordered_rises (map (target p) (below (op_count p)))) less inside' in
        let tied : key_cmp (get_or keys u no_key) (get_or keys v no_key) ≡ Equal = ap (key_cmp (get_or keys u no_key)) (sym same) ∙ key_itself (get_or keys u no_key) in
        absurd (cc)
    | inr more ↦ elim (cases_lt v u) [
      | inl less ↦
          let rise : key_cmp (get_or keys v no_key) (get_or keys u no_key) ≡ Less = Less-from_sorted key_cmp keys v u no_key (ordered_rises (map (target p) (below (op_count p)))) less inside in
          let tied : key_cmp (get_or keys v no_key) (get_or keys u no_key) ≡ Equal = ap (key_cmp (get_or keys v no_key)) same ∙ key_itself (get_or keys v no_key) in
          absurd (cc)
      | inr same' ↦ omega arith
    ]
  ]

  -- each target is one of the keys
  target_among : (o : ℕ) → o < op_count p → (u : ℕ) × (u < length keys) × (get_or keys u no_key ≡ target p o)
  target_among o inside =
      let long : o < length (map (target p) (below (op_count p))) = omega (arith, length-map-range_with_len (target p) 0 (op_count p)) in
      let here : get_or (map (target p) (below (op_count p))) o no_key ≡ target p o = get_or-map-range_with_len (target p) 0 (op_count p) o o no_key inside (omega arith) in
      let among : list_any (same_key (target p o)) (map (target p) (below (op_count p))) ≡ true =
      list_any_at (same_key (target p o)) (map (target p) (below (op_count p))) o no_key long (same_key-from (target p o) _ (sym here)) in
      of_any (Any-from_list_any (same_key (target p o)) keys (ordered_any (same_key (target p o)) (map (target p) (below (op_count p))) ∙ among))
    where
      of_any : Any (λ k. same_key (target p o) k ≡ true) keys → (u : ℕ) × (u < length keys) × (get_or keys u no_key ≡ target p o)
      of_any (u, k, inside', is, same) = (u, inside', get_or_default keys u no_key k inside' ∙ is ∙ sym (same_key-true (target p o) k same))

  chains_partition : IsPartition (map (chain p) keys) (op_count p)
  chains_partition = record {
    all = λ o inside.
        let at = target_among o inside in
        let kept = kept_place (tests (get_or keys at.0 no_key)) (below (op_count p)) o o (place_below (op_count p) o inside) (same_key-from (get_or keys at.0 no_key) (target p o) at.2) in
        (at.0, kept.0, made_at (chain p) keys no_key at.0 kept.0 o at.1 kept.1);
    inside = λ u i o is. (chain_at u i o is).1;
    alone = λ u v i j o is is'.
        let at = chain_at u i o is in
        let at' = chain_at v j o is' in
        let same : u ≡ v = key_once u v at.0 at'.0 (at.2 ∙ sym at'.2) in (
          same,
          once (tests (get_or keys u no_key)) (op_count p) i j o (made_from (chain p) keys no_key u i o is).1
              (made_from (chain p) keys no_key u j o (subst (λ w. StandsAt (map (chain p) keys) w j o) (sym same) is')).1,
        );
  }

pub each_in_one : (p : Plan) (unit : UnitKind) → IsPartition (units_of p unit) (op_count p)
each_in_one p Op = singles_partition (op_count p)
each_in_one p Chain = chains_partition p

-- ---- the operations of a unit rise

one_rises : (o : ℕ) → IsStrictlyIncreasing (o ∷ [])
one_rises o k inside = absurd (omega arith)

none_rises : IsStrictlyIncreasing []
none_rises k inside = absurd (omega arith)

made_rises : {X : Type 0} (f : X → List ℕ) (xs : List X) (d : X) → ((x : X) → IsStrictlyIncreasing (f x)) → (u : ℕ) → IsStrictlyIncreasing (get_or (map f xs) u [])
made_rises f xs d rises u = elim (cases_lt u (length xs)) [
  | inl inside ↦ subst IsStrictlyIncreasing (sym (get_or-map f xs u d [] inside)) (rises (get_or xs u d))
  | inr past ↦ subst IsStrictlyIncreasing (sym (get_or_past (map f xs) u [] (omega (arith, length-map xs f)))) none_rises
]

pub unit_rises : (p : Plan) (unit : UnitKind) (u : ℕ) → IsStrictlyIncreasing (get_or (units_of p unit) u [])
unit_rises p Op u = made_rises (λ o. o ∷ []) (below (op_count p)) 0 one_rises u
unit_rises p Chain u = made_rises (chain p) (targets_in_order p) no_key (λ key. passing_rises (tests p key) (op_count p)) u

-- ---- the keys of the chains

pub keys_rise : (p : Plan) → IsStrictlySortedBy key_cmp (targets_in_order p)
keys_rise p = ordered_rises (map (target p) (below (op_count p)))

pub keys_are_targets : (p : Plan) (key : Key) → Contains (targets_in_order p) key → (o : ℕ) × (o < op_count p) × (target p o ≡ key)
keys_are_targets p key among =
    let here : list_any (same_key key) (targets_in_order p) ≡ true = list_any_at (same_key key) (targets_in_order p) among.0 key among.1 (same_key-from key _ (sym among.2)) in
    of_any (Any-from_list_any (same_key key) (map (target p) (below (op_count p))) (sym (ordered_any (same_key key) (map (target p) (below (op_count p)))) ∙ here))
  where
    of_any : Any (λ k. same_key key k ≡ true) (map (target p) (below (op_count p))) → (o : ℕ) × (o < op_count p) × (target p o ≡ key)
    of_any (o, k, inside, is, same) =
        let less : o < op_count p = omega (arith, length-map-range_with_len (target p) 0 (op_count p)) in
        (o, less, sym (get_or-map-range_with_len (target p) 0 (op_count p) o o k less (omega arith)) ∙ is ∙ sym (same_key-true key k same))

pub targets_are_keys : (p : Plan) (key : Key) → ((o : ℕ) × (o < op_count p) × (target p o ≡ key)) → Contains (targets_in_order p) key
targets_are_keys p key (o, inside, is) =
    let at = target_among p o inside in
    (at.0, at.1, get_or_default (targets_in_order p) at.0 key no_key at.1 ∙ at.2 ∙ is)

-- ---- units are few where operations are

few_pass : (test : ℕ → Bool) (os : List ℕ) → length (filter test os) ≤ length os
few_pass test os = omega (arith, length-filter test os, count_by-le-length test os)

made_few : {X : Type 0} (f : X → List ℕ) (xs : List X) (d : X) (n : ℕ) → ((x : X) → length (f x) ≤ n) → (u : ℕ) → length (get_or (map f xs) u []) ≤ n
made_few f xs d n few u = elim (cases_lt u (length xs)) [
  | inl inside ↦ subst (λ (unit : List ℕ). length unit ≤ n) (sym (get_or-map f xs u d [] inside)) (few (get_or xs u d))
  | inr past ↦ subst (λ (unit : List ℕ). length unit ≤ n) (sym (get_or_past (map f xs) u [] (omega (arith, length-map xs f)))) (omega arith)
]

pub few_units : (p : Plan) (unit : UnitKind) → op_count p < 2 ^ 32 → AreFewUnits (units_of p unit)
few_units p Op small = record {
  unit_numbers = omega (arith, length-map-range_with_len (λ o. o ∷ []) 0 (op_count p));
  places = λ u. omega (arith, made_few (λ o. o ∷ []) (below (op_count p)) 0 1 (λ o. omega arith) u);
}
few_units p Chain small = record {
  unit_numbers = omega (arith, length-map (targets_in_order p) (chain p), ordered_few (map (target p) (below (op_count p))), length-map-range_with_len (target p) 0 (op_count p));
  places = λ u. omega (
    arith,
    made_few (chain p) (targets_in_order p) no_key (op_count p)
        (λ key. omega (arith, few_pass (tests p key) (below (op_count p)), length-range_with_len 0 (op_count p))) u,
  );
}

pub same_partition : (units units' : List (List ℕ)) (n m : ℕ) → units ≡ units' → n ≡ m → IsPartition units' m → IsPartition units n
same_partition units units' n m same same' is = subst (λ us. IsPartition us n) (sym same) (subst (IsPartition units') (sym same') is)
