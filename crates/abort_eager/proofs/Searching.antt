-- What is found in a list of readers, and in several, from a number on.
use Rattle.std.proofs.Common.{◌≡◌, ℕ, ◌+◌, ◌<◌, ◌≤◌, true, false, List, [], length, get_or, sym, ap, ◌∙◌, subst, inl, inr, arith, ltb, Option, Some, None}
use Rattle.std.specs.Prelude.{Contains, All, filter}
use Rattle.std.specs.List.Sorted.{IsNonDecreasingBy, IsPartitionPoint}
use Rattle.std.proofs.lemmas.Bool.{ltb-true, ltb-false, cases_Bool}
use Rattle.std.proofs.lemmas.List.{get_or_default}
use Rattle.std.proofs.lemmas.List.Elements.{Contains-get_or, All-contains, All-filter, filter_passes}
use Rattle.std.proofs.lemmas.List.Kept.{IsNonDecreasingBy-filter}
use Rattle.std.proofs.lemmas.List.FromFn.{length-range_with_len, get_or-range_with_len, length-map-range_with_len, get_or-map-range_with_len}
use Rattle.morph_base.specs.declared.plan.Plan.{Plan}
use Rattle.morph_base.specs.Plans.{op_count}
use Rattle.morph_base.specs.Graphs.{below, reads_from}
use Rattle.morph_base.specs.Readers.{dependents_of}
use Rattle.abort_eager.specs.Finding.{IsFirstAt, IsLesser, AreNone, IsReaderOfFirst, IsFirstReader}
use Rattle.abort_eager.proofs.Listing.{in_range, range_within}
use Rattle.op_eval.proofs.Elements.{contains_filter}

-- ---- the first number that is not below

pub first_some : (xs : List ℕ) (from at : ℕ) → IsPartitionPoint (λ y. ltb y from ≡ true) (λ y. ltb y from ≡ false) xs at → IsNonDecreasingBy (λ (x : ℕ). x) xs → at < length xs
    → (y : ℕ) → y ≡ get_or xs at 0 → IsFirstAt xs from (Some y)
first_some xs from at point rising lt y is =
    ((at, lt, get_or_default xs at y 0 lt ∙ sym is), (let not_below = point.1 at 0 (omega arith) lt in let high = ltb-false (get_or xs at 0) from not_below in omega arith), before)
  where
    before : (x : ℕ) → Contains xs x → x < y → x < from
    before x inside less =
        elim (cases_Bool (ltb inside.0 at)) [
          | inl early ↦ (let b = ltb-true (get_or xs inside.0 x) from (point.0 inside.0 x (omega arith) (ltb-true inside.0 at early)) in let e = inside.2 in omega arith)
          | inr late ↦ (
              let up : get_or xs at 0 ≤ get_or xs inside.0 0 = rising at inside.0 0 (ltb-false inside.0 at late) inside.1 in
              let e = inside.2 in
              let e' : get_or xs inside.0 x ≡ get_or xs inside.0 0 = get_or_default xs inside.0 x 0 inside.1 in
              absurd (omega arith))
        ]

pub first_none : (xs : List ℕ) (from at : ℕ) → IsPartitionPoint (λ y. ltb y from ≡ true) (λ y. ltb y from ≡ false) xs at → length xs ≤ at → IsFirstAt xs from None
first_none xs from at point high x inside =
    let lt = inside.1 in
    let b = ltb-true (get_or xs inside.0 x) from (point.0 inside.0 x (omega arith) (omega arith)) in
    let e = inside.2 in
    omega arith

-- ---- the readers of one operation

-- rows that are the plan's dependents
module _ (p : Plan) (rows : List (List ℕ)) (are : rows ≡ dependents_of p) where
  pub many_lists : length rows ≡ op_count p
  many_lists =
      ap length are
      ∙ length-map-range_with_len (λ o. filter (reads_from p o) (below (op_count p))) 0 (op_count p)

  pub readers_are : (k : ℕ) → k < op_count p → get_or rows k [] ≡ filter (reads_from p k) (below (op_count p))
  readers_are k lt =
      ap (λ ls. get_or ls k []) are
      ∙ get_or-map-range_with_len (λ o. filter (reads_from p o) (below (op_count p))) 0 (op_count p) k k [] lt (omega arith)

module _ (p : Plan) (k : ℕ) (xs : List ℕ) (is : xs ≡ filter (reads_from p k) (below (op_count p))) where
  pub readers_rise : IsNonDecreasingBy (λ (x : ℕ). x) xs
  readers_rise = subst (IsNonDecreasingBy (λ (x : ℕ). x)) (sym is) (IsNonDecreasingBy-filter (λ (x : ℕ). x) (reads_from p k) (below (op_count p)) rise)
    where
      rise : IsNonDecreasingBy (λ (x : ℕ). x) (below (op_count p))
      rise i j d le lt =
          let short : j < op_count p = subst (λ n. j < n) (length-range_with_len 0 (op_count p)) lt in
          let a = get_or-range_with_len 0 (op_count p) i d (omega arith) in
          let b = get_or-range_with_len 0 (op_count p) j d short in
          omega arith

  listed : (t : ℕ) → t < op_count p → reads_from p k t ≡ true → Contains xs t
  listed t lt reads = subst (λ ys. Contains ys t) (sym is) (contains_filter (reads_from p k) (below (op_count p)) t (in_range 0 (op_count p) t (omega arith) (omega arith)) reads)

  inside_plan : All (λ x. x < op_count p) (below (op_count p))
  inside_plan i d lt = let bounds = range_within 0 (op_count p) (get_or (below (op_count p)) i d) (Contains-get_or (below (op_count p)) i d lt) in omega (arith, bounds.1)

  in_plan : (t : ℕ) → Contains xs t → t < op_count p
  in_plan t inside =
      All-contains (λ x. x < op_count p) (filter (reads_from p k) (below (op_count p))) t
      (All-filter (reads_from p k) (λ x. x < op_count p) (below (op_count p)) inside_plan)
      (subst (λ ys. Contains ys t) is inside)

  reading : (t : ℕ) → Contains xs t → reads_from p k t ≡ true
  reading t inside =
      All-contains (λ x. reads_from p k x ≡ true) (filter (reads_from p k) (below (op_count p))) t (filter_passes (reads_from p k) (below (op_count p)))
      (subst (λ ys. Contains ys t) is inside)

  -- where no reader of k from `from` up to `to` is in its list, there is none
  none_listed : (from to : ℕ) → to ≤ op_count p → ((t : ℕ) → Contains xs t → t < to → t < from) → AreNone p k (k + 1) from to
  none_listed from to few below t m low high from_k below_end =
      elim (cases_Bool (reads_from p m t)) [
        | inl reads ↦ (
            let same : m ≡ k = omega arith in
            let there = below t (listed t (omega arith) (subst (λ i. reads_from p i t ≡ true) same reads)) high in
            absurd (omega arith))
        | inr reads ↦ reads
      ]

  -- the first one in its list is its first reader
  pub first_of_one : (from : ℕ) (r : Option ℕ) → IsFirstAt xs from r → IsFirstReader p k (k + 1) from r
  first_of_one from None first = none_listed from (op_count p) (omega arith) (λ t inside less. first t inside)
  first_of_one from (Some q) first =
      let high : q < op_count p = in_plan q first.0 in
      record {
        low = first.1;
        in_range = high;
        source = k;
        from_first = omega arith;
        below_end = omega arith;
        reads = reading q first.0;
        none = none_listed from q (omega arith) first.2;
      }

-- ---- those of several

module _ (p : Plan) (first k from : ℕ) (le : first ≤ k) where
  both_none : (to : ℕ) → AreNone p first k from to → AreNone p k (k + 1) from to → AreNone p first (k + 1) from to
  both_none to before here t m low high from_first below_end =
      elim (cases_Bool (ltb m k)) [
        | inl early ↦ before t m low high from_first (ltb-true m k early)
        | inr late ↦ here t m low high (ltb-false m k late) below_end
      ]

  none_below : (a b to high : ℕ) → high ≤ to → AreNone p a b from to → AreNone p a b from high
  none_below a b to high less none t m low lt = none t m low (omega arith)

  wider : (q : ℕ) (s : IsReaderOfFirst p first k from q) → AreNone p k (k + 1) from q → IsReaderOfFirst p first (k + 1) from q
  wider q s none = record {
    low = s.low;
    in_range = s.in_range;
    source = s.source;
    from_first = s.from_first;
    below_end = omega arith;
    reads = s.reads;
    none = both_none q s.none none;
  }

  later : (q : ℕ) (s : IsReaderOfFirst p k (k + 1) from q) → AreNone p first k from q → IsReaderOfFirst p first (k + 1) from q
  later q s none = record {
    low = s.low;
    in_range = s.in_range;
    source = s.source;
    from_first = omega arith;
    below_end = s.below_end;
    reads = s.reads;
    none = both_none q none s.none;
  }

  -- the lesser of the first readers of those up to k and of k
  first_of_both : (a b r : Option ℕ) → IsFirstReader p first k from a → IsFirstReader p k (k + 1) from b → IsLesser a b r → IsFirstReader p first (k + 1) from r
  first_of_both None None r x y is = subst (IsFirstReader p first (k + 1) from) (sym is) (both_none (op_count p) x y)
  first_of_both None (Some y) r x s is =
      subst (IsFirstReader p first (k + 1) from) (sym is) (later y s (none_below first k (op_count p) y (let lt = s.in_range in omega arith) x))
  first_of_both (Some x) None r s y is =
      subst (IsFirstReader p first (k + 1) from) (sym is) (wider x s (none_below k (k + 1) (op_count p) x (let lt = s.in_range in omega arith) y))
  first_of_both (Some x) (Some y) r s t (inl is) = subst (IsFirstReader p first (k + 1) from) (sym is.1) (wider x s (none_below k (k + 1) y x is.0 t.none))
  first_of_both (Some x) (Some y) r s t (inr is) = subst (IsFirstReader p first (k + 1) from) (sym is.1) (later y t (none_below first k x y is.0 s.none))

  -- one more operation looked at
  pub one_more : (xs : List ℕ) → xs ≡ filter (reads_from p k) (below (op_count p)) → (a b r : Option ℕ) → IsFirstReader p first k from a → IsFirstAt xs from b → IsLesser a b r
      → IsFirstReader p first (k + 1) from r
  one_more xs is a b r before found lesser = first_of_both a b r before (first_of_one p k xs is from b found) lesser

pub no_reader : (p : Plan) (first from : ℕ) → IsFirstReader p first first from None
no_reader p first from t m low high from_first below_end = absurd (omega arith)
