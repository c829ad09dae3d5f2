-- What the targets are: other operations of the event of one that failed, and places that read from a source.
use Rattle.std.proofs.Common.{◌≡◌, ◌⊎◌, ℕ, ◌+◌, ◌<◌, ◌≤◌, Bool, true, false, not, length, get_or, refl, sym, ap, ◌∙◌, subst, inl, inr, arith, eqb}
use Rattle.std.specs.Prelude.{Contains, All, filter}
use Rattle.std.specs.List.{range_with_len}
use Rattle.std.proofs.lemmas.Bool.{false≢true, not-true, eqb-false, ne_eqb, cases_eq}
use Rattle.std.proofs.lemmas.List.Elements.{Contains-append_left, Contains-append_right, All-nil, All-append, All-map, All-filter, All-contains, All-contains_itself, filter_passes}
use Rattle.morph_base.specs.declared.plan.Plan.{Plan}
use Rattle.morph_base.specs.declared.plan.Origin.{Origin}
use Rattle.morph_base.specs.declared.plan.Origin.TheVariants.{Base, Op as Written}
use Rattle.morph_base.specs.Plans.{IsPlan, op_count, event_at, origin_at}
use Rattle.morph_base.specs.Graphs.{below}
use Rattle.interleaving_core.specs.Core.{places}
use Rattle.abort_eager.specs.declared.answers.Target.{Target}
use Rattle.abort_eager.specs.declared.answers.Target.TheVariants.{Spread, RollBack}
use Rattle.abort_eager.specs.Targets.{is_among, place_targets, reader_targets, sibling_targets, first_source, source_count, end_source, spread_targets, targets, IsSibling, IsReading}
use Rattle.abort_eager.proofs.Listing.{contains_map, contains_flat_map, all_flat_map, in_range, range_within}
use Rattle.abort_eager.proofs.Reading.{among_bounds, bounds_among}
use Rattle.abort_eager.proofs.Popping.{sibling_of}
use Rattle.op_eval.proofs.Elements.{contains_filter}

module _ (p : Plan) (o : ℕ) (failed : Bool) where
  -- what a target tells
  abbrev Known : Target → Type 0
  Known (Spread s) = IsSibling p o failed s
  Known (RollBack q j) = IsReading p o failed q j

-- an element of a filtered range is within it, and passes
kept_within : (t : ℕ → Bool) (a n i d : ℕ) → i < length (filter t (range_with_len a n)) → (a ≤ get_or (filter t (range_with_len a n)) i d) × (get_or (filter t (range_with_len a n)) i d < a + n)
kept_within t a n i d lt =
    range_within a n (get_or (filter t (range_with_len a n)) i d)
    (All-filter t (Contains (range_with_len a n)) (range_with_len a n) (All-contains_itself (range_with_len a n)) i d lt)

-- ---- sources

source_within : (p : Plan) (o : ℕ) (failed : Bool) (s : ℕ) → IsPlan p → o < op_count p → (s ≡ o) ⊎ IsSibling p o failed s → (first_source p o failed ≤ s) × (s < end_source p o failed)
source_within p o true s valid lt (inl is) = let placed = (valid.numbering.placed o lt).1 in let low = placed.from in let high = placed.below in (omega arith, omega arith)
source_within p o false s valid lt (inl is) = (omega arith, omega arith)
source_within p o true s valid lt (inr other) =
    let within = (valid.numbering.placed s other.in_range).1 in
    subst (λ i. ((event_at p i).first ≤ s) × (s < (event_at p i).first + (event_at p i).count)) (sym other.same_event) (within.from, within.below)
source_within p o false s valid lt (inr other) = absurd (false≢true other.failure)

within_source : (p : Plan) (o : ℕ) (failed : Bool) (s : ℕ) → IsPlan p → o < op_count p → first_source p o failed ≤ s → s < end_source p o failed → (s ≡ o) ⊎ IsSibling p o failed s
within_source p o failed s valid lt low high = elim (cases_eq s o) [ inl is ↦ inl is | inr other ↦ inr (sibling_of p o failed s valid lt low high other) ]

-- ---- all targets are known so

module _ (p : Plan) (o : ℕ) (valid : IsPlan p) (lt : o < op_count p) where
  known_siblings : (failed : Bool) → All (Known p o failed) (spread_targets p o failed)
  unfolding sibling_targets
  known_siblings true =
      All-map (Known p o true) (λ t. Spread t) (filter (λ t. not (eqb t o)) (range_with_len (first_source p o true) (source_count p o true)))
      (λ i d inside.
      let s : ℕ = get_or (filter (λ t. not (eqb t o)) (range_with_len (first_source p o true) (source_count p o true))) i d in
      let bounds = kept_within (λ t. not (eqb t o)) (first_source p o true) (source_count p o true) i d inside in
      let passes = filter_passes (λ t. not (eqb t o)) (range_with_len (first_source p o true) (source_count p o true)) i d inside in
      sibling_of p o true s valid lt bounds.0 bounds.1 (eqb-false s o (not-true (eqb s o) passes)))
  known_siblings false = All-nil (Known p o false)

  module _ (failed : Bool) where
    reading_at : (q j : ℕ) → q < op_count p → j < places p q → is_among (first_source p o failed) (end_source p o failed) (origin_at p q j) ≡ true → (r : Origin) → origin_at p q j ≡ r
        → IsReading p o failed q j
    reading_at q j high below among (Base v) is = absurd (false≢true (sym (ap (is_among (first_source p o failed) (end_source p o failed)) is) ∙ among))
    reading_at q j high below among (Written s) is =
        let bounds = among_bounds (first_source p o failed) (end_source p o failed) s (sym (ap (is_among (first_source p o failed) (end_source p o failed)) is) ∙ among) in
        record { in_range = high; in_places = below; source = s; origin_is = is; source_is = within_source p o failed s valid lt bounds.0 bounds.1 }

    known_places : (q : ℕ) → q < op_count p → All (Known p o failed) (place_targets p (first_source p o failed) (end_source p o failed) q 0 (places p q))
    unfolding place_targets
    known_places q high =
        All-map (Known p o failed) (λ k. RollBack q k) (filter (λ k. is_among (first_source p o failed) (end_source p o failed) (origin_at p q k)) (range_with_len 0 (places p q)))
        (λ i d inside.
        let j : ℕ = get_or (filter (λ k. is_among (first_source p o failed) (end_source p o failed) (origin_at p q k)) (range_with_len 0 (places p q))) i d in
        let bounds = kept_within (λ k. is_among (first_source p o failed) (end_source p o failed) (origin_at p q k)) 0 (places p q) i d inside in
        let passes = filter_passes (λ k. is_among (first_source p o failed) (end_source p o failed) (origin_at p q k)) (range_with_len 0 (places p q)) i d inside in
        let short : j < places p q = omega (arith, bounds.1) in
        reading_at q j high short passes (origin_at p q j) refl)

    known_readers : All (Known p o failed) (reader_targets p (first_source p o failed) (end_source p o failed) 0 (op_count p))
    unfolding reader_targets
    known_readers =
        all_flat_map (Known p o failed) (λ t. place_targets p (first_source p o failed) (end_source p o failed) t 0 (places p t)) (range_with_len 0 (op_count p))
        (λ q inside. known_places q (let bounds = range_within 0 (op_count p) q inside in omega (arith, bounds.1)))

    known_targets : All (Known p o failed) (targets p o failed)
    known_targets =
        All-append (Known p o failed) (spread_targets p o failed) (reader_targets p (first_source p o failed) (end_source p o failed) 0 (op_count p)) (known_siblings failed) known_readers

    pub is_sibling : (s : ℕ) → Contains (targets p o failed) (Spread s) → IsSibling p o failed s
    is_sibling s inside = All-contains (Known p o failed) (targets p o failed) (Spread s) known_targets inside

    pub is_reading : (q j : ℕ) → Contains (targets p o failed) (RollBack q j) → IsReading p o failed q j
    is_reading q j inside = All-contains (Known p o failed) (targets p o failed) (RollBack q j) known_targets inside

  -- ---- and there are all of them

  has_sibling : (failed : Bool) (s : ℕ) → IsSibling p o failed s → Contains (spread_targets p o failed) (Spread s)
  unfolding sibling_targets
  has_sibling true s other =
      let bounds = source_within p o true s valid lt (inr other) in
      contains_map (λ t. Spread t) (filter (λ t. not (eqb t o)) (range_with_len (first_source p o true) (source_count p o true))) s
      (contains_filter (λ t. not (eqb t o)) (range_with_len (first_source p o true) (source_count p o true)) s
      (in_range (first_source p o true) (source_count p o true) s bounds.0 bounds.1)
      (ap not (ne_eqb s o (λ e. other.another (sym e)))))
  has_sibling false s other = absurd (false≢true other.failure)

  module _ (failed : Bool) where
    has_place_at : (q j : ℕ) → IsReading p o failed q j → Contains (place_targets p (first_source p o failed) (end_source p o failed) q 0 (places p q)) (RollBack q j)
    unfolding place_targets
    has_place_at q j reads =
        let bounds = source_within p o failed reads.source valid lt reads.source_is in
        let among = ap (is_among (first_source p o failed) (end_source p o failed)) reads.origin_is ∙ bounds_among (first_source p o failed) (end_source p o failed) reads.source bounds.0 bounds.1 in
        contains_map (λ k. RollBack q k) (filter (λ k. is_among (first_source p o failed) (end_source p o failed) (origin_at p q k)) (range_with_len 0 (places p q))) j
        (contains_filter (λ k. is_among (first_source p o failed) (end_source p o failed) (origin_at p q k)) (range_with_len 0 (places p q)) j
        (in_range 0 (places p q) j (omega arith) (let below = reads.in_places in omega arith)) among)

    has_reader : (q j : ℕ) → IsReading p o failed q j → Contains (reader_targets p (first_source p o failed) (end_source p o failed) 0 (op_count p)) (RollBack q j)
    unfolding reader_targets
    has_reader q j reads =
        contains_flat_map (λ t. place_targets p (first_source p o failed) (end_source p o failed) t 0 (places p t)) (range_with_len 0 (op_count p)) q (RollBack q j)
        (in_range 0 (op_count p) q (omega arith) (let high = reads.in_range in omega arith))
        (has_place_at q j reads)

    pub sibling_listed : (s : ℕ) → IsSibling p o failed s → Contains (targets p o failed) (Spread s)
    sibling_listed s other =
        Contains-append_left (spread_targets p o failed) (reader_targets p (first_source p o failed) (end_source p o failed) 0 (op_count p)) (Spread s) (has_sibling failed s other)

    pub reading_listed : (q j : ℕ) → IsReading p o failed q j → Contains (targets p o failed) (RollBack q j)
    reading_listed q j reads =
        Contains-append_right (spread_targets p o failed) (reader_targets p (first_source p o failed) (end_source p o failed) 0 (op_count p)) (RollBack q j) (has_reader q j reads)
