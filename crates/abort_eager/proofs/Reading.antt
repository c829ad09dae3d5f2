-- An operation reads from one of some operations exactly where one of its places does.
use Rattle.std.proofs.Common.{◌≡◌, ℕ, ◌<◌, ◌≤◌, true, false, not, [], length, get_or, refl, sym, ap, ◌∙◌, subst, inl, inr, arith, ltb}
use Rattle.std.proofs.lemmas.Bool.{false≢true, and_parts, and_from, not-true, ltb-true, ltb-false, lt-ltb, le-ltb, eqb-true, eq-eqb, cases_Bool}
use Rattle.std.proofs.lemmas.List.{get_or-take, length-take-le, get_or_default}
use Rattle.std.proofs.lemmas.List.Folds.{Any-from_list_any, list_any_at}
use Rattle.morph_base.specs.declared.plan.Plan.{Plan}
use Rattle.morph_base.specs.declared.plan.Origin.{Origin}
use Rattle.morph_base.specs.declared.plan.Origin.TheVariants.{Base, Op as Written}
use Rattle.morph_base.specs.Plans.{IsPlan, op_count, op_at, keys_of, origin_at, origins_of}
use Rattle.morph_base.specs.Graphs.{reads_from, is_written_by}
use Rattle.morph_base.proofs.OutcomeLaws.{keys_fit}
use Rattle.interleaving_core.specs.Core.{places}
use Rattle.abort_eager.specs.Targets.{is_among, place_targets}
use Rattle.abort_eager.proofs.Placing.{places_none, places_some}

pub among_bounds : (first end s : ℕ) → is_among first end (Written s) ≡ true → (first ≤ s) × (s < end)
among_bounds first end s among =
    let parts = and_parts (not (ltb s first)) (ltb s end) among in
    (ltb-false s first (not-true (ltb s first) parts.0), ltb-true s end parts.1)

pub bounds_among : (first end s : ℕ) → first ≤ s → s < end → is_among first end (Written s) ≡ true
bounds_among first end s low high = and_from (not (ltb s first)) (ltb s end) (ap not (le-ltb s first low)) (lt-ltb s end high)

module _ (p : Plan) (first end q : ℕ) (valid : IsPlan p) (lt : q < op_count p) where
  many_origins : length (origins_of p q) ≡ places p q
  many_origins = length-take-le (length (keys_of p q)) (op_at p q).origins (keys_fit p q valid lt)

  origin_used : (j : ℕ) → j < places p q → get_or (origins_of p q) j (Base 0) ≡ origin_at p q j
  origin_used j below = get_or-take (length (keys_of p q)) (op_at p q).origins j (Base 0) below

  -- what does not read from them has no such place
  pub unread : ((k : ℕ) → first ≤ k → k < end → reads_from p k q ≡ false) → place_targets p first end q 0 (places p q) ≡ []
  unread none = places_none p first end q 0 (places p q) (λ i low high. other i (omega arith) (origin_at p q i) refl)
    where
      other : (i : ℕ) → i < places p q → (o : Origin) → origin_at p q i ≡ o → is_among first end (origin_at p q i) ≡ false
      other i below (Base v) is = ap (is_among first end) is
      other i below (Written s) is =
          elim (cases_Bool (is_among first end (Written s))) [
            | inr out ↦ ap (is_among first end) is ∙ out
            | inl among ↦ (
                let bounds = among_bounds first end s among in
                let by : is_written_by s (get_or (origins_of p q) i (Base 0)) ≡ true = ap (is_written_by s) (origin_used i below ∙ is) ∙ eq-eqb s s refl in
                let reads = list_any_at (is_written_by s) (origins_of p q) i (Base 0) (subst (λ n. i < n) (sym many_origins) below) by in
                absurd (false≢true (sym (none s bounds.0 bounds.1) ∙ reads)))
          ]

  -- what reads from one of them has one
  pub has_place : (k : ℕ) → first ≤ k → k < end → reads_from p k q ≡ true → place_targets p first end q 0 (places p q) ≡ [] → ⊥
  has_place k low high reads empty =
      let some = Any-from_list_any (is_written_by k) (origins_of p q) reads in
      let i : ℕ = some.0 in
      let below : i < places p q = subst (λ n. i < n) many_origins some.2 in
      let same = get_or_default (origins_of p q) i some.1 (Base 0) some.2 in
      let by : is_written_by k (origin_at p q i) ≡ true = ap (is_written_by k) (sym (origin_used i below) ∙ sym same ∙ some.3) ∙ some.4 in
      places_some p first end q 0 (places p q) i (omega arith) (omega arith) (among i by (origin_at p q i) refl) empty
    where
      among : (i : ℕ) → is_written_by k (origin_at p q i) ≡ true → (o : Origin) → origin_at p q i ≡ o → is_among first end (origin_at p q i) ≡ true
      among i by (Base v) is = absurd (false≢true (sym (ap (is_written_by k) is) ∙ by))
      among i by (Written s) is =
          let e : s ≡ k = eqb-true s k (sym (ap (is_written_by k) is) ∙ by) in
          ap (is_among first end) is ∙ bounds_among first end s (omega arith) (omega arith)
