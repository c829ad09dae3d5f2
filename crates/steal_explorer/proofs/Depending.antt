-- The dependents of an operation of a valid plan are its operations that have it as a source.
use Rattle.std.proofs.Common.{◌≡◌, ℕ, ◌<◌, Bool, true, false, List, [], map, length, get_or, sym, ap, ◌∙◌, subst, inl, inr, ◌⊎◌, arith, zero-add}
use Rattle.std.specs.Prelude.{All, Contains, slice_index_or}
use Rattle.std.proofs.lemmas.Bool.{false≢true, eq-eqb, cases_eq, ne_eqb}
use Rattle.std.proofs.lemmas.List.Folds.{Any-from_list_any, list_any_at}
use Rattle.std.proofs.lemmas.List.{length-map, length-take-le, get_or-take, get_or_default}
use Rattle.std.proofs.lemmas.List.Elements.{All-filter, filter_passes}
use Rattle.std.proofs.lemmas.List.FromFn.{length-range_with_len, get_or-map-range_with_len}
use Rattle.morph_base.specs.Contents.{Contents}
use Rattle.morph_base.specs.declared.plan.Origin.{Origin}
use Rattle.morph_base.specs.declared.plan.Origin.TheVariants.{Base, Op as Written}
use Rattle.morph_base.specs.declared.plan.Plan.{Plan}
use Rattle.morph_base.specs.Graphs.{below, is_written_by, reads_from}
use Rattle.morph_base.specs.Readers.{dependents_of}
use Rattle.morph_base.specs.Plans.{IsPlan, op_at, op_count, keys_of, origins_of}
use Rattle.morph_base.proofs.OutcomeLaws.{keys_fit}
use Rattle.op_words.specs.Trails.{IsSourceOf}
use Rattle.steal_explorer.specs.Serving.{readers}
use Rattle.op_eval.proofs.Elements.{contains_filter}
use Rattle.abort_eager.proofs.Listing.{below_inside, below_all}

abbrev items_of : Contents ℕ → List ℕ
items_of l = l.items

-- ---- who reads from an operation

by_itself : (o : ℕ) → is_written_by o (Written o) ≡ true
by_itself o = eq-eqb o o refl_eq
  where
    refl_eq : o ≡ o
    refl_eq = cc

written_is : (o : ℕ) (q : Origin) → is_written_by o q ≡ true → q ≡ Written o
written_is o (Base v) is = absurd (false≢true is)
written_is o (Written s) is = elim (cases_eq s o) [ inl same ↦ ap Written same | inr other ↦ absurd (false≢true (sym (ne_eqb s o other) ∙ is)) ]

module _ (p : Plan) (valid : IsPlan p) (k : ℕ) (lt : k < op_count p) where
  many_origins : length (origins_of p k) ≡ length (keys_of p k)
  many_origins = length-take-le (length (keys_of p k)) (op_at p k).origins (keys_fit p k valid lt)

  pub source_reads : (o : ℕ) → IsSourceOf p k o → reads_from p o k ≡ true
  source_reads o source =
      list_any_at (is_written_by o) (origins_of p k) source.place (Base 0) (subst (λ n. source.place < n) (sym many_origins) source.in_places)
      (ap (is_written_by o) (get_or-take (length (keys_of p k)) (op_at p k).origins source.place (Base 0) source.in_places ∙ source.source_is) ∙ by_itself o)

  pub origin_source : (j : ℕ) (d : Origin) (o : ℕ) → j < length (origins_of p k) → get_or (origins_of p k) j d ≡ Written o → IsSourceOf p k o
  origin_source j d o inside is =
      let within : j < length (keys_of p k) = subst (λ n. j < n) many_origins inside in
      record {
        place = j;
        in_places = within;
        source_is =
            sym (get_or-take (length (keys_of p k)) (op_at p k).origins j (Base 0) within)
            ∙ get_or_default (origins_of p k) j (Base 0) d inside
            ∙ is;
      }

  pub reads_source : (o : ℕ) → reads_from p o k ≡ true → IsSourceOf p k o
  reads_source o reads =
      let at = Any-from_list_any (is_written_by o) (origins_of p k) reads in
      origin_source at.0 at.1 o at.2 (at.3 ∙ written_is o at.1 at.4)

module _ (p : Plan) where
  -- rows that are the plan's dependents: each operation has one
  module _ (rows : List (List ℕ)) (are : rows ≡ dependents_of p) where
    pub many_rows : length rows ≡ op_count p
    many_rows =
        let b : length rows ≡ length (map (readers p) (below (op_count p))) = ap length are in
        let c : length (map (readers p) (below (op_count p))) ≡ length (below (op_count p)) = length-map (below (op_count p)) (readers p) in
        let d : length (below (op_count p)) ≡ op_count p = length-range_with_len 0 (op_count p) in
        omega arith

    pub readers_is : (o : ℕ) → o < op_count p → (ops : List ℕ) → ops ≡ slice_index_or rows o [] → ops ≡ readers p o
    readers_is o lt ops same =
        same
        ∙ ap (λ lists. get_or lists o []) are
        ∙ get_or-map-range_with_len (readers p) 0 (op_count p) o o [] lt (zero-add o)

    pub readers_inside : (o : ℕ) → o < op_count p → (ops : List ℕ) → ops ≡ slice_index_or rows o [] → All (λ k. k < op_count p) ops
    readers_inside o lt ops same =
        subst (All (λ k. k < op_count p)) (sym (readers_is o lt ops same))
        (All-filter (reads_from p o) (λ k. k < op_count p) (below (op_count p)) (below_inside (op_count p)))

  -- each of them has the operation as a source, and each other one has not
  pub reader_source : IsPlan p → (o i : ℕ) → i < length (readers p o) → IsSourceOf p (get_or (readers p o) i 0) o
  reader_source valid o i lt =
      reads_source p valid (get_or (readers p o) i 0) (All-filter (reads_from p o) (λ k. k < op_count p) (below (op_count p)) (below_inside (op_count p)) i 0 lt) o
      (filter_passes (reads_from p o) (below (op_count p)) i 0 lt)

  pub reads_or : IsPlan p → (o k : ℕ) → k < op_count p → Contains (readers p o) k ⊎ (IsSourceOf p k o → ⊥)
  reads_or valid o k lt = at (reads_from p o k) (source_reads p valid k lt o) (contains_filter (reads_from p o) (below (op_count p)) k (below_all (op_count p) k lt))
    where
      at : (b : Bool) → (IsSourceOf p k o → b ≡ true) → (b ≡ true → Contains (readers p o) k) → Contains (readers p o) k ⊎ (IsSourceOf p k o → ⊥)
      at true reads inside = inl (inside yes)
        where
          yes : true ≡ true
          yes = cc
      at false reads inside = inr (λ source. false≢true (reads source))
