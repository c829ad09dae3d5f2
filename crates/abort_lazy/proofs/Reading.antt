-- The values of an operation's sources, read from the values of all operations of earlier events.
use Rattle.std.proofs.Common.{◌≡◌, ℕ, ◌<◌, ◌≤◌, List, length, map, take, get_or, refl, sym, ap, ◌∙◌, arith, All, slice_index, subst, zero-add}
use Rattle.std.proofs.lemmas.List.{length-map, length-take-le, get_or-map, get_or-take, get_or_default, ext_get_or}
use Rattle.std.proofs.lemmas.List.FromFn.{length-map-range_with_len, get_or-map-range_with_len}
use Rattle.morph_base.specs.declared.plan.Origin.{Origin}
use Rattle.morph_base.specs.declared.plan.Origin.TheVariants.{Base, Op as Written}
use Rattle.morph_base.specs.declared.plan.Plan.{Plan}
use Rattle.morph_base.specs.declared.limits.TheConstants.{MAX}
use Rattle.morph_base.specs.Plans.{IsPlan, op_count, op_at, event_at, event_of, keys_of, origin_at, origins_of, final}
use Rattle.morph_base.specs.Clean.{from, source}
use Rattle.morph_base.specs.Graphs.{below}
use Rattle.morph_base.specs.Known.{IsKnown}
use Rattle.morph_base.proofs.OutcomeLaws.{source_precedes, keys_fit}
use Rattle.morph_base.proofs.BoundLaws.{source-small, final-small}
use Rattle.abort_lazy.specs.Finishing.{HasValues}
use Rattle.abort_lazy.specs.Finishing.{settled_sources}
use Rattle.abort_lazy.proofs.Numbers.{before_first}

-- ---- the values of the sources under an assignment, as a list

module _ (p : Plan) (v : ℕ → ℕ) (o : ℕ) (valid : IsPlan p) (lt : o < op_count p) where
  pub length-sources : length (map (from v) (origins_of p o)) ≡ length (keys_of p o)
  length-sources = length-map (origins_of p o) (from v) ∙ length-take-le (length (keys_of p o)) (op_at p o).origins (keys_fit p o valid lt)

  pub source_in : (j : ℕ) → j < length (keys_of p o) → get_or (map (from v) (origins_of p o)) j 0 ≡ source p v o j
  source_in j below =
      let at_origin : j < length (origins_of p o) = (let len = length-take-le (length (keys_of p o)) (op_at p o).origins (keys_fit p o valid lt) in omega arith) in
      get_or-map (from v) (origins_of p o) j (Base 0) 0 at_origin ∙ ap (from v) (get_or-take (length (keys_of p o)) (op_at p o).origins j (Base 0) below)

  -- a list of that length with these values is it
  pub sources_are : (xs : List ℕ) → length xs ≡ length (keys_of p o) → ((j : ℕ) → j < length (keys_of p o) → get_or xs j 0 ≡ source p v o j) → xs ≡ map (from v) (origins_of p o)
  sources_are xs len each =
      ext_get_or 0 xs (map (from v) (origins_of p o)) (len ∙ sym length-sources)
      (λ j inside. let here : j < length (keys_of p o) = omega arith in each j here ∙ sym (source_in j here))

-- settled values are values
pub settled_sources-small : (p : Plan) (o : ℕ) → IsPlan p → o < op_count p → All (λ x. x ≤ MAX) (settled_sources p o)
settled_sources-small p o valid lt k d inside =
    let len = length-sources p (final p) o valid lt in
    let at_key : k < length (keys_of p o) = omega arith in
    let small : source p (final p) o k ≤ MAX = source-small p (final p) o k valid lt at_key (λ t before. final-small p t valid) in
    subst (λ x. x ≤ MAX) (sym (get_or_default (settled_sources p o) k d 0 inside ∙ source_in p (final p) o valid lt k at_key)) small

-- ---- read one after another

module _ (p : Plan) (o j : ℕ) (values : List ℕ) (valid : IsPlan p) (lt : o < op_count p) (place : j < length (keys_of p o))
    (settled : HasValues p (event_at p (event_of p o)).first values) where
  -- the source is a base, or its value stands there
  pub source_known : IsKnown (λ t. t < length values) (origin_at p o j)
  source_known = of_origin (origin_at p o j) refl
    where
      of_origin : (origin : Origin) → origin_at p o j ≡ origin → IsKnown (λ t. t < length values) origin
      of_origin (Base b) is = tt
      of_origin (Written t) is =
          let before = before_first p t o valid lt (source_precedes p o j t valid lt place is) in
          let len : length values ≡ settled.many = ap length settled.are ∙ length-map-range_with_len (final p) 0 settled.many in
          (let less : t < length values = omega (arith, before, len, settled.enough) in less)

  -- and it is the fold's
  pub source_read : from (slice_index values) (origin_at p o j) ≡ source p (final p) o j
  source_read = of_origin (origin_at p o j) refl
    where
      of_origin : (origin : Origin) → origin_at p o j ≡ origin → from (slice_index values) origin ≡ from (final p) origin
      of_origin (Base b) is = refl
      of_origin (Written t) is =
          let before = before_first p t o valid lt (source_precedes p o j t valid lt place is) in
          let here : t < settled.many = omega (arith, before, settled.enough) in
          ap (λ (l : List ℕ). slice_index l t) settled.are ∙ get_or-map-range_with_len (final p) 0 settled.many t t 0 here (zero-add t)

-- all of them, read into the front of a list
pub front_read : (p : Plan) (o : ℕ) (xs : List ℕ) → IsPlan p → o < op_count p → length (keys_of p o) ≤ length xs
    → ((k : ℕ) → k < length (keys_of p o) → get_or xs k 0 ≡ source p (final p) o k) → take (length (keys_of p o)) xs ≡ settled_sources p o
front_read p o xs valid lt fits read =
    sources_are p (final p) o valid lt (take (length (keys_of p o)) xs) (length-take-le (length (keys_of p o)) xs fits)
    (λ j place. get_or-take (length (keys_of p o)) xs j 0 place ∙ read j place)
