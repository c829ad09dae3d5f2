-- A valid plan has no more levels of events than events.
use Rattle.std.proofs.Common.{◌≡◌, ℕ, zero, suc, ◌+◌, ◌<◌, ◌≤◌, List, [], ◌∷◌, map, flat_map, length, get_or, sym, ap, ◌∙◌, subst, arith, not-suc-le-zero}
use Rattle.std.proofs.lemmas.List.{map-append, get_or_default, get_or-take, length-take-le}
use Rattle.std.proofs.lemmas.List.FromFn.{length-range_with_len, get_or-range_with_len}
use Rattle.morph_base.specs.declared.limits.TheConstants.{EVENTS}
use Rattle.morph_base.specs.declared.plan.Origin.{Origin}
use Rattle.morph_base.specs.declared.plan.Origin.TheVariants.{Base, Op as Written}
use Rattle.morph_base.specs.declared.plan.Plan.{Plan}
use Rattle.morph_base.specs.Graphs.{greatest, event_level, ops_in, event_origins, event_depth, IsValidPlan}
use Rattle.morph_base.specs.Plans.{event_count, op_count, event_at, op_at, event_of, keys_of, origin_at, origins_of, no_event}
use Rattle.morph_base.proofs.LevelLaws.{greatest-append}
use Rattle.morph_base.proofs.OutcomeLaws.{source_precedes, keys_fit}
use Rattle.strata_explorer.proofs.Leveling.{greatest_most}
use Rattle.abort_lazy.proofs.Levelling.{levels_len}

-- the greatest of several lists together
greatest_flat : {X : Type 0} (f : X → ℕ) (parts : ℕ → List X) (os : List ℕ) (m : ℕ) → ((k : ℕ) → k < length os → greatest (map f (parts (get_or os k 0))) ≤ m) → greatest (map f (flat_map parts os)) ≤ m
greatest_flat f parts [] m most = omega arith
greatest_flat f parts (o ∷ os) m most =
    let here : greatest (map f (parts o)) ≤ m = most 0 (omega arith) in
    let rest : greatest (map f (flat_map parts os)) ≤ m = greatest_flat f parts os m (λ k lt. most (suc k) (omega arith)) in
    let both = ap greatest (map-append f (parts o) (flat_map parts os)) ∙ greatest-append (map f (parts o)) (map f (flat_map parts os)) in
    omega arith

module _ (p : Plan) (valid : IsValidPlan p) where
  -- the event of a source of operation o, of event i, comes before, so its level is at most its number, from 1 on
  module _ (i o : ℕ) (lt : o < op_count p) (home : event_of p o ≡ i) (before : (t : ℕ) → t < i → t < event_count p → (event_at p t).level ≤ t + 1) where
    source_low : (j : ℕ) → j < length (keys_of p o) → (q : Origin) → origin_at p o j ≡ q → event_level p q ≤ i
    source_low j inside (Base v) same = omega arith
    source_low j inside (Written t) same =
        let precedes = source_precedes p o j t valid.plan lt inside same in
        let first : event_of p t < i = subst (λ k. event_of p t < k) home precedes.event_before in
        let low : (event_at p (event_of p t)).level ≤ event_of p t + 1 = before (event_of p t) first (valid.plan.numbering.placed t precedes.in_range).0 in
        omega arith

    sources_low : greatest (map (event_level p) (origins_of p o)) ≤ i
    sources_low =
        greatest_most (event_level p) (origins_of p o) i
        (λ j d inside.
        let fits = keys_fit p o valid.plan lt in
        let within : j < length (keys_of p o) = subst (λ n. j < n) (length-take-le (length (keys_of p o)) (op_at p o).origins fits) inside in
        let same : get_or (origins_of p o) j d ≡ origin_at p o j = get_or_default (origins_of p o) j d (Base 0) inside ∙ get_or-take (length (keys_of p o)) (op_at p o).origins j (Base 0) within in
        source_low j within (get_or (origins_of p o) j d) (sym same))

  low_events : (k i : ℕ) → i < k → i < event_count p → (event_at p i).level ≤ i + 1
  low_events zero i less lt = absurd (not-suc-le-zero less)
  low_events (suc k) i less lt =
      let is : (event_at p i).level ≡ 1 + greatest (map (event_level p) (event_origins p i)) = valid.graph.event_level_is i lt in
      let most : greatest (map (event_level p) (event_origins p i)) ≤ i =
      greatest_flat (event_level p) (origins_of p) (ops_in p i) i
      (λ n small.
      let many : n < (event_at p i).count = subst (λ m. n < m) (length-range_with_len (event_at p i).first (event_at p i).count) small in
      let found : get_or (ops_in p i) n 0 ≡ (event_at p i).first + n = get_or-range_with_len (event_at p i).first (event_at p i).count n 0 many in
      let owned = valid.plan.numbering.owned i ((event_at p i).first + n) lt (record { from = omega arith; below = omega arith }) in
      subst (λ o. greatest (map (event_level p) (origins_of p o)) ≤ i) (sym found)
      (sources_low i ((event_at p i).first + n) owned.0 owned.1 (λ t first inside. low_events k t (omega arith) inside))) in
      omega arith

  pub few_event_levels : length p.event_levels.items ≤ event_count p
  few_event_levels =
      let many : length p.event_levels.items ≡ event_depth p = levels_len p valid.graph in
      let most : event_depth p ≤ event_count p =
      greatest_most (λ e. e.level) p.events.items (event_count p)
      (λ k d lt.
      let low : (event_at p k).level ≤ k + 1 = low_events (k + 1) k (omega arith) lt in
      let same : (get_or p.events.items k d).level ≡ (event_at p k).level = ap (λ e. e.level) (get_or_default p.events.items k d no_event lt) in
      omega arith) in
      omega arith

  pub few_events : event_count p ≤ EVENTS
  few_events = valid.plan.numbering.few

  -- and so few that their numbers, with those of the levels of operations, have 32 bits
  pub small_event_levels : length p.event_levels.items ≤ EVENTS
  small_event_levels = let few = few_event_levels in let events = few_events in omega arith
