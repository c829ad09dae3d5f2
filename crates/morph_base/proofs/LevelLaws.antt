-- Levels rise from a source to what reads from it.
use Rattle.std.proofs.Common.{◌≡◌, ℕ, zero, suc, ◌+◌, ◌-◌, ◌<◌, ◌≤◌, max, List, [], ◌∷◌, ◌++◌, map, flat_map, length, get_or, not-suc-le-zero, le_of_suc-le-suc, sym, ap, ◌∙◌, subst, arith, add-sub_of_le}
use Rattle.std.proofs.lemmas.List.{map-append, map-id, length-map, length-take-le, get_or-take}
use Rattle.std.proofs.lemmas.List.FromFn.{length-range_with_len, length-map-range_with_len, get_or-range_with_len, map-range_with_len_more}
use Rattle.morph_base.specs.Contents.{Contents}
use Rattle.morph_base.specs.declared.plan.Origin.{Origin}
use Rattle.morph_base.specs.declared.plan.Origin.TheVariants.{Base, Op as Written}
use Rattle.morph_base.specs.declared.plan.Plan.{Plan}
use Rattle.morph_base.specs.Plans.{IsPlan, event_count, op_count, event_at, op_at, event_of, keys_of, origin_at, origins_of, no_event, no_plan_op}
use Rattle.morph_base.specs.Graphs.{below, greatest, op_level, event_level, ops_in, event_origins, op_depth, event_depth, IsGraph}
use Rattle.morph_base.proofs.OutcomeLaws.{keys_fit}

-- ---- the numbers below n, one more

pub below_more : (n : ℕ) → below (n + 1) ≡ below n ++ n ∷ []
below_more n =
    sym (map-id (below (n + 1))) ∙ map-range_with_len_more (λ (x : ℕ). x) 0 n n (omega arith) ∙ ap (λ xs. xs ++ n ∷ []) (map-id (below n))

-- ---- the greatest of some numbers

pub greatest-append : (xs ys : List ℕ) → greatest (xs ++ ys) ≡ max (greatest xs) (greatest ys)
greatest-append [] ys = omega arith
greatest-append (x ∷ xs) ys = let rest : greatest (xs ++ ys) ≡ max (greatest xs) (greatest ys) = greatest-append xs ys in omega arith

-- the value of an element is at most the greatest one
pub le-greatest : {X : Type 0} (f : X → ℕ) (xs : List X) (j : ℕ) (d : X) → j < length xs → f (get_or xs j d) ≤ greatest (map f xs)
le-greatest f [] j d lt = absurd (not-suc-le-zero lt)
le-greatest f (x ∷ xs) zero d lt = omega arith
le-greatest f (x ∷ xs) (suc j) d lt = let rest : f (get_or xs j d) ≤ greatest (map f xs) = le-greatest f xs j d (le_of_suc-le-suc lt) in omega arith

-- also of one in a list of lists
pub le-greatest_flat : {X : Type 0} (f : X → ℕ) (parts : ℕ → List X) (os : List ℕ) (k j : ℕ) (d : X) → k < length os → j < length (parts (get_or os k 0))
    → f (get_or (parts (get_or os k 0)) j d) ≤ greatest (map f (flat_map parts os))
le-greatest_flat f parts [] k j d lt inside = absurd (not-suc-le-zero lt)
le-greatest_flat f parts (o ∷ os) zero j d lt inside =
    let here : f (get_or (parts o) j d) ≤ greatest (map f (parts o)) = le-greatest f (parts o) j d inside in
    let both : greatest (map f (parts o ++ flat_map parts os)) ≡ max (greatest (map f (parts o))) (greatest (map f (flat_map parts os))) =
    ap greatest (map-append f (parts o) (flat_map parts os)) ∙ greatest-append (map f (parts o)) (map f (flat_map parts os)) in
    omega arith
le-greatest_flat f parts (o ∷ os) (suc k) j d lt inside =
    let there : f (get_or (parts (get_or os k 0)) j d) ≤ greatest (map f (flat_map parts os)) = le-greatest_flat f parts os k j d (le_of_suc-le-suc lt) inside in
    let both : greatest (map f (parts o ++ flat_map parts os)) ≡ max (greatest (map f (parts o))) (greatest (map f (flat_map parts os))) =
    ap greatest (map-append f (parts o) (flat_map parts os)) ∙ greatest-append (map f (parts o)) (map f (flat_map parts os)) in
    omega arith

-- ---- levels

module _ (p : Plan) (valid : IsPlan p) (graph : IsGraph p) where
  -- a place is one of those that the levels are made of
  used_place : (o j : ℕ) → o < op_count p → j < length (keys_of p o) → (j < length (origins_of p o)) × (get_or (origins_of p o) j (Base 0) ≡ origin_at p o j)
  used_place o j lt below =
      let origins : List Origin = (op_at p o).origins in
      let n : ℕ = length (keys_of p o) in
      (subst (λ len. j < len) (sym (length-take-le n origins (keys_fit p o valid lt))) below, get_or-take n origins j (Base 0) below)

  pub op_level-rises : (o j t : ℕ) → o < op_count p → j < length (keys_of p o) → origin_at p o j ≡ Written t → (op_at p t).level < (op_at p o).level
  op_level-rises o j t lt below is =
      let place = used_place o j lt below in
      let at_most : (op_at p t).level ≤ greatest (map (op_level p) (origins_of p o)) =
      subst (λ origin. op_level p origin ≤ greatest (map (op_level p) (origins_of p o))) (place.1 ∙ is) (le-greatest (op_level p) (origins_of p o) j (Base 0) place.0) in
      let level : (op_at p o).level ≡ 1 + greatest (map (op_level p) (origins_of p o)) = graph.op_level_is o lt in
      omega arith

  pub event_level-rises : (o j t : ℕ) → o < op_count p → j < length (keys_of p o) → origin_at p o j ≡ Written t
      → (event_at p (event_of p t)).level < (event_at p (event_of p o)).level
  event_level-rises o j t lt below is =
      let i : ℕ = event_of p o in
      let home = valid.numbering.placed o lt in
      let from : (event_at p i).first ≤ o = home.1.from in
      let before : o < (event_at p i).first + (event_at p i).count = home.1.below in
      let k : ℕ = o - (event_at p i).first in
      let small : k < (event_at p i).count = omega arith in
      let found : get_or (ops_in p i) k 0 ≡ o = get_or-range_with_len (event_at p i).first (event_at p i).count k 0 small ∙ add-sub_of_le from in
      let inside : k < length (ops_in p i) = subst (λ n. k < n) (sym (length-range_with_len (event_at p i).first (event_at p i).count)) small in
      let place = used_place o j lt below in
      let at_most : (event_at p (event_of p t)).level ≤ greatest (map (event_level p) (event_origins p i)) =
      subst (λ origin. event_level p origin ≤ greatest (map (event_level p) (event_origins p i)))
      (ap (λ n. get_or (origins_of p n) j (Base 0)) found ∙ place.1 ∙ is)
      (le-greatest_flat (event_level p) (origins_of p) (ops_in p i) k j (Base 0) inside (subst (λ n. j < length (origins_of p n)) (sym found) place.0)) in
      let level : (event_at p i).level ≡ 1 + greatest (map (event_level p) (event_origins p i)) = graph.event_level_is i home.0 in
      omega arith

  -- ---- from 1 up to the depth

  pub op_level-range : (o : ℕ) → o < op_count p → (0 < (op_at p o).level) × ((op_at p o).level ≤ op_depth p)
  op_level-range o lt =
      let level : (op_at p o).level ≡ 1 + greatest (map (op_level p) (origins_of p o)) = graph.op_level_is o lt in
      (omega arith, le-greatest (λ q. q.level) p.ops.items o no_plan_op lt)

  pub event_level-range : (i : ℕ) → i < event_count p → (0 < (event_at p i).level) × ((event_at p i).level ≤ event_depth p)
  event_level-range i lt =
      let level : (event_at p i).level ≡ 1 + greatest (map (event_level p) (event_origins p i)) = graph.event_level_is i lt in
      (omega arith, le-greatest (λ e. e.level) p.events.items i no_event lt)

-- there is a list for each level
pub length-op_levels : (p : Plan) → IsGraph p → length p.op_levels.items ≡ op_depth p
length-op_levels p graph =
    sym (length-map p.op_levels.items (λ (level : Contents ℕ). level.items)) ∙ ap length graph.op_levels_are ∙ length-map-range_with_len _ 0 (op_depth p)
