-- Filling in the bases keeps a plan's graph: it rests on which places are written and by what, never on a base value.
use Rattle.std.proofs.Common.{◌≡◌, ℕ, zero, suc, ◌+◌, ◌<◌, Bool, cond, ◌==◌, List, [], ◌∷◌, ◌++◌, map, length, take, drop, get_or, filter, count_by, sum_by, fold, flat_map, refl, sym, ap, ◌∙◌, subst}
use Rattle.std.proofs.Math.Path.{fun_ext, ap₂}
use Rattle.std.proofs.lemmas.List.{map-append, take-map, drop-map}
use Rattle.std.proofs.lemmas.Simd.{map-map}
use Rattle.morph_base.specs.declared.plan.Origin.{Origin}
use Rattle.morph_base.specs.declared.plan.Origin.TheVariants.{Base, Op as Written}
use Rattle.morph_base.specs.declared.plan.PlanOp.{PlanOp}
use Rattle.morph_base.specs.declared.plan.Plan.{Plan}
use Rattle.morph_base.specs.Operations.{reads}
use Rattle.morph_base.specs.States.{State}
use Rattle.morph_base.specs.Readers.{sources_of}
use Rattle.morph_base.specs.Plans.{op_count, event_at, op_at, origin_at, origins_of, filled_in, filled, filled_plan}
use Rattle.morph_base.specs.Graphs.{greatest, is_written, below, op_level, event_level, ops_in, event_origins, op_depth, IsGraph}
use Rattle.morph_base.proofs.FillLaws.{shape, shapes-filled_in, op_at-kept, op_count-filled, event_of-filled}

-- ---- lists

count_by-map_from : {X : Type 0} (test : X → Bool) (n : ℕ) (xs : List X)
    → fold (λ a x. a + cond (test x) 1 0) n xs ≡ fold (λ a b. a + cond b 1 0) n (map test xs)
count_by-map_from test n [] = refl
count_by-map_from test n (x ∷ xs) = count_by-map_from test (n + cond (test x) 1 0) xs

count_by-map : {X : Type 0} (test : X → Bool) (xs : List X) → count_by test xs ≡ count_by (λ b. b) (map test xs)
count_by-map test xs = count_by-map_from test 0 xs

-- ---- what rests on the shapes of origins alone

module _ {X : Type 0} (part : Origin → X) (rests : (origin : Origin) → part origin ≡ part (shape origin)) where
  map-shapes : (origins : List Origin) → map part origins ≡ map part (map shape origins)
  map-shapes [] = refl
  map-shapes (origin ∷ origins) = ap₂ (λ (x : X) (xs : List X). x ∷ xs) (rests origin) (map-shapes origins)

  same_parts : (left right : List Origin) → map shape left ≡ map shape right → map part left ≡ map part right
  same_parts left right same = map-shapes left ∙ ap (map part) same ∙ sym (map-shapes right)

is_written-shape : (origin : Origin) → is_written origin ≡ is_written (shape origin)
is_written-shape (Base v) = refl
is_written-shape (Written t) = refl

op_level-shape : (p : Plan) (origin : Origin) → op_level p origin ≡ op_level p (shape origin)
op_level-shape p (Base v) = refl
op_level-shape p (Written t) = refl

event_level-shape : (p : Plan) (origin : Origin) → event_level p origin ≡ event_level p (shape origin)
event_level-shape p (Base v) = refl
event_level-shape p (Written t) = refl

used-filled : (s : State) (q : PlanOp) → map shape (sources_of (filled s q)) ≡ map shape (sources_of q)
used-filled s q =
    let n : ℕ = length (reads q.op) in
    sym (take-map shape n (filled_in s (reads q.op) q.origins))
    ∙ ap (take n) (shapes-filled_in s (reads q.op) q.origins)
    ∙ take-map shape n q.origins

get_or-shape : (origins : List Origin) (j : ℕ) → is_written (get_or origins j (Base 0)) ≡ is_written (get_or (map shape origins) j (Base 0))
get_or-shape [] j = refl
get_or-shape (origin ∷ origins) zero = is_written-shape origin
get_or-shape (origin ∷ origins) (suc j) = get_or-shape origins j

module _ (s : State) (p : Plan) where
  shapes-filled : (o : ℕ) → map shape (origins_of (filled_plan s p) o) ≡ map shape (origins_of p o)
  shapes-filled = op_at-kept s p (λ q. map shape (sources_of q)) (used-filled s)

  parts-filled : {X : Type 0} (part : Origin → X) → ((origin : Origin) → part origin ≡ part (shape origin))
      → (o : ℕ) → map part (origins_of (filled_plan s p) o) ≡ map part (origins_of p o)
  parts-filled part rests o = same_parts part rests (origins_of (filled_plan s p) o) (origins_of p o) (shapes-filled o)

  -- ---- levels

  level-filled : (o : ℕ) → (op_at (filled_plan s p) o).level ≡ (op_at p o).level
  level-filled = op_at-kept s p (λ q. q.level) (λ q. refl)

  op_level-filled : op_level (filled_plan s p) ≡ op_level p
  op_level-filled = fun_ext each
    where
      each : (origin : Origin) → op_level (filled_plan s p) origin ≡ op_level p origin
      each (Base v) = refl
      each (Written t) = level-filled t

  event_level-filled : event_level (filled_plan s p) ≡ event_level p
  event_level-filled = fun_ext each
    where
      each : (origin : Origin) → event_level (filled_plan s p) origin ≡ event_level p origin
      each (Base v) = refl
      each (Written t) = ap (λ events. (event_at p (events t)).level) (event_of-filled s p)

  event_parts-filled : {X : Type 0} (part : Origin → X) → ((origin : Origin) → part origin ≡ part (shape origin))
      → (os : List ℕ) → map part (flat_map (origins_of (filled_plan s p)) os) ≡ map part (flat_map (origins_of p) os)
  event_parts-filled part rests [] = refl
  event_parts-filled {X = X} part rests (o ∷ os) =
      map-append part (origins_of (filled_plan s p) o) (flat_map (origins_of (filled_plan s p)) os)
      ∙ ap₂ (λ (xs ys : List X). xs ++ ys) (parts-filled part rests o) (event_parts-filled part rests os)
      ∙ sym (map-append part (origins_of p o) (flat_map (origins_of p) os))

  -- ---- counts

  temporal-filled : (o : ℕ) → is_written (origin_at (filled_plan s p) o 0) ≡ is_written (origin_at p o 0)
  temporal-filled =
      op_at-kept s p (λ q. is_written (get_or q.origins 0 (Base 0)))
      (λ q. get_or-shape (filled_in s (reads q.op) q.origins) 0
      ∙ ap (λ os. is_written (get_or os 0 (Base 0))) (shapes-filled_in s (reads q.op) q.origins)
      ∙ sym (get_or-shape q.origins 0))

  parametric-filled : (o : ℕ) → count_by is_written (drop 1 (origins_of (filled_plan s p) o)) ≡ count_by is_written (drop 1 (origins_of p o))
  parametric-filled o =
      count_by-map is_written (drop 1 (origins_of (filled_plan s p) o))
      ∙ ap (count_by (λ b. b))
      (sym (drop-map is_written 1 (origins_of (filled_plan s p) o)) ∙ ap (drop 1) (parts-filled is_written is_written-shape o) ∙ drop-map is_written 1 (origins_of p o))
      ∙ sym (count_by-map is_written (drop 1 (origins_of p o)))

  depth-filled : op_depth (filled_plan s p) ≡ op_depth p
  depth-filled = ap greatest (map-map (λ q. q.level) (filled s) p.ops.items)

  pub graph-filled : IsGraph p → IsGraph (filled_plan s p)
  graph-filled graph = record {
    op_level_is = λ o lt.
        level-filled o ∙ graph.op_level_is o (subst (λ n. o < n) (op_count-filled s p) lt)
        ∙ ap (λ levels. 1 + greatest levels)
        (sym (ap (λ f. map f (origins_of (filled_plan s p) o)) op_level-filled ∙ parts-filled (op_level p) (op_level-shape p) o));
    event_level_is = λ i lt.
        graph.event_level_is i lt
        ∙ ap (λ levels. 1 + greatest levels)
        (sym (ap (λ f. map f (event_origins (filled_plan s p) i)) event_level-filled ∙ event_parts-filled (event_level p) (event_level-shape p) (ops_in p i)));
    op_levels_are =
        graph.op_levels_are
        ∙ ap (λ (level : ℕ → ℕ). map (λ l. filter (λ o. level o == l + 1) (below (op_count p))) (below (op_depth p))) (sym (fun_ext level-filled))
        ∙ ap₂ (λ (n depth : ℕ). map (λ l. filter (λ o. (op_at (filled_plan s p) o).level == l + 1) (below n)) (below depth)) (sym (op_count-filled s p)) (sym depth-filled);
    event_levels_are = graph.event_levels_are;
    temporal_is =
        graph.temporal_is
        ∙ ap₂ (λ (test : ℕ → Bool) (n : ℕ). count_by test (below n)) (sym (fun_ext temporal-filled)) (sym (op_count-filled s p));
    parametric_is =
        graph.parametric_is
        ∙ ap₂ (λ (count : ℕ → ℕ) (n : ℕ). sum_by count (below n)) (sym (fun_ext parametric-filled)) (sym (op_count-filled s p));
    logical_is = graph.logical_is;
  }
