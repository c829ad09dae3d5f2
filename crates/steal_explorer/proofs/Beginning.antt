-- The operations of level 1 of a plan.
use Rattle.std.proofs.Common.{◌≡◌, ℕ, ◌+◌, ◌<◌, ◌≤◌, not, eqb, List, [], map, length, get_or, filter, refl, sym, ap, ◌∙◌, subst, inl, inr, arith}
use Rattle.std.specs.Prelude.{All, slice_index_or}
use Rattle.std.proofs.lemmas.Bool.{cases_lt}
use Rattle.std.proofs.lemmas.List.{get_or-map}
use Rattle.std.proofs.lemmas.List.Elements.{All-filter}
use Rattle.std.proofs.lemmas.List.Filters.{length-filter_both}
use Rattle.std.proofs.lemmas.List.FromFn.{length-range_with_len, get_or-map-range_with_len}
use Rattle.morph_base.specs.Contents.{Contents}
use Rattle.morph_base.specs.declared.plan.Plan.{Plan}
use Rattle.morph_base.specs.Graphs.{below, greatest, op_level, op_depth, IsGraph}
use Rattle.morph_base.specs.Plans.{op_at, op_count, origins_of, no_plan_op}
use Rattle.morph_base.proofs.LevelLaws.{le-greatest, length-op_levels}
use Rattle.steal_explorer.specs.Dealing.{level_one}
use Rattle.abort_eager.proofs.Listing.{below_inside}

abbrev items_of : Contents ℕ → List ℕ
items_of l = l.items

module _ (p : Plan) where
  pub level_one_inside : All (λ o. o < op_count p) (level_one p)
  level_one_inside = All-filter (λ o. eqb (op_at p o).level 1) (λ o. o < op_count p) (below (op_count p)) (below_inside (op_count p))

  pub level_one_few : length (level_one p) ≤ op_count p
  level_one_few =
      let a = length-filter_both (λ o. eqb (op_at p o).level 1) (λ o. not (eqb (op_at p o).level 1)) (λ o. refl) (below (op_count p)) in
      let b : length (below (op_count p)) ≡ op_count p = length-range_with_len 0 (op_count p) in
      omega arith

  module _ (graph : IsGraph p) where
    -- they are the first list of the plan's
    pub level_one_is : (l : Contents ℕ) → 0 < length p.op_levels.items → ((d : Contents ℕ) → l ≡ slice_index_or p.op_levels.items 0 d) → (ops : List ℕ) → ops ≡ l.items → ops ≡ level_one p
    level_one_is l some at ops same =
        same
        ∙ ap items_of (at l)
        ∙ sym (get_or-map items_of p.op_levels.items 0 l [] some)
        ∙ ap (λ lists. get_or lists 0 []) graph.op_levels_are
        ∙ get_or-map-range_with_len (λ l. filter (λ o. eqb (op_at p o).level (l + 1)) (below (op_count p))) 0 (op_depth p) 0 0 [] (subst (λ n. 0 < n) (length-op_levels p graph) some) refl

    -- where there is no list, there is no operation
    no_ops : p.op_levels.items ≡ [] → op_count p ≡ 0
    no_ops none =
        elim (cases_lt 0 (op_count p)) [
          | inl some ↦
              let depth : length p.op_levels.items ≡ op_depth p = length-op_levels p graph in
              let flat : length p.op_levels.items ≡ 0 = ap length none in
              let low : (op_at p 0).level ≤ op_depth p = le-greatest (λ q. q.level) p.ops.items 0 no_plan_op some in
              let level : (op_at p 0).level ≡ 1 + greatest (map (op_level p) (origins_of p 0)) = graph.op_level_is 0 some in
              absurd (omega arith)
          | inr few ↦ omega arith
        ]

    pub level_one_none : p.op_levels.items ≡ [] → level_one p ≡ []
    level_one_none none = ap (λ n. filter (λ o. eqb (op_at p o).level 1) (below n)) (no_ops none)
