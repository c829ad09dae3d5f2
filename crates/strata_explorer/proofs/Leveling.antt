-- The level lists of a valid plan: all operations, each above its sources.
use Rattle.std.proofs.Common.{◌≡◌, ℕ, zero, suc, ◌+◌, ◌-◌, ◌*◌, ◌<◌, ◌≤◌, Bool, true, false, cond, eqb, List, [], ◌∷◌, map, length, get_or, filter, refl, sym, ap, ◌∙◌, subst, inl, inr, arith, not-suc-le-zero, zero-add, zero-lt-suc, suc-le-suc}
use Rattle.std.specs.Prelude.{Contains}
use Rattle.std.proofs.lemmas.Bool.{false≢true, cases_eq, cases_lt, ne_eqb, eq-eqb}
use Rattle.std.proofs.lemmas.List.{get_or_default, get_or_past, get_or-take, length-map, length-take-le}
use Rattle.std.proofs.lemmas.List.Elements.{All-filter, filter_passes}
use Rattle.std.proofs.lemmas.List.FromFn.{length-range_with_len, get_or-map-range_with_len}
use Rattle.morph_base.specs.Contents.{Contents}
use Rattle.morph_base.specs.declared.limits.TheConstants.{EVENT_OPS, EVENTS}
use Rattle.morph_base.specs.declared.plan.Origin.{Origin}
use Rattle.morph_base.specs.declared.plan.Origin.TheVariants.{Base, Op as Written}
use Rattle.morph_base.specs.declared.plan.Plan.{Plan}
use Rattle.morph_base.specs.Graphs.{below, greatest, op_level, op_depth, IsValidPlan}
use Rattle.morph_base.specs.Plans.{op_count, op_at, keys_of, origin_at, origins_of, no_plan_op}
use Rattle.morph_base.proofs.LevelLaws.{op_level-rises, op_level-range, length-op_levels}
use Rattle.morph_base.proofs.NumberLaws.{op_count-small}
use Rattle.morph_base.proofs.OutcomeLaws.{source_precedes, keys_fit}
use Rattle.op_words.specs.Trails.{IsSourceOf}
use Rattle.strata_explorer.specs.Levels.{ops_of, op_of, AreLevels}
use Rattle.op_eval.proofs.Elements.{contains_filter}
use Rattle.abort_eager.proofs.Listing.{below_inside, below_all}

-- ---- lists

pub greatest_most : {X : Type 0} (f : X → ℕ) (xs : List X) (m : ℕ) → ((k : ℕ) (d : X) → k < length xs → f (get_or xs k d) ≤ m) → greatest (map f xs) ≤ m
greatest_most f [] m most = omega arith
greatest_most f (x ∷ xs) m most =
    let here : f x ≤ m = most 0 x (omega arith) in
    let rest : greatest (map f xs) ≤ m = greatest_most f xs m (λ k d lt. most (suc k) d (omega arith)) in
    omega arith

-- a greatest number above 0 is that of an element
greatest_found : {X : Type 0} (f : X → ℕ) (xs : List X) → 0 < greatest (map f xs) → (k : ℕ) × (k < length xs) × ((d : X) → f (get_or xs k d) ≡ greatest (map f xs))
greatest_found f [] some = absurd (omega arith)
greatest_found f (x ∷ xs) some =
    elim (cases_lt (f x) (greatest (map f xs))) [
      | inl less ↦
          let later = greatest_found f xs (omega arith) in
          (suc later.0, suc-le-suc later.1, λ d. let there : f (get_or xs later.0 d) ≡ greatest (map f xs) = later.2 d in omega arith)
      | inr most ↦ (0, zero-lt-suc (length xs), λ d. omega arith)
    ]

count_most : {X : Type 0} (t : X → Bool) (xs : List X) → length (filter t xs) ≤ length xs
count_most t [] = omega arith
count_most t (x ∷ xs) = let rest = count_most t xs in fits (t x) rest
  where
    fits : (b : Bool) → length (filter t xs) ≤ length xs → length (cond b (x ∷ filter t xs) (filter t xs)) ≤ suc (length xs)
    fits true less = omega arith
    fits false less = omega arith

eqb_eq : (a b : ℕ) → eqb a b ≡ true → a ≡ b
eqb_eq a b same = elim (cases_eq a b) [ inl is ↦ is | inr other ↦ absurd (false≢true (sym (ne_eqb a b other) ∙ same)) ]

module _ (p : Plan) (valid : IsValidPlan p) where
  abbrev of_level : ℕ → ℕ → Bool
  of_level l o = eqb (op_at p o).level (l + 1)

  level_list : (l : ℕ) → l < op_depth p → ops_of p l ≡ filter (of_level l) (below (op_count p))
  level_list l lt =
      ap (λ lists. get_or lists l []) valid.graph.op_levels_are
      ∙ get_or-map-range_with_len (λ k. filter (of_level k) (below (op_count p))) 0 (op_depth p) l l [] lt (zero-add l)

  level_past : (l : ℕ) → op_depth p ≤ l → ops_of p l ≡ []
  level_past l past =
      let many : length (map (λ (list : Contents ℕ). list.items) p.op_levels.items) ≡ op_depth p = length-map p.op_levels.items (λ (list : Contents ℕ). list.items) ∙ length-op_levels p valid.graph in
      get_or_past (map (λ (list : Contents ℕ). list.items) p.op_levels.items) l [] (omega arith)

  -- what stands in the list of a level
  in_list : (l n : ℕ) → l < op_depth p → n < length (filter (of_level l) (below (op_count p)))
      → (get_or (filter (of_level l) (below (op_count p))) n 0 < op_count p) × ((op_at p (get_or (filter (of_level l) (below (op_count p))) n 0)).level ≡ l + 1)
  in_list l n lt less = (
    All-filter (of_level l) (λ o. o < op_count p) (below (op_count p)) (below_inside (op_count p)) n 0 less,
    eqb_eq _ _ (filter_passes (of_level l) (below (op_count p)) n 0 less),
  )

  level_small : (l n : ℕ) → n < length (ops_of p l) → l < op_depth p
  level_small l n less =
      elim (cases_lt l (op_depth p)) [
        | inl lt ↦ lt
        | inr past ↦ absurd (not-suc-le-zero (subst (λ ops. n < length ops) (level_past l past) less))
      ]

  in_level : (l n : ℕ) → n < length (ops_of p l) → (op_of p l n < op_count p) × ((op_at p (op_of p l n)).level ≡ l + 1)
  in_level l n less =
      let lt = level_small l n less in
      let same = level_list l lt in
      subst (λ ops. (get_or ops n 0 < op_count p) × ((op_at p (get_or ops n 0)).level ≡ l + 1)) (sym same)
      (in_list l n lt (subst (λ ops. n < length ops) same less))

  -- where an operation stands
  stands : (o : ℕ) → o < op_count p → (l : ℕ) × (n : ℕ) × (l < op_depth p) × (n < length (ops_of p l)) × (op_of p l n ≡ o) × (l + 1 ≡ (op_at p o).level)
  stands o lt =
      let range = op_level-range p valid.plan valid.graph o lt in
      let l : ℕ = (op_at p o).level - 1 in
      let first : 0 < (op_at p o).level = range.0 in
      let last : (op_at p o).level ≤ op_depth p = range.1 in
      let level : l + 1 ≡ (op_at p o).level = omega arith in
      let low : l < op_depth p = omega arith in
      let there = contains_filter (of_level l) (below (op_count p)) o (below_all (op_count p) o lt) (eq-eqb (op_at p o).level (l + 1) (sym level)) in
      let found = subst (λ ops. Contains ops o) (sym (level_list l low)) there in
      (l, found.0, low, found.1, get_or_default (ops_of p l) found.0 0 o found.1 ∙ found.2, level)

  lower_sources : (l n s : ℕ) → n < length (ops_of p l) → IsSourceOf p (op_of p l n) s → (k : ℕ) × (m : ℕ) × (k < l) × (m < length (ops_of p k)) × (op_of p k m ≡ s)
  lower_sources l n s less source =
      let here = in_level l n less in
      let before = source_precedes p (op_of p l n) source.place s valid.plan here.0 source.in_places source.source_is in
      let rises : (op_at p s).level < (op_at p (op_of p l n)).level = op_level-rises p valid.plan valid.graph (op_of p l n) source.place s here.0 source.in_places source.source_is in
      let at = stands s before.in_range in
      let level : (op_at p (op_of p l n)).level ≡ l + 1 = here.1 in
      let lower : at.0 + 1 ≡ (op_at p s).level = at.5 in
      (at.0, at.1, omega arith, at.3, at.4)

  -- an operation's level is at most its number, from 1 on: so there are no more levels than operations
  low_levels : (k o : ℕ) → o < k → o < op_count p → (op_at p o).level ≤ o + 1
  low_levels zero o less lt = absurd (not-suc-le-zero less)
  low_levels (suc k) o less lt =
      let is : (op_at p o).level ≡ 1 + greatest (map (op_level p) (origins_of p o)) = valid.graph.op_level_is o lt in
      let most : greatest (map (op_level p) (origins_of p o)) ≤ o = greatest_most (op_level p) (origins_of p o) o (each (λ t first small. low_levels k t (omega arith) small)) in
      omega arith
    where
      source_low : ((t : ℕ) → t < o → t < op_count p → (op_at p t).level ≤ t + 1) → (j : ℕ) → j < length (keys_of p o) → (q : Origin) → origin_at p o j ≡ q → op_level p q ≤ o
      source_low before_low j inside (Base v) same = omega arith
      source_low before_low j inside (Written t) same =
          let before = source_precedes p o j t valid.plan lt inside same in
          let first : t < o = before.number_before in
          let low : (op_at p t).level ≤ t + 1 = before_low t first before.in_range in
          omega arith

      each : ((t : ℕ) → t < o → t < op_count p → (op_at p t).level ≤ t + 1) → (j : ℕ) (d : Origin) → j < length (origins_of p o) → op_level p (get_or (origins_of p o) j d) ≤ o
      each before_low j d inside =
          let fits = keys_fit p o valid.plan lt in
          let within : j < length (keys_of p o) = subst (λ n. j < n) (length-take-le (length (keys_of p o)) (op_at p o).origins fits) inside in
          let same : get_or (origins_of p o) j d ≡ origin_at p o j = get_or_default (origins_of p o) j d (Base 0) inside ∙ get_or-take (length (keys_of p o)) (op_at p o).origins j (Base 0) within in
          source_low before_low j within (get_or (origins_of p o) j d) (sym same)

  pub few_levels : length p.op_levels.items ≤ op_count p
  few_levels =
      let many : length p.op_levels.items ≡ op_depth p = length-op_levels p valid.graph in
      let most : op_depth p ≤ op_count p =
      greatest_most (λ q. q.level) p.ops.items (op_count p)
      (λ k d lt.
      let low : (op_at p k).level ≤ k + 1 = low_levels (k + 1) k (omega arith) lt in
      let same : (get_or p.ops.items k d).level ≡ (op_at p k).level = ap (λ q. q.level) (get_or_default p.ops.items k d no_plan_op lt) in
      omega arith) in
      omega arith

  pub small_levels : length p.op_levels.items ≤ EVENT_OPS * EVENTS
  small_levels = let few = few_levels in let small : op_count p ≤ EVENT_OPS * EVENTS = op_count-small p valid.plan in omega arith

  -- below an operation's level there is one of each level
  lower_level : (l k o : ℕ) → o < op_count p → (op_at p o).level ≡ l + 1 + k → (t : ℕ) × (t < op_count p) × ((op_at p t).level ≡ l + 1)
  lower_level l zero o lt level = (o, lt, omega arith)
  lower_level l (suc k) o lt level =
      let is : (op_at p o).level ≡ 1 + greatest (map (op_level p) (origins_of p o)) = valid.graph.op_level_is o lt in
      let source = greatest_found (op_level p) (origins_of p o) (omega arith) in
      let same : op_level p (get_or (origins_of p o) source.0 (Base 0)) ≡ greatest (map (op_level p) (origins_of p o)) = source.2 (Base 0) in
      below_it (lower_level l k) source.0 source.1 (get_or (origins_of p o) source.0 (Base 0)) refl (omega arith)
    where
      below_it : ((t : ℕ) → t < op_count p → (op_at p t).level ≡ l + 1 + k → (u : ℕ) × (u < op_count p) × ((op_at p u).level ≡ l + 1)) → (j : ℕ) → j < length (origins_of p o) → (q : Origin) → get_or (origins_of p o) j (Base 0) ≡ q → op_level p q ≡ l + 1 + k → (t : ℕ) × (t < op_count p) × ((op_at p t).level ≡ l + 1)
      below_it lower j inside (Base v) same at = absurd (omega arith)
      below_it lower j inside (Written t) same at =
          let fits = keys_fit p o valid.plan lt in
          let within : j < length (keys_of p o) = subst (λ n. j < n) (length-take-le (length (keys_of p o)) (op_at p o).origins fits) inside in
          let origin : origin_at p o j ≡ Written t = sym (get_or-take (length (keys_of p o)) (op_at p o).origins j (Base 0) within) ∙ same in
          lower t (source_precedes p o j t valid.plan lt within origin).in_range at

  -- so no level is empty
  pub some_op : (l : ℕ) → l < length p.op_levels.items → 0 < length (ops_of p l)
  some_op l lt =
      let many : length p.op_levels.items ≡ op_depth p = length-op_levels p valid.graph in
      let top = greatest_found (λ q. q.level) p.ops.items (omega arith) in
      let high : (op_at p top.0).level ≡ op_depth p = top.2 no_plan_op in
      let one = lower_level l (op_depth p - (l + 1)) top.0 top.1 (omega arith) in
      let at = stands one.0 one.1 in
      let is : (op_at p one.0).level ≡ l + 1 = one.2 in
      let level : at.0 + 1 ≡ (op_at p one.0).level = at.5 in
      has_one at.0 at.1 at.3 (omega arith)
    where
      has_one : (k n : ℕ) → n < length (ops_of p k) → k ≡ l → 0 < length (ops_of p l)
      has_one k n inside same = let there : n < length (ops_of p l) = subst (λ j. n < length (ops_of p j)) same inside in omega arith

  short_level : (l : ℕ) → length (ops_of p l) ≤ op_count p
  short_level l =
      elim (cases_lt l (op_depth p)) [
        | inl lt ↦
            let same : length (ops_of p l) ≡ length (filter (of_level l) (below (op_count p))) = ap length (level_list l lt) in
            let few : length (filter (of_level l) (below (op_count p))) ≤ length (below (op_count p)) = count_most (of_level l) (below (op_count p)) in
            let all : length (below (op_count p)) ≡ op_count p = length-range_with_len 0 (op_count p) in
            omega arith
        | inr past ↦ let none : length (ops_of p l) ≡ 0 = ap length (level_past l past) in omega arith
      ]

  pub levels_of : AreLevels p
  levels_of = record {
    few = few_levels;
    fits = λ l.
        record {
          few = let short : length (ops_of p l) ≤ op_count p = short_level l in let small : op_count p ≤ EVENT_OPS * EVENTS = op_count-small p valid.plan in omega arith;
          inside = λ k d lt. subst (λ o. o < op_count p) (get_or_default (ops_of p l) k 0 d lt) (in_level l k lt).0;
        };
    sources = lower_sources;
    all = λ o lt.
        let at = stands o lt in
        (at.0, at.1, subst (λ n. at.0 < n) (sym (length-op_levels p valid.graph)) at.2, at.3, at.4);
  }
