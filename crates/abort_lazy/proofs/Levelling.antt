-- The levels of a plan's events, and the parts of a level.
use Rattle.std.proofs.Common.{◌≡◌, ℕ, ◌+◌, ◌*◌, ◌<◌, ◌≤◌, Bool, true, false, cond, eqb, List, [], ◌∷◌, length, refl, sym, ap, ◌∙◌, subst, arith}
use Rattle.std.specs.Prelude.{All, filter, nat_lt, slice_index_or, sum_by}
use Rattle.std.proofs.lemmas.Bool.{cond-true, cond-false, eq-eqb, ne_eqb}
use Rattle.std.proofs.lemmas.List.{get_or-map}
use Rattle.std.proofs.lemmas.List.Elements.{All-filter, filter_passes}
use Rattle.std.proofs.lemmas.List.FromFn.{length-range_with_len, length-map-range_with_len, get_or-range_with_len, get_or-map-range_with_len}
use Rattle.std.proofs.lemmas.List.{length-map}
use Rattle.morph_base.specs.declared.plan.Plan.{Plan}
use Rattle.morph_base.specs.Contents.{Contents}
use Rattle.morph_base.specs.Graphs.{below, event_depth, IsGraph}
use Rattle.morph_base.specs.Plans.{event_at, event_count}
use Rattle.worker_gate.specs.declared.parts.Shares.{Shares}
use Rattle.worker_gate.specs.Parts.{AreShares, part_at, part_counter, part_items, part_size}
use Rattle.worker_gate.proofs.Cutting.{all_parts, part_item}
use Rattle.worker_gate.proofs.Ordering.{at_apart, at_inside, parted_is, turn_for}
use Rattle.abort_lazy.specs.Levels.{length_at}
use Rattle.abort_lazy.specs.Runs.{events_at, events_of, event_in, parted_events, to_come}
use Rattle.abort_lazy.proofs.Summing.{below_same, sum_fewer, sum_flat_map, sum_length, sum_rows, sum_single, sum_swap}

len_cond : (b : Bool) (x : ℕ) (xs : List ℕ) → length (cond b (x ∷ xs) xs) ≡ cond b 1 0 + length xs
len_cond true x xs = omega arith
len_cond false x xs = omega arith

module _ (f : ℕ → ℕ) (l : ℕ) where
  parts : (k : ℕ) → cond (eqb k (l + 1)) 1 0 + cond (nat_lt (l + 1) k) 1 0 ≤ cond (nat_lt l k) 1 0
  parts k = at (eqb k (l + 1)) refl (nat_lt (l + 1) k) refl (nat_lt l k) refl
    where
      at : (a : Bool) → eqb k (l + 1) ≡ a → (b : Bool) → nat_lt (l + 1) k ≡ b → (c : Bool) → nat_lt l k ≡ c → cond a 1 0 + cond b 1 0 ≤ cond c 1 0
      at false u false v false w = omega arith
      at false u false v true w = omega arith
      at true u false v true w = omega arith
      at false u true v true w = omega arith
      at true u true v c w = absurd (grind (arith, u, v))
      at true u false v false w = absurd (grind (arith, u, w))
      at false u true v false w = absurd (grind (arith, v, w))

  -- those of one level and those above it are among those above the level before
  counted : (xs : List ℕ) → length (filter (λ i. eqb (f i) (l + 1)) xs) + length (filter (λ i. nat_lt (l + 1) (f i)) xs) ≤ length (filter (λ i. nat_lt l (f i)) xs)
  counted [] = omega arith
  counted (x ∷ xs) =
      let rest = counted xs in
      let one = parts (f x) in
      let a = len_cond (eqb (f x) (l + 1)) x (filter (λ i. eqb (f i) (l + 1)) xs) in
      let b = len_cond (nat_lt (l + 1) (f x)) x (filter (λ i. nat_lt (l + 1) (f i)) xs) in
      let c = len_cond (nat_lt l (f x)) x (filter (λ i. nat_lt l (f i)) xs) in
      omega (arith, rest, one, a, b, c)

pub filter_most : (q : ℕ → Bool) (xs : List ℕ) → length (filter q xs) ≤ length xs
filter_most q [] = omega arith
filter_most q (x ∷ xs) = let rest = filter_most q xs in let here = one (q x) in let e = len_cond (q x) x (filter q xs) in omega (arith, rest, here, e)
  where
    one : (b : Bool) → cond b 1 0 ≤ 1
    one true = omega arith
    one false = omega arith

module _ (p : Plan) (graph : IsGraph p) where
  of_level : ℕ → List ℕ
  of_level l = filter (λ i. eqb (event_at p i).level (l + 1)) (below (event_count p))

  pub levels_len : length p.event_levels.items ≡ event_depth p
  levels_len = sym (length-map p.event_levels.items (λ (level : Contents ℕ). level.items)) ∙ ap length graph.event_levels_are ∙ length-map-range_with_len _ 0 (event_depth p)

  pub events_is : (l : ℕ) → l < length p.event_levels.items → events_of p l ≡ filter (λ i. eqb (event_at p i).level (l + 1)) (below (event_count p))
  events_is l lt =
      ap (λ xs. slice_index_or xs l []) graph.event_levels_are
      ∙ get_or-map-range_with_len (λ k. filter (λ i. eqb (event_at p i).level (k + 1)) (below (event_count p))) 0 (event_depth p) l l [] (subst (λ n. l < n) levels_len lt) (omega arith)

  pub events_inside : (l : ℕ) → l < length p.event_levels.items → All (λ i. i < event_count p) (events_of p l)
  events_inside l lt =
      subst (All (λ i. i < event_count p)) (sym (events_is l lt))
      (All-filter (λ i. eqb (event_at p i).level (l + 1)) (λ i. i < event_count p) (below (event_count p)) under)
    where
      under : All (λ i. i < event_count p) (below (event_count p))
      under k d less =
          let small : k < event_count p = subst (λ n. k < n) (length-range_with_len 0 (event_count p)) less in
          subst (λ n. n < event_count p) (sym (get_or-range_with_len 0 (event_count p) k d small)) (omega (arith, small))

  pub events_few : (l : ℕ) → l < length p.event_levels.items → length (events_of p l) ≤ event_count p
  events_few l lt =
      let e = ap length (events_is l lt) in
      let most = filter_most (λ i. eqb (event_at p i).level (l + 1)) (below (event_count p)) in
      let n = length-range_with_len 0 (event_count p) in
      omega (arith, e, most, n)

  pub level_is : (l n : ℕ) → l < length p.event_levels.items → n < length (events_of p l) → (event_at p (event_in p l n)).level ≡ l + 1
  level_is l n lt less = level_of (all n 0 less)
    where
      all : All (λ i. eqb (event_at p i).level (l + 1) ≡ true) (events_of p l)
      all = subst (All (λ i. eqb (event_at p i).level (l + 1) ≡ true)) (sym (events_is l lt)) (filter_passes (λ i. eqb (event_at p i).level (l + 1)) (below (event_count p)))

      level_of : {a c : ℕ} → eqb a c ≡ true → a ≡ c
      level_of e = grind (arith, e)

  pub part_level : (parts l part n : ℕ) → l < length p.event_levels.items → n < length (part_items (events_of p l) parts part) → (event_at p (slice_index_or (part_items (events_of p l) parts part) n 0)).level ≡ l + 1
  part_level parts l part n lt less =
      let is = part_item (events_of p l) parts part n 0 less in
      ap (λ k. (event_at p k).level) is.1 ∙ level_is l (part_size (events_of p l) parts * part + n) lt is.0

  pub next_room : (l : ℕ) → l < length p.event_levels.items → length (events_of p l) + to_come p (l + 1) ≤ to_come p l
  next_room l lt = let e = ap length (events_is l lt) in let c = counted (λ i. (event_at p i).level) l (below (event_count p)) in omega (arith, e, c)

pub first_room : (p : Plan) → to_come p 0 ≤ event_count p
first_room p = let most = filter_most (λ i. nat_lt 0 (event_at p i).level) (below (event_count p)) in let n = length-range_with_len 0 (event_count p) in omega (arith, most, n)

-- the events of a level, as the plan's list gives them
pub events_are : (p : Plan) (l : ℕ) → l < length p.event_levels.items → (level : Contents ℕ) → ((d : Contents ℕ) → level ≡ slice_index_or p.event_levels.items l d)
    → (events : List ℕ) → events ≡ level.items → events ≡ events_of p l
events_are p l lt level at events same = same ∙ ap (λ (x : Contents ℕ). x.items) (at level) ∙ sym (get_or-map (λ (x : Contents ℕ). x.items) p.event_levels.items l level [] lt)

-- ---- the parts of a level

pub parted_level : (p : Plan) (parts l part : ℕ) → part < parts → parted_events p parts (part_counter parts l part) ≡ part_items (events_of p l) parts part
parted_level p parts l part lt = parted_is parts (events_of p) l part lt

-- over the parts of a list
sum_parts : {X : Type 0} (f : X → ℕ) (xs : List X) (parts : ℕ) → 0 < parts → sum_by (λ part. sum_by f (part_items xs parts part)) (below parts) ≡ sum_by f xs
sum_parts f xs parts some = sym (sum_flat_map f (part_items xs parts) (below parts)) ∙ ap (sum_by f) (all_parts xs parts some)

lengths_of_parts : {X : Type 0} (xs : List X) (parts : ℕ) → 0 < parts → sum_by (λ part. length (part_items xs parts part)) (below parts) ≡ length xs
lengths_of_parts {X} xs parts some =
    below_same (λ part. length (part_items xs parts part)) (λ part. sum_by (λ (x : X). 1) (part_items xs parts part)) parts (λ part lt. sym (sum_length (part_items xs parts part)))
    ∙ sum_parts (λ (x : X). 1) xs parts some ∙ sum_length xs

-- over the counters of all levels
pub sum_counters : (p : Plan) (parts : ℕ) → 0 < parts → (weight : ℕ → ℕ)
    → sum_by (λ k. sum_by weight (parted_events p parts k)) (below (length p.event_levels.items * parts)) ≡ sum_by (λ l. sum_by weight (events_of p l)) (below (length p.event_levels.items))
sum_counters p parts some weight =
    sum_rows (λ k. sum_by weight (parted_events p parts k)) (length p.event_levels.items) parts
    ∙ below_same (λ l. sum_by (λ part. sum_by weight (parted_events p parts (part_counter parts l part))) (below parts)) (λ l. sum_by weight (events_of p l)) (length p.event_levels.items)
    (λ l lt.
    below_same (λ part. sum_by weight (parted_events p parts (part_counter parts l part))) (λ part. sum_by weight (part_items (events_of p l) parts part)) parts
    (λ part less. ap (sum_by weight) (parted_level p parts l part less))
    ∙ sum_parts weight (events_of p l) parts some)

-- ---- the turns of a worker at a level

module _ (s : Shares) (are : AreShares s) (number : ℕ) where
  -- over the turns in their circle as over the parts in order
  sum_circle : (f : ℕ → ℕ) → sum_by (λ turn. f (part_at s number turn)) (below s.parts) ≡ sum_by f (below s.parts)
  sum_circle f =
      below_same (λ turn. f (part_at s number turn)) (λ turn. sum_by (hit turn) (below s.parts)) s.parts by_turn
      ∙ sum_swap hit (below s.parts) (below s.parts)
      ∙ below_same (λ part. sum_by (λ turn. hit turn part) (below s.parts)) f s.parts by_part
    where
      hit : ℕ → ℕ → ℕ
      hit turn part = cond (eqb (part_at s number turn) part) (f part) 0

      is_hit : (turn part : ℕ) → part_at s number turn ≡ part → hit turn part ≡ f part
      is_hit turn part same = cond-true (eqb (part_at s number turn) part) (f part) 0 (eq-eqb (part_at s number turn) part same)

      is_none : (turn part : ℕ) → (part_at s number turn ≡ part → ⊥) → hit turn part ≡ 0
      is_none turn part other = cond-false (eqb (part_at s number turn) part) (f part) 0 (ne_eqb (part_at s number turn) part other)

      by_turn : (turn : ℕ) → turn < s.parts → f (part_at s number turn) ≡ sum_by (hit turn) (below s.parts)
      by_turn turn lt =
          sym
          (sum_single (hit turn) (part_at s number turn) s.parts (at_inside s are number turn) (λ part less other. is_none turn part (λ same. other (sym same)))
          ∙ is_hit turn (part_at s number turn) refl)

      by_part : (part : ℕ) → part < s.parts → sum_by (λ turn. hit turn part) (below s.parts) ≡ f part
      by_part part lt =
          let at = turn_for s are number part lt in
          sum_single (λ turn. hit turn part) at.0 s.parts at.1 (λ turn less other. is_none turn part (λ same. other (at_apart s are number turn at.0 less at.1 (same ∙ sym at.2))))
          ∙ is_hit at.0 part at.2

  -- the parts of some turns are no longer than the level
  pub turns_short : (p : Plan) (level turns : ℕ) → turns ≤ s.parts → length_at p s number level turns ≤ length (events_of p level)
  turns_short p level turns le =
      let fewer = sum_fewer (λ turn. length (events_at p s number level turn)) turns s.parts le in
      let circle = sum_circle (λ part. length (part_items (events_of p level) s.parts part)) in
      let all = lengths_of_parts (events_of p level) s.parts are.some in
      omega (arith, fewer, circle, all)
