-- What was settled tells the fates of a plan's events.
use Rattle.std.proofs.Common.{◌≡◌, ℕ, ◌+◌, ◌<◌, Bool, false, List, map, length, take, drop, get_or, refl, sym, ap, ◌∙◌, arith, zero-add}
use Rattle.std.proofs.Math.Path.{ap₂}
use Rattle.std.proofs.lemmas.List.{length-take, length-drop, get_or-take, get_or-drop, ext_get_or}
use Rattle.std.proofs.lemmas.List.FromFn.{length-range_with_len, get_or-range_with_len, length-map-range_with_len, get_or-map-range_with_len}
use Rattle.morph_base.specs.declared.plan.Plan.{Plan}
use Rattle.morph_base.specs.declared.plan.Settled.{Settled}
use Rattle.morph_base.specs.States.{State}
use Rattle.morph_base.specs.Outcomes.{Fate, fates}
use Rattle.morph_base.specs.Plans.{IsPlan, HasBases, IsSettledOf, event_count, op_count, event_at, transactions, final}
use Rattle.morph_base.specs.Graphs.{ops_in, below}
use Rattle.morph_base.proofs.OutcomeLaws.{map-agree}
use Rattle.morph_base.proofs.PlanLaws.{end_in_range}
use Rattle.morph_base.proofs.FateLaws.{final_fate, final_fates}
use Rattle.morph_engine.specs.Fates.{settled_fate, settled_fates}

module _ (p : Plan) (r : Settled) (valid : IsPlan p) (settled : IsSettledOf p r) where
  -- the values of an event's operations
  event_values : (i : ℕ) → i < event_count p → take (event_at p i).count (drop (event_at p i).first r.values.items) ≡ map (final p) (ops_in p i)
  event_values i lt =
      let first : ℕ = (event_at p i).first in
      let count : ℕ = (event_at p i).count in
      let room = end_in_range p valid i lt in
      let all = settled.values in
      let len : length (take count (drop first r.values.items)) ≡ count = length-take count (drop first r.values.items) ∙ (let rest = length-drop first r.values.items in omega arith) in
      ext_get_or 0 (take count (drop first r.values.items)) (map (final p) (ops_in p i)) (len ∙ sym (length-map-range_with_len (final p) first count))
      (λ j inside.
      let small : j < count = omega arith in
      let in_range : first + j < op_count p = omega arith in
      get_or-take count (drop first r.values.items) j 0 small
      ∙ get_or-drop first r.values.items j 0
      ∙ settled.value (first + j) in_range
      ∙ sym (get_or-map-range_with_len (final p) first count j (first + j) 0 small refl))

  settled_fate-is : (i : ℕ) → i < event_count p → settled_fate p r i ≡ final_fate p i
  settled_fate-is i lt =
      let made : Bool → List ℕ → Fate = λ committed values. record { ts = (event_at p i).ts; committed = committed; values = values } in
      ap₂ made (settled.committed i false lt) (event_values i lt)

  pub settled_fates-are : (s : State) → HasBases p s → settled_fates p r ≡ fates s (transactions p)
  settled_fates-are s based =
      map-agree (settled_fate p r) (final_fate p) (below (event_count p)) 0
      (λ i inside.
      let lt : i < event_count p = (let all = length-range_with_len 0 (event_count p) in omega arith) in
      let found : get_or (below (event_count p)) i 0 ≡ i = get_or-range_with_len 0 (event_count p) i 0 lt ∙ zero-add i in
      ap (settled_fate p r) found ∙ settled_fate-is i lt ∙ ap (final_fate p) (sym found))
      ∙ sym (final_fates p s valid based)
