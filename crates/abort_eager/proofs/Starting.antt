-- A cascade at its start, and how far its sources reach.
use Rattle.std.proofs.Common.{◌≡◌, ℕ, ◌+◌, ◌-◌, ◌*◌, ◌<◌, ◌≤◌, Bool, true, false, ◌++◌, sym, ap, ◌∙◌, arith}
use Rattle.morph_base.specs.declared.limits.TheConstants.{EVENT_OPS, EVENTS}
use Rattle.morph_base.specs.declared.plan.Plan.{Plan}
use Rattle.morph_base.specs.declared.plan.PlanEvent.{PlanEvent}
use Rattle.morph_base.specs.Plans.{IsPlan, op_count, event_at, event_of}
use Rattle.morph_base.proofs.NumberLaws.{op_count-small}
use Rattle.interleaving_core.specs.Core.{places}
use Rattle.abort_eager.specs.declared.cascade.Cascade.{Cascade}
use Rattle.abort_eager.specs.Targets.{first_source, source_count, end_source, place_targets, reader_targets, sibling_targets, spread_targets, targets, targets_left, IsCascade}
use Rattle.abort_eager.proofs.Placing.{readers_first}
use Rattle.abort_eager.proofs.Popping.{siblings_end, sibling_over}

-- the sources are operations of the plan
event_ends : (p : Plan) (o : ℕ) → IsPlan p → o < op_count p → (event_at p (event_of p o)).first + (event_at p (event_of p o)).count ≤ op_count p
event_ends p o valid lt =
    let i : ℕ = event_of p o in
    let placed = valid.numbering.placed o lt in
    let some = (valid.numbering.counts i placed.0).0 in
    let last = (valid.numbering.owned i ((event_at p i).first + ((event_at p i).count - 1)) placed.0 (record { from = omega arith; below = omega arith })).0 in
    omega arith

sources_end : (p : Plan) (o : ℕ) (failed : Bool) → IsPlan p → o < op_count p → end_source p o failed ≤ op_count p
sources_end p o true valid lt = event_ends p o valid lt
sources_end p o false valid lt = omega arith

pub cascade_end : (p : Plan) (c : Cascade) → IsPlan p → IsCascade p c → c.end ≤ op_count p
cascade_end p c valid is = let few = sources_end p c.op c.failed valid is.op_in in let end = is.end_is in omega arith

pub end_small : (p : Plan) (o : ℕ) (e : PlanEvent) → IsPlan p → o < op_count p → e ≡ event_at p (event_of p o) → e.first + e.count < 4294967296
end_small p o e valid lt same =
    let few : op_count p ≤ EVENT_OPS * EVENTS = op_count-small p valid in
    let le = event_ends p o valid lt in
    let first_is : e.first ≡ (event_at p (event_of p o)).first = ap (λ (x : PlanEvent). x.first) same in
    let count_is : e.count ≡ (event_at p (event_of p o)).count = ap (λ (x : PlanEvent). x.count) same in
    omega arith

pub op_small : (p : Plan) (o : ℕ) → IsPlan p → o < op_count p → o + 1 < 4294967296
op_small p o valid lt = let few : op_count p ≤ EVENT_OPS * EVENTS = op_count-small p valid in omega arith

-- ---- where it begins, all targets are left

module _ (p : Plan) (o : ℕ) where
  siblings_all : (failed : Bool) → sibling_targets o (first_source p o failed) (end_source p o failed - first_source p o failed) ≡ spread_targets p o failed
  siblings_all true = let e : first_source p o true + source_count p o true - first_source p o true ≡ source_count p o true = omega arith in ap (sibling_targets o (first_source p o true)) e
  siblings_all false = sibling_over o (o + 1) (omega arith) ∙ siblings_end o (o + 1) (o + 1) (omega arith)

  places_all : (first end : ℕ) → 0 < op_count p
      → place_targets p first end 0 0 (places p 0 - 0) ++ reader_targets p first end (0 + 1) (op_count p - (0 + 1)) ≡ reader_targets p first end 0 (op_count p)
  places_all first end some =
      let e : places p 0 - 0 ≡ places p 0 = omega arith in
      let e' : op_count p - 0 ≡ op_count p = omega arith in
      ap (λ m. place_targets p first end 0 0 m ++ reader_targets p first end (0 + 1) (op_count p - (0 + 1))) e
      ∙ sym (readers_first p first end 0 (op_count p) some)
      ∙ ap (λ m. reader_targets p first end 0 m) e'

  pub all_left : (failed : Bool) (first end : ℕ) → o < op_count p → first ≡ first_source p o failed → end ≡ end_source p o failed
      → targets_left p (record { op = o; failed = failed; first = first; end = end; sibling = first; reader = 0; place = 0 }) ≡ targets p o failed
  all_left failed first end lt first_is end_is =
      let some : 0 < op_count p = omega arith in
      let a = first_source p o failed in
      let b = end_source p o failed in
      ap (λ x. targets_left p (record { op = o; failed = failed; first = x; end = end; sibling = x; reader = 0; place = 0 })) first_is
      ∙ ap (λ y. targets_left p (record { op = o; failed = failed; first = a; end = y; sibling = a; reader = 0; place = 0 })) end_is
      ∙ ap (λ ts. sibling_targets o a (b - a) ++ ts) (places_all a b some)
      ∙ ap (λ ts. ts ++ reader_targets p a b 0 (op_count p)) (siblings_all failed)
