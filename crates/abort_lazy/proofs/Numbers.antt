-- The numbers of an event's operations, and how many operations the first events have.
use Rattle.std.proofs.Common.{◌≡◌, ℕ, ◌+◌, ◌*◌, ◌<◌, ◌≤◌, take, sum_by, sym, ap, ◌∙◌, inl, inr, arith, add-one}
use Rattle.std.proofs.Math.Seq.{take-suc, take-length}
use Rattle.std.proofs.lemmas.List.Sums.{sum_by_push}
use Rattle.std.proofs.lemmas.Bool.{cases_lt}
use Rattle.morph_base.specs.declared.limits.TheConstants.{EVENT_OPS, EVENTS}
use Rattle.morph_base.specs.declared.plan.Plan.{Plan}
use Rattle.morph_base.specs.declared.plan.PlanEvent.{PlanEvent}
use Rattle.morph_base.specs.Plans.{IsPlan, InEvent, op_count, event_count, event_at, event_of, no_event}
use Rattle.morph_base.proofs.NumberLaws.{first_owned, end_fits, first-sum, count-sum, op_count-small}
use Rattle.morph_base.proofs.OutcomeLaws.{Precedes}

-- the number after the last operation of event i
abbrev pub end_of : Plan → ℕ → ℕ
end_of p i = (event_at p i).first + (event_at p i).count

module _ (p : Plan) (i : ℕ) (valid : IsPlan p) (lt : i < event_count p) where
  pub own : (o : ℕ) → (event_at p i).first ≤ o → o < end_of p i → InEvent p i o
  own o from below = record { from = from; below = below }

  pub own_op : (o : ℕ) → (event_at p i).first ≤ o → o < end_of p i → (o < op_count p) × (event_of p o ≡ i)
  own_op o from below = valid.numbering.owned i o lt (own o from below)

  pub end_small : end_of p i ≤ op_count p
  end_small = end_fits _ _ _ _ _ _ _ valid.numbering i lt

  -- an event that was read at i
  pub read_event : (e : PlanEvent) → e ≡ event_at p i → (e.first ≡ (event_at p i).first) × (e.count ≡ (event_at p i).count) × (e.first + e.count ≤ EVENT_OPS * EVENTS)
  read_event e same =
      let f : e.first ≡ (event_at p i).first = ap (λ (x : PlanEvent). x.first) same in
      let k : e.count ≡ (event_at p i).count = ap (λ (x : PlanEvent). x.count) same in
      let room = end_small in
      let few : op_count p ≤ EVENT_OPS * EVENTS = op_count-small p valid in
      (f, k, omega arith)

  -- an operation that is reached from its first on
  pub reached : (e : PlanEvent) (o : ℕ) → e ≡ event_at p i → e.first ≤ o → o < e.first + e.count → ((event_at p i).first ≤ o) × (o < end_of p i) × (o < op_count p) × (event_of p o ≡ i)
  reached e o same from below =
      let read = read_event e same in
      let at_first : (event_at p i).first ≤ o = omega (arith, read.0) in
      let before_end : o < end_of p i = omega (arith, read.0, read.1) in
      let its = own_op o at_first before_end in
      (at_first, before_end, its.0, its.1)

  -- and the end that is reached
  pub reached_end : (e : PlanEvent) (o : ℕ) → e ≡ event_at p i → (e.first ≤ e.first + e.count → o ≤ e.first + e.count) → e.first + e.count ≤ o → o ≡ end_of p i
  reached_end e o same most least =
      let read = read_event e same in
      let some : e.first ≤ e.first + e.count = omega arith in
      let last = most some in
      omega (arith, read.0, read.1)

-- what precedes an operation stands before the first one of its event
pub before_first : (p : Plan) (t o : ℕ) → IsPlan p → o < op_count p → Precedes p t o → t < (event_at p (event_of p o)).first
before_first p t o valid lt before =
    let i : ℕ = event_of p o in
    elim (cases_lt t (event_at p i).first) [
      | inl less ↦ less
      | inr more ↦
          let mine : event_of p ((event_at p i).first) ≡ i = (first_owned _ _ _ _ _ _ _ valid.numbering i (valid.numbering.placed o lt).0).1 in
          let order : event_of p ((event_at p i).first) ≤ event_of p t = valid.numbering.in_order ((event_at p i).first) t more before.in_range in
          let earlier = before.event_before in
          absurd (omega arith)
    ]

-- how many operations the first i events have
abbrev pub ops_before : Plan → ℕ → ℕ
ops_before p i = sum_by (λ e. e.count) (take i p.events.items)

pub ops_before-first : (p : Plan) (i : ℕ) → IsPlan p → i < event_count p → ops_before p i ≡ (event_at p i).first
ops_before-first p i valid lt = sym (first-sum p i valid lt)

pub ops_before-more : (p : Plan) (i : ℕ) → IsPlan p → i < event_count p → ops_before p (i + 1) ≡ end_of p i
ops_before-more p i valid lt =
    ap (λ k. ops_before p k) (add-one i)
    ∙ ap (sum_by (λ e. e.count)) (take-suc p.events.items i no_event lt)
    ∙ sum_by_push (λ e. e.count) (take i p.events.items) (event_at p i)
    ∙ ap (λ k. k + (event_at p i).count) (ops_before-first p i valid lt)

pub ops_before-all : (p : Plan) → IsPlan p → ops_before p (event_count p) ≡ op_count p
ops_before-all p valid = ap (sum_by (λ e. e.count)) (take-length p.events.items) ∙ sym (count-sum p valid)
