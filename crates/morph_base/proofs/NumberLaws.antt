-- The numbering has no gaps: each event's operations follow those of the event before it.
use Rattle.std.proofs.Common.{◌≡◌, ℕ, zero, suc, ◌+◌, ◌-◌, ◌*◌, ◌<◌, ◌≤◌, take, sum_by, le_refl, refl, sym, ap, ◌∙◌, subst, inl, inr, arith}
use Rattle.std.proofs.Math.Seq.{take-suc, take-length}
use Rattle.std.proofs.lemmas.List.Sums.{sum_by_push}
use Rattle.std.proofs.lemmas.Bool.{cases_lt, cases_eq}
use Rattle.std.proofs.lemmas.List.{nil_from_length}
use Rattle.morph_base.specs.declared.limits.TheConstants.{EVENT_OPS, EVENTS}
use Rattle.morph_base.specs.declared.operation.Op.{Op}
use Rattle.morph_base.specs.declared.plan.Plan.{Plan}
use Rattle.morph_base.specs.Numbering.{numbers, IsWithin, IsNumbering}
use Rattle.morph_base.specs.Plans.{IsPlan, event_count, op_count, event_at, no_event}

module _ (n m : ℕ) (ts first count event_of : ℕ → ℕ) (op : ℕ → Op) (is : IsNumbering (numbers n ts first count) m event_of op) where
  -- the first operation of an event is one of its own
  pub first_owned : (i : ℕ) → i < n → (first i < m) × (event_of (first i) ≡ i)
  first_owned i lt =
      let some : 0 < count i = (is.counts i lt).0 in
      is.owned i (first i) lt (record { from = le_refl (first i); below = omega arith })

  -- an operation stands at its event's first or after it, and before its end
  pub within_event : (o : ℕ) (i : ℕ) → o < m → event_of o ≡ i → (first i ≤ o) × (o < first i + count i)
  within_event o i lt its =
      let home : IsWithin (first i) (count i) o = subst (λ e. IsWithin (first e) (count e) o) its (is.placed o lt).1 in
      (home.from, home.below)

  pub first-zero : 0 < n → first 0 ≡ 0
  first-zero some =
      let owned = first_owned 0 some in
      let start : 0 < m = (let far : first 0 < m = owned.0 in omega arith) in
      let order : event_of 0 ≤ event_of (first 0) = is.in_order 0 (first 0) (omega arith) owned.0 in
      let its : event_of (first 0) ≡ 0 = owned.1 in
      let zeroth : event_of 0 ≡ 0 = omega arith in
      let home = within_event 0 0 start zeroth in
      let from : first 0 ≤ 0 = home.0 in
      omega arith

  -- all numbers up to the end of an event's are in range
  pub end_fits : (i : ℕ) → i < n → first i + count i ≤ m
  end_fits i lt =
      let some : 0 < count i = (is.counts i lt).0 in
      let last : first i + (count i - 1) < m = (is.owned i (first i + (count i - 1)) lt (record { from = omega arith; below = omega arith })).0 in
      omega arith

  pub first-suc : (i : ℕ) → suc i < n → first (suc i) ≡ first i + count i
  first-suc i lt =
      let here : i < n = omega arith in
      let mine = first_owned i here in
      let next = first_owned (suc i) lt in
      let in_range : first (suc i) < m = next.0 in
      let my_event : event_of (first i) ≡ i = mine.1 in
      let its_event : event_of (first (suc i)) ≡ suc i = next.1 in
      let after : first i ≤ first (suc i) = elim (cases_lt (first (suc i)) (first i)) [
        | inl less ↦ let order : event_of (first (suc i)) ≤ event_of (first i) = is.in_order (first (suc i)) (first i) (omega arith) mine.0 in absurd (omega arith)
        | inr more ↦ more
      ] in
      let past : first i + count i ≤ first (suc i) = elim (cases_lt (first (suc i)) (first i + count i)) [
        | inl less ↦ let owned : event_of (first (suc i)) ≡ i = (is.owned i (first (suc i)) here (record { from = after; below = less })).1 in absurd (omega arith)
        | inr more ↦ more
      ] in
      let seam : ℕ = first i + count i in
      let seam_fits : seam < m = omega arith in
      let at_least : event_of (first i) ≤ event_of seam = is.in_order (first i) seam (omega arith) seam_fits in
      let at_most : event_of seam ≤ event_of (first (suc i)) = is.in_order seam (first (suc i)) past in_range in
      elim (cases_eq (event_of seam) i) [
        | inl same ↦ let home : seam < first i + count i = (within_event seam i seam_fits same).1 in absurd (omega arith)
        | inr other ↦
            let moved : event_of seam ≡ suc i = omega arith in
            let from : first (suc i) ≤ seam = (within_event seam (suc i) seam_fits moved).0 in
            omega arith
      ]

  -- the last event's operations are the last
  pub first-end : (i : ℕ) → suc i ≡ n → first i + count i ≡ m
  first-end i last =
      let here : i < n = omega arith in
      let fits : first i + count i ≤ m = end_fits i here in
      let mine = first_owned i here in
      let my_event : event_of (first i) ≡ i = mine.1 in
      elim (cases_lt (first i + count i) m) [
        | inl less ↦
            let seam : ℕ = first i + count i in
            let at_least : event_of (first i) ≤ event_of seam = is.in_order (first i) seam (omega arith) less in
            let at_most : event_of seam < n = (is.placed seam less).0 in
            let same : event_of seam ≡ i = omega arith in
            let home : seam < first i + count i = (within_event seam i less same).1 in
            absurd (omega arith)
        | inr more ↦ omega arith
      ]

  pub none-end : n ≡ 0 → m ≡ 0
  none-end none = elim (cases_lt 0 m) [ inl some ↦ (let home : event_of 0 < n = (is.placed 0 some).0 in absurd (omega arith)) | inr empty ↦ omega arith ]

  pub first-small : (i : ℕ) → i < n → first i ≤ EVENT_OPS * i
  first-small zero lt = let start : first 0 ≡ 0 = first-zero lt in omega arith
  first-small (suc i) lt =
      let here : i < n = omega arith in
      let before : first i ≤ EVENT_OPS * i = first-small i here in
      let next : first (suc i) ≡ first i + count i = first-suc i lt in
      let few : count i ≤ EVENT_OPS = (is.counts i here).1 in
      omega arith

  pub count-small : m ≤ EVENT_OPS * EVENTS
  count-small = at_end n refl
    where
      at_end : (k : ℕ) → n ≡ k → m ≤ EVENT_OPS * EVENTS
      at_end zero none = let empty : m ≡ 0 = none-end none in omega arith
      at_end (suc i) last =
          let here : i < n = omega arith in
          let before : first i ≤ EVENT_OPS * i = first-small i here in
          let few : count i ≤ EVENT_OPS = (is.counts i here).1 in
          let ends : first i + count i ≡ m = first-end i (sym last) in
          let events : n ≤ EVENTS = is.few in
          omega arith

-- ---- a plan's

-- an event's first operation follows all those of the events before it
pub first-sum : (p : Plan) (i : ℕ) → IsPlan p → i < event_count p → (event_at p i).first ≡ sum_by (λ e. e.count) (take i p.events.items)
first-sum p zero valid lt = first-zero _ _ _ _ _ _ _ valid.numbering lt
first-sum p (suc i) valid lt =
    let here : i < event_count p = omega arith in
    first-suc _ _ _ _ _ _ _ valid.numbering i lt
    ∙ ap (λ k. k + (event_at p i).count) (first-sum p i valid here)
    ∙ sym (ap (sum_by (λ e. e.count)) (take-suc p.events.items i no_event here) ∙ sum_by_push (λ e. e.count) (take i p.events.items) (event_at p i))

pub count-sum : (p : Plan) → IsPlan p → op_count p ≡ sum_by (λ e. e.count) p.events.items
count-sum p valid = at_end (event_count p) refl
  where
    at_end : (k : ℕ) → event_count p ≡ k → op_count p ≡ sum_by (λ e. e.count) p.events.items
    at_end zero none = none-end _ _ _ _ _ _ _ valid.numbering none ∙ sym (ap (sum_by (λ e. e.count)) (nil_from_length p.events.items none))
    at_end (suc i) last =
        let here : i < event_count p = omega arith in
        sym (first-end _ _ _ _ _ _ _ valid.numbering i (sym last))
        ∙ ap (λ k. k + (event_at p i).count) (first-sum p i valid here)
        ∙ sym (sum_by_push (λ e. e.count) (take i p.events.items) (event_at p i))
        ∙ ap (sum_by (λ e. e.count)) (sym (take-suc p.events.items i no_event here) ∙ ap (λ k. take k p.events.items) (sym last) ∙ take-length p.events.items)

pub op_count-small : (p : Plan) → IsPlan p → op_count p ≤ EVENT_OPS * EVENTS
op_count-small p valid = count-small _ _ _ _ _ _ _ valid.numbering
