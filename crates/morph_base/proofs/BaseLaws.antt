-- The bases of a plan: what the opening state has at a key, and that it has the plan's bases where some state has.
use Rattle.std.proofs.Common.{◌≡◌, ℕ, zero, suc, ◌<◌, ◌≤◌, List, [], ◌∷◌, length, get_or, Option, Some, None, unwrap_or, not-suc-le-zero, zero-lt-suc, le_of_suc-le-suc, suc-le-suc, lt_of_lt_of_le, refl, sym, ◌∙◌, subst, inl, inr}
use Rattle.std.proofs.lemmas.Option.{same_Some, none-some}
use Rattle.std.proofs.lemmas.Bool.{cases_Bool, cond-true, cond-false}
use Rattle.morph_base.specs.declared.key.Key.{Key}
use Rattle.morph_base.specs.declared.plan.Origin.{Origin}
use Rattle.morph_base.specs.declared.plan.Origin.TheVariants.{Base, Op as Written}
use Rattle.morph_base.specs.declared.plan.PlanOp.{PlanOp}
use Rattle.morph_base.specs.declared.plan.Plan.{Plan}
use Rattle.morph_base.specs.Operations.{reads, same_key, no_key}
use Rattle.morph_base.specs.States.{State}
use Rattle.morph_base.specs.Plans.{op_count, op_at, keys_of, no_plan_op, HasBases, base_in, opening_of, opening}
use Rattle.morph_base.proofs.KeyLaws.{same_key-true, same_key-from}

-- ---- one list of places

-- each base among the places satisfies P of its key
abbrev pub EachBase : (Key → ℕ → Type 0) → List Key → List Origin → Type 0
EachBase P ks origins = (j v : ℕ) → j < length ks → j < length origins → get_or origins j (Base 0) ≡ Base v → P (get_or ks j no_key) v

module _ (P : Key → ℕ → Type 0) where
  -- what is found for a key is the base of some place of it
  pub base_in-found : (ks : List Key) (origins : List Origin) (key : Key) (v : ℕ) → EachBase P ks origins → base_in ks origins key ≡ Some v → P key v
  unfolding base_in
  base_in-found [] origins key v each found = absurd (none-some v found)
  base_in-found (k ∷ ks) [] key v each found = absurd (none-some v found)
  base_in-found (k ∷ ks) (Base b ∷ origins) key v each found =
      elim (cases_Bool (same_key k key)) [
        | inl same ↦
            let is : b ≡ v = same_Some b v (sym (cond-true (same_key k key) (Some b) (base_in ks origins key) same) ∙ found) in
            subst (λ x. P x v) (same_key-true k key same) (subst (P k) is (each 0 b (zero-lt-suc (length ks)) (zero-lt-suc (length origins)) refl))
        | inr other ↦
            base_in-found ks origins key v (λ j x lt below. each (suc j) x (suc-le-suc lt) (suc-le-suc below))
            (sym (cond-false (same_key k key) (Some b) (base_in ks origins key) other) ∙ found)
      ]
  base_in-found (k ∷ ks) (Written t ∷ origins) key v each found =
      base_in-found ks origins key v (λ j x lt below. each (suc j) x (suc-le-suc lt) (suc-le-suc below)) found

-- a base of the key is found
pub base_in-some : (ks : List Key) (origins : List Origin) (key : Key) (j v : ℕ) → j < length ks → j < length origins → get_or origins j (Base 0) ≡ Base v
    → get_or ks j no_key ≡ key → (x : ℕ) × (base_in ks origins key ≡ Some x)
unfolding base_in
base_in-some [] origins key j v lt below is same = absurd (not-suc-le-zero lt)
base_in-some (k ∷ ks) [] key j v lt below is same = absurd (not-suc-le-zero below)
base_in-some (k ∷ ks) (Base b ∷ origins) key zero v lt below is same =
    (b, cond-true (same_key k key) (Some b) (base_in ks origins key) (same_key-from k key same))
base_in-some (k ∷ ks) (Base b ∷ origins) key (suc j) v lt below is same =
    elim (cases_Bool (same_key k key)) [
      | inl its ↦ (b, cond-true (same_key k key) (Some b) (base_in ks origins key) its)
      | inr other ↦
          let found = base_in-some ks origins key j v (le_of_suc-le-suc lt) (le_of_suc-le-suc below) is same in
          (found.0, cond-false (same_key k key) (Some b) (base_in ks origins key) other ∙ found.1)
    ]
base_in-some (k ∷ ks) (Written t ∷ origins) key zero v lt below is same = absurd (written≢base t v is)
  where
    written≢base : (t v : ℕ) → Written t ≡ Base v → ⊥
    written≢base t v e = cc
base_in-some (k ∷ ks) (Written t ∷ origins) key (suc j) v lt below is same = base_in-some ks origins key j v (le_of_suc-le-suc lt) (le_of_suc-le-suc below) is same

-- ---- the operations of a plan

-- each base of the operations satisfies P of its key
abbrev pub EachOpBase : (Key → ℕ → Type 0) → List PlanOp → Type 0
EachOpBase P qs = (o : ℕ) → o < length qs → EachBase P (reads (get_or qs o no_plan_op).op) (get_or qs o no_plan_op).origins

-- the opening state has at each key a base of it, or 0
pub opening_of-each : (P : Key → ℕ → Type 0) → ((key : Key) → P key 0) → (qs : List PlanOp) (key : Key) → EachOpBase P qs → P key (opening_of qs key)
unfolding opening_of
opening_of-each P none [] key each = none key
opening_of-each P none (q ∷ qs) key each =
    either (base_in (reads q.op) q.origins key) refl (opening_of-each P none qs key (λ o lt. each (suc o) (suc-le-suc lt)))
  where
    either : (found : Option ℕ) → base_in (reads q.op) q.origins key ≡ found → P key (opening_of qs key) → P key (unwrap_or found (opening_of qs key))
    either None is rest = rest
    either (Some v) is rest = base_in-found P (reads q.op) q.origins key v (each 0 (zero-lt-suc (length qs))) is

-- at a key that has a base, one of its bases
pub opening_of-based : (P : Key → ℕ → Type 0) (qs : List PlanOp) (key : Key) (o j v : ℕ) → EachOpBase P qs → o < length qs
    → j < length (reads (get_or qs o no_plan_op).op) → j < length (get_or qs o no_plan_op).origins
    → get_or (get_or qs o no_plan_op).origins j (Base 0) ≡ Base v → get_or (reads (get_or qs o no_plan_op).op) j no_key ≡ key → P key (opening_of qs key)
unfolding opening_of
opening_of-based P [] key o j v each in_range lt below is same = absurd (not-suc-le-zero in_range)
opening_of-based P (q ∷ qs) key zero j v each in_range lt below is same =
    let found = base_in-some (reads q.op) q.origins key j v lt below is same in
    subst (λ x. P key (unwrap_or x (opening_of qs key))) (sym found.1) (base_in-found P (reads q.op) q.origins key found.0 (each 0 (zero-lt-suc (length qs))) found.1)
opening_of-based P (q ∷ qs) key (suc o) j v each in_range lt below is same =
    either (base_in (reads q.op) q.origins key) refl
    (opening_of-based P qs key o j v (λ n small. each (suc n) (suc-le-suc small)) (le_of_suc-le-suc in_range) lt below is same)
  where
    either : (found : Option ℕ) → base_in (reads q.op) q.origins key ≡ found → P key (opening_of qs key) → P key (unwrap_or found (opening_of qs key))
    either None is rest = rest
    either (Some x) is rest = base_in-found P (reads q.op) q.origins key x (each 0 (zero-lt-suc (length qs))) is

-- where some state has the bases of a plan with a place for each key, the opening state has them
pub bases-opening : (p : Plan) (s : State) → ((o : ℕ) → o < op_count p → length (keys_of p o) ≤ length (op_at p o).origins) → HasBases p s → HasBases p (opening p)
bases-opening p s places based o j v lt below is =
    let each : EachOpBase (λ key x. x ≡ s key) p.ops.items = λ n small k x inside room base. based n k x small inside base in
    based o j v lt below is
    ∙ sym (opening_of-based (λ key x. x ≡ s key) p.ops.items _ o j v each lt below (lt_of_lt_of_le below (places o lt)) is refl)
