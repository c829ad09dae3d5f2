-- The value of a key after the first events of a plan, looked for one operation after another.
use Rattle.std.proofs.Common.{◌≡◌, ℕ, ◌+◌, ◌<◌, ◌≤◌, ◌⊎◌, ◌↔◌, nat_le, count_by, inl, inr, sym, ap, ◌∙◌, arith, not-suc-le-zero, subst}
use Rattle.std.proofs.lemmas.Bool.{cases_eq}
use Rattle.morph_base.specs.declared.key.Key.{Key}
use Rattle.morph_base.specs.declared.plan.Plan.{Plan}
use Rattle.morph_base.specs.declared.plan.PlanOp.{PlanOp}
use Rattle.morph_base.specs.States.{State}
use Rattle.morph_base.specs.Sources.{IsLastWriter, IsUnwritten}
use Rattle.morph_base.specs.Plans.{IsPlan, HasBases, op_count, op_at, event_at, event_of, target, state_at, final}
use Rattle.morph_base.proofs.EndLaws.{end_written, end_unwritten}
use Rattle.morph_base.proofs.VersionLaws.{events_until}

module _ (p : Plan) (s : State) (i : ℕ) (key : Key) where
  -- of the first n operations, the last one of the first i events that changes the key leaves v; or none does, and the state before has v
  abbrev pub IsVersion : ℕ → ℕ → Type 0
  IsVersion n v = ((o : ℕ) × IsLastWriter n (target p) (event_of p) i key o × (v ≡ final p o)) ⊎ (IsUnwritten n (target p) (event_of p) i key × (v ≡ s key))

  pub version-none : (v : ℕ) → v ≡ s key → IsVersion 0 v
  version-none v is = inr ((λ t writes. not-suc-le-zero writes.in_range), is)

  -- the next operation changes it
  pub version-changed : (n x : ℕ) → event_of p n < i → target p n ≡ key → x ≡ final p n → IsVersion (n + 1) x
  version-changed n x earlier its is = inl (
    n,
    record {
      itself = record { in_range = omega arith; earlier = earlier; target_is = its };
      last = λ t writes. (let lt = writes.in_range in omega arith);
    },
    is,
  )

  -- or it does not
  pub version-kept : (n v : ℕ) → (event_of p n < i → target p n ≡ key → ⊥) → IsVersion n v → IsVersion (n + 1) v
  version-kept n v other (inl (o, is, value)) =
      let lt = is.itself.in_range in
      inl (
        o,
        record {
          itself = record { in_range = omega arith; earlier = is.itself.earlier; target_is = is.itself.target_is };
          last = λ t writes. elim (cases_eq t n) [
            | inl its ↦ absurd (other (subst (λ k. event_of p k < i) its writes.earlier) (ap (target p) (sym its) ∙ writes.target_is))
            | inr apart ↦ (let below = writes.in_range in is.last t (record { in_range = omega arith; earlier = writes.earlier; target_is = writes.target_is }))
          ];
        },
        value,
      )
  version-kept n v other (inr (none, value)) =
      inr (
        (λ t writes. elim (cases_eq t n) [
          | inl its ↦ other (subst (λ k. event_of p k < i) its writes.earlier) (ap (target p) (sym its) ∙ writes.target_is)
          | inr apart ↦ (let below = writes.in_range in none t (record { in_range = omega arith; earlier = writes.earlier; target_is = writes.target_is }))
        ]),
        value,
      )

  -- all operations
  pub version-end : (v : ℕ) → IsPlan p → HasBases p s → IsVersion (op_count p) v → v ≡ state_at p s i key
  version-end v valid based (inl (o, is, value)) = value ∙ sym (end_written p s i key o valid based is)
  version-end v valid based (inr (none, value)) = value ∙ sym (end_unwritten p s i key valid none)

-- ---- up to a time

module _ (p : Plan) (s : State) (ts : ℕ) (key : Key) (valid : IsPlan p) (n : ℕ) (q : PlanOp) (lt : n < op_count p) (its : q ≡ op_at p n) where
  -- how many events there are up to it
  abbrev until : ℕ
  until = count_by (λ e. nat_le e.ts ts) p.events.items

  abbrev Changes : Type 0
  Changes = (q.op.key ≡ key) × ((event_at p q.event).ts ≤ ts)

  bound : (event_of p n < until) ↔ ((event_at p (event_of p n)).ts ≤ ts)
  bound = events_until p ts (event_of p n) valid (valid.numbering.placed n lt).0

  pub version-taken : (x : ℕ) → Changes → x ≡ final p n → IsVersion p s until key (n + 1) x
  version-taken x changes is =
      version-changed p s until key n x (bound.1 (subst (λ r. (event_at p r.event).ts ≤ ts) its changes.1)) (ap (λ r. r.op.key) (sym its) ∙ changes.0) is

  pub version-passed : (v : ℕ) → (Changes → ⊥) → IsVersion p s until key n v → IsVersion p s until key (n + 1) v
  version-passed v other =
      version-kept p s until key n v
      (λ earlier same. other (ap (λ r. r.op.key) its ∙ same, subst (λ r. (event_at p r.event).ts ≤ ts) (sym its) (bound.0 earlier)))
