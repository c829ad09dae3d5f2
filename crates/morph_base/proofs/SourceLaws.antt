-- The value of a key before an event is that of the last operation that wrote it, or of the state before the batch.
use Rattle.std.proofs.Common.{◌≡◌, ℕ, zero, suc, ◌+◌, ◌<◌, ◌≤◌, length, not-suc-le-zero, refl, sym, ap, ◌∙◌, inl, inr, arith, add-one}
use Rattle.std.proofs.lemmas.Bool.{cases_eq}
use Rattle.morph_base.specs.declared.key.Key.{Key}
use Rattle.morph_base.specs.declared.plan.Origin.{Origin}
use Rattle.morph_base.specs.declared.plan.Origin.TheVariants.{Base, Op as Written}
use Rattle.morph_base.specs.declared.plan.Plan.{Plan}
use Rattle.morph_base.specs.States.{State}
use Rattle.morph_base.specs.Sources.{WritesKey}
use Rattle.morph_base.specs.Plans.{IsPlan, op_count, event_of, target, keys_of, key_at, origin_at, HasBases, IsLastWriterIn, IsUnwrittenIn, IsSourceIn, state_at, value_at}
use Rattle.morph_base.specs.Clean.{from, source}
use Rattle.morph_base.proofs.PlanLaws.{state_at-zero, state_at-kept}

-- the last operation before event i that writes a key decides its value
pub state_at-written : (p : Plan) (s : State) → IsPlan p → (i : ℕ) (key : Key) (w : ℕ) → IsLastWriterIn p i key w → state_at p s i key ≡ value_at p s w
unfolding value_at
state_at-written p s valid zero key w last = absurd (not-suc-le-zero last.itself.earlier)
state_at-written p s valid (suc i) key w last =
    elim (cases_eq (event_of p w) i) [
      | inl same ↦ ap (λ n. state_at p s n key) (sym (add-one (event_of p w) ∙ ap suc same)) ∙ ap (state_at p s (event_of p w + 1)) (sym last.itself.target_is)
      | inr different ↦
          let earlier : event_of p w < i = (let below = last.itself.earlier in omega arith) in
          let itself : WritesKey (op_count p) (target p) (event_of p) i key w = record { in_range = last.itself.in_range; earlier = earlier; target_is = last.itself.target_is } in
          let before : IsLastWriterIn p i key w =
          record { itself = itself; last = λ t writes. last.last t (record { in_range = writes.in_range; earlier = (let below = writes.earlier in omega arith); target_is = writes.target_is }) } in
          state_at-kept p s i key valid
          (λ t in_range its same.
          let less : t ≤ w = last.last t (record { in_range = in_range; earlier = omega arith; target_is = same }) in
          let order : event_of p t ≤ event_of p w = valid.numbering.in_order t w less last.itself.in_range in
          omega arith)
          ∙ state_at-written p s valid i key w before
    ]

-- a key that no operation before event i writes has its value of before the batch
pub state_at-unwritten : (p : Plan) (s : State) → IsPlan p → (i : ℕ) (key : Key) → IsUnwrittenIn p i key → state_at p s i key ≡ s key
state_at-unwritten p s valid zero key none = ap (λ at_start. at_start key) (state_at-zero p s)
state_at-unwritten p s valid (suc i) key none =
    state_at-kept p s i key valid (λ t in_range its same. none t (record { in_range = in_range; earlier = omega arith; target_is = same }))
    ∙ state_at-unwritten p s valid i key
    (λ t writes. none t (record { in_range = writes.in_range; earlier = (let below = writes.earlier in omega arith); target_is = writes.target_is }))

-- what a source stands for is the value of its key before the event
pub state_at-source : (p : Plan) (s : State) → IsPlan p → (i : ℕ) (key : Key) (origin : Origin) → IsSourceIn p i key origin
    → ((v : ℕ) → origin ≡ Base v → v ≡ s key) → state_at p s i key ≡ from (value_at p s) origin
state_at-source p s valid i key (Base v) is based = state_at-unwritten p s valid i key is ∙ sym (based v refl)
state_at-source p s valid i key (Written w) is based = state_at-written p s valid i key w is

-- the key that an operation reads at a place has, before its event, the value of its source there
pub source_law : (p : Plan) (s : State) (o j : ℕ) → IsPlan p → HasBases p s → o < op_count p → j < length (keys_of p o)
    → state_at p s (event_of p o) (key_at p o j) ≡ source p (value_at p s) o j
source_law p s o j valid based lt below =
    state_at-source p s valid (event_of p o) (key_at p o j) (origin_at p o j) (valid.sources o j lt below) (λ v is. based o j v lt below is)
