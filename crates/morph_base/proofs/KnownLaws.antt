-- What can be settled once the sources of an operation are known.
use Rattle.std.proofs.Common.{◌≡◌, ℕ, ◌<◌, Bool, true, false, length, Some, None, is_some, IsSome, zero-lt-suc, refl, sym, ap, ◌∙◌, subst, inl, inr}
use Rattle.std.proofs.lemmas.Bool.{cases_Bool, true≢false}
use Rattle.std.proofs.lemmas.Option.{same_Some, none-some}
use Rattle.morph_base.specs.declared.plan.Origin.{Origin}
use Rattle.morph_base.specs.declared.plan.Origin.TheVariants.{Base, Op as Written}
use Rattle.morph_base.specs.declared.plan.Plan.{Plan}
use Rattle.morph_base.specs.Plans.{IsPlan, event_count, op_count, event_of, keys_of, origin_at, InEvent, opening, final, verdict}
use Rattle.morph_base.specs.Clean.{from, source, outcome, IsCommitted, IsAborted, HasVerdict}
use Rattle.morph_base.specs.Known.{IsKnown, AreKnown, IsRight}
use Rattle.morph_base.proofs.OutcomeLaws.{source_precedes, outcome-same}
use Rattle.morph_base.proofs.CleanLaws.{fold_is_clean}

-- ---- the fold's own values

module _ (p : Plan) (valid : IsPlan p) where
  final_verdict : (i : ℕ) (c : Bool) → i < event_count p → verdict p i ≡ c → HasVerdict p (final p) i c
  final_verdict i c lt is = subst (HasVerdict p (final p) i) is ((fold_is_clean p (opening p) valid valid.bases).at i lt)

  pub final_committed : (o : ℕ) → o < op_count p → verdict p (event_of p o) ≡ true → outcome p (final p) o ≡ Some (final p o)
  final_committed o lt commit =
      let home = valid.numbering.placed o lt in
      let each : IsCommitted p (final p) (event_of p o) = final_verdict (event_of p o) true home.0 commit in
      each.each o home.1

  pub final_aborted : (o : ℕ) → o < op_count p → verdict p (event_of p o) ≡ false → final p o ≡ source p (final p) o 0
  final_aborted o lt abort =
      let home = valid.numbering.placed o lt in
      let failed : IsAborted p (final p) (event_of p o) = final_verdict (event_of p o) false home.0 abort in
      failed.carries o home.1

  -- an event commits exactly where none of its operations fails on the fold's values
  pub commits_from : (i : ℕ) → i < event_count p → ((o : ℕ) → InEvent p i o → IsSome (outcome p (final p) o)) → verdict p i ≡ true
  commits_from i lt answers =
      elim (cases_Bool (verdict p i)) [
        | inl commit ↦ commit
        | inr abort ↦
            let failed : IsAborted p (final p) i = final_verdict i false lt abort in
            absurd (true≢false (sym (answers failed.culprit failed.inside) ∙ ap is_some failed.fails))
      ]

  pub aborts_from : (i o : ℕ) → i < event_count p → InEvent p i o → outcome p (final p) o ≡ None → verdict p i ≡ false
  aborts_from i o lt within fails =
      elim (cases_Bool (verdict p i)) [
        | inl commit ↦ let each : IsCommitted p (final p) i = final_verdict i true lt commit in absurd (none-some (final p o) (sym fails ∙ each.each o within))
        | inr abort ↦ abort
      ]

-- ---- what is known

module _ (p : Plan) (known : ℕ → Type 0) (v : ℕ → ℕ) (valid : IsPlan p) (right : IsRight p known v) where
  pub known_source : (o j : ℕ) → o < op_count p → j < length (keys_of p o) → IsKnown known (origin_at p o j) → source p v o j ≡ source p (final p) o j
  known_source o j lt below is = of_origin (origin_at p o j) refl is
    where
      of_origin : (origin : Origin) → origin_at p o j ≡ origin → IsKnown known origin → from v origin ≡ from (final p) origin
      of_origin (Base b) same is = refl
      of_origin (Written t) same is = right t (source_precedes p o j t valid lt below same).in_range is

  pub known_outcome : (o : ℕ) → o < op_count p → AreKnown p known o → outcome p v o ≡ outcome p (final p) o
  known_outcome o lt sources = outcome-same p v (final p) o (λ j below. known_source o j lt below (sources j below))

  -- all operations of an event have an answer on known sources: it commits
  pub may_commit : (i : ℕ) → i < event_count p → ((o : ℕ) → InEvent p i o → AreKnown p known o) → ((o : ℕ) → InEvent p i o → IsSome (outcome p v o)) → verdict p i ≡ true
  may_commit i lt sources answers =
      commits_from p valid i lt (λ o within.
      subst IsSome (known_outcome o (valid.numbering.owned i o lt within).0 (sources o within)) (answers o within))

  -- one of them fails on known sources: it aborts
  pub may_abort : (i o : ℕ) → i < event_count p → InEvent p i o → AreKnown p known o → outcome p v o ≡ None → verdict p i ≡ false
  may_abort i o lt within sources fails =
      aborts_from p valid i o lt within (sym (known_outcome o (valid.numbering.owned i o lt within).0 sources) ∙ fails)

  -- in an event that commits, what an operation answers on known sources is its value
  pub settles : (o x : ℕ) → o < op_count p → AreKnown p known o → verdict p (event_of p o) ≡ true → outcome p v o ≡ Some x → x ≡ final p o
  settles o x lt sources commit is = same_Some x (final p o) (sym is ∙ known_outcome o lt sources ∙ final_committed p valid o lt commit)

  -- in one that aborts, the value of its target's known source is
  pub settles_aborted : (o : ℕ) → o < op_count p → IsKnown known (origin_at p o 0) → verdict p (event_of p o) ≡ false → source p v o 0 ≡ final p o
  settles_aborted o lt is abort = known_source o 0 lt (zero-lt-suc _) is ∙ sym (final_aborted p valid o lt abort)
