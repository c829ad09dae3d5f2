-- The fold is a clean assignment, and there is no other.
use Rattle.std.proofs.Common.{◌≡◌, ℕ, zero, suc, ◌+◌, ◌-◌, ◌<◌, ◌≤◌, Bool, true, false, length, get_or, Option, Some, None, is_some, unwrap_or, not-suc-le-zero, zero-lt-suc, le_refl, refl, sym, ap, ◌∙◌, subst, inl, inr, arith, add-one}
use Rattle.std.proofs.lemmas.Bool.{cases_Bool, cases_eq, false≢true, true≢false}
use Rattle.std.proofs.lemmas.Option.{same_Some, none-some}
use Rattle.morph_base.specs.declared.plan.Plan.{Plan}
use Rattle.morph_base.specs.States.{State, answer, after}
use Rattle.morph_base.specs.Plans.{IsPlan, event_count, op_count, event_at, op_at, event_of, target, InEvent, HasBases, transaction_at, no_op, opening, state_at, commits_at, value_at, final, verdict}
use Rattle.morph_base.specs.Clean.{source, outcome, IsCommitted, IsAborted, HasVerdict, IsClean}
use Rattle.morph_base.proofs.StateLaws.{after-committed, after-aborted, all_answer-each, all_answer-fails}
use Rattle.morph_base.proofs.PlanLaws.{length-transaction, transaction_op, op_at_place, place_within, with_answers-at, state_at-suc}
use Rattle.morph_base.proofs.SourceLaws.{source_law}
use Rattle.morph_base.proofs.OutcomeLaws.{Precedes, outcome-same, source-same, outcome-answer}

some_value : {X : Type 0} (o : Option X) (d : X) → is_some o ≡ true → o ≡ Some (unwrap_or o d)
some_value None d is = absurd (false≢true is)
some_value (Some x) d is = refl

no_value : {X : Type 0} (o : Option X) → is_some o ≡ false → o ≡ None
no_value None is = refl
no_value (Some x) is = absurd (true≢false is)

-- ---- the fold is clean

module _ (p : Plan) (s : State) (valid : IsPlan p) where
  -- the value of an operation is that of its target after its event
  pub value_at-after : (o : ℕ) → o < op_count p → value_at p s o ≡ after (state_at p s (event_of p o)) (transaction_at p (event_of p o)) (target p o)
  unfolding value_at
  value_at-after o lt =
      ap (λ n. state_at p s n (target p o)) (add-one (event_of p o))
      ∙ ap (λ after_it. after_it (target p o)) (state_at-suc p s (event_of p o) (valid.numbering.placed o lt).0)

  -- in an event that commits it is the operation's answer
  pub value_at-committed : (o : ℕ) → o < op_count p → commits_at p s (event_of p o) ≡ true
      → answer (state_at p s (event_of p o)) (op_at p o).op ≡ Some (value_at p s o)
  unfolding commits_at
  value_at-committed o lt commit =
      let i : ℕ = event_of p o in
      let before : State = state_at p s i in
      let home = valid.numbering.placed o lt in
      let from = home.1.from in
      let below = home.1.below in
      let small : o - (event_at p i).first < (event_at p i).count = omega arith in
      let inside : o - (event_at p i).first < length (transaction_at p i).ops = rw (length-transaction p valid i home.0) small in
      let answers : is_some (answer before (op_at p o).op) ≡ true =
      rw (op_at_place p valid i o no_op home.0 home.1) at (all_answer-each before (transaction_at p i).ops commit (o - (event_at p i).first) no_op inside) in
      some_value (answer before (op_at p o).op) (before (target p o)) answers
      ∙ ap Some (sym (value_at-after o lt ∙ after-committed before (transaction_at p i) (target p o) commit ∙ with_answers-at p valid before o lt))

  -- in one that aborts it is the target's value before the event
  pub value_at-aborted : (o : ℕ) → o < op_count p → commits_at p s (event_of p o) ≡ false → value_at p s o ≡ state_at p s (event_of p o) (target p o)
  unfolding commits_at
  value_at-aborted o lt abort = value_at-after o lt ∙ after-aborted (state_at p s (event_of p o)) (transaction_at p (event_of p o)) (target p o) abort

module _ (p : Plan) (s : State) (valid : IsPlan p) (based : HasBases p s) where
  fold_commits : (i : ℕ) → i < event_count p → commits_at p s i ≡ true → IsCommitted p (value_at p s) i
  fold_commits i lt commit = record {
    each = λ o within.
        let owned = valid.numbering.owned i o lt within in
        outcome-answer p s o valid based owned.0 ∙ value_at-committed p s valid o owned.0 (ap (commits_at p s) owned.1 ∙ commit);
  }

  fold_aborts : (i : ℕ) → i < event_count p → commits_at p s i ≡ false → IsAborted p (value_at p s) i
  unfolding commits_at
  fold_aborts i lt abort =
      let found = all_answer-fails (state_at p s i) (transaction_at p i).ops no_op abort in
      let small : found.0 < (event_at p i).count = rw (length-transaction p valid i lt) at found.1 in
      let culprit : ℕ = (event_at p i).first + found.0 in
      let within : InEvent p i culprit = place_within p valid i found.0 small in
      let owned = valid.numbering.owned i culprit lt within in
      let fails : answer (state_at p s i) (op_at p culprit).op ≡ None =
      ap (answer (state_at p s i)) (sym (transaction_op p valid i found.0 no_op lt small)) ∙ no_value (answer (state_at p s i) (get_or (transaction_at p i).ops found.0 no_op)) found.2 in
      record {
        culprit = culprit;
        inside = within;
        fails = outcome-answer p s culprit valid based owned.0 ∙ ap (λ n. answer (state_at p s n) (op_at p culprit).op) owned.1 ∙ fails;
        carries = λ o its.
            let at_home = valid.numbering.owned i o lt its in
            value_at-aborted p s valid o at_home.0 (ap (commits_at p s) at_home.1 ∙ abort)
            ∙ source_law p s o 0 valid based at_home.0 (zero-lt-suc _);
      }

  pub fold_is_clean : IsClean p (value_at p s) (commits_at p s)
  fold_is_clean = record {
    at = λ i lt.
        elim (cases_Bool (commits_at p s i)) [
          | inl commit ↦ subst (HasVerdict p (value_at p s) i) (sym commit) (fold_commits i lt commit)
          | inr abort ↦ subst (HasVerdict p (value_at p s) i) (sym abort) (fold_aborts i lt abort)
        ];
  }

-- ---- there is one alone

-- the two assignments agree on the events before the nth
abbrev pub AgreeBefore : Plan → (v w : ℕ → ℕ) (c d : ℕ → Bool) → ℕ → Type 0
AgreeBefore p v w c d n =
    ((o : ℕ) → o < op_count p → event_of p o < n → v o ≡ w o) × ((i : ℕ) → i < n → i < event_count p → c i ≡ d i)

module _ (p : Plan) (v w : ℕ → ℕ) (valid : IsPlan p) where
  -- events whose operations answer the same on their sources
  abbrev AnswersAgree : ℕ → Type 0
  AnswersAgree i = (o : ℕ) → InEvent p i o → (outcome p v o ≡ outcome p w o) × (source p v o 0 ≡ source p w o 0)

  verdicts_agree : (i : ℕ) (c d : Bool) → AnswersAgree i → HasVerdict p v i c → HasVerdict p w i d
      → (c ≡ d) × ((o : ℕ) → InEvent p i o → v o ≡ w o)
  verdicts_agree i true true same left right =
      (refl, λ o within. same_Some (v o) (w o) (sym (left.each o within) ∙ (same o within).0 ∙ right.each o within))
  verdicts_agree i false false same left right = (refl, λ o within. left.carries o within ∙ (same o within).1 ∙ sym (right.carries o within))
  verdicts_agree i true false same left right =
      absurd (none-some (v right.culprit) (sym right.fails ∙ sym (same right.culprit right.inside).0 ∙ left.each right.culprit right.inside))
  verdicts_agree i false true same left right =
      absurd (none-some (w left.culprit) (sym left.fails ∙ (same left.culprit left.inside).0 ∙ right.each left.culprit left.inside))

  clean_agree : (c d : ℕ → Bool) → IsClean p v c → IsClean p w d → (n : ℕ) → n ≤ event_count p → AgreeBefore p v w c d n
  clean_agree c d left right zero small = (λ o lt none. absurd (not-suc-le-zero none), λ i none lt. absurd (not-suc-le-zero none))
  clean_agree c d left right (suc n) small =
      let before : AgreeBefore p v w c d n = clean_agree c d left right n (omega arith) in
      let earlier : (o : ℕ) → o < op_count p → event_of p o ≡ n → (t : ℕ) → Precedes p t o → v t ≡ w t =
      λ o lt its t precedes. before.0 t precedes.in_range (rw its at precedes.event_before) in
      let same : AnswersAgree n = λ o within.
      let owned = valid.numbering.owned n o small within in
      (outcome-same p v w o (λ j below. source-same p v w o j valid owned.0 below (earlier o owned.0 owned.1)), source-same p v w o 0 valid owned.0 (zero-lt-suc _) (earlier o owned.0 owned.1)) in
      let here = verdicts_agree n (c n) (d n) same (left.at n small) (right.at n small) in
      (values_agree before here.1, λ i below lt. verdict_agrees before here.0 i below lt)
    where
      values_agree : AgreeBefore p v w c d n → ((o : ℕ) → InEvent p n o → v o ≡ w o) → (o : ℕ) → o < op_count p → event_of p o < suc n → v o ≡ w o
      values_agree before here o lt below =
          elim (cases_eq (event_of p o) n) [
            | inl its ↦ here o (rw its at (valid.numbering.placed o lt).1)
            | inr other ↦ before.0 o lt (omega arith)
          ]

      verdict_agrees : AgreeBefore p v w c d n → c n ≡ d n → (i : ℕ) → i < suc n → i < event_count p → c i ≡ d i
      verdict_agrees before here i below lt =
          elim (cases_eq i n) [
            | inl its ↦ ap c its ∙ here ∙ sym (ap d its)
            | inr other ↦ before.1 i (omega arith) lt
          ]

-- a clean assignment is the fold from the plan's own bases
pub clean_is_fold : (p : Plan) (v : ℕ → ℕ) (c : ℕ → Bool) → IsPlan p → IsClean p v c → AgreeBefore p v (final p) c (verdict p) (event_count p)
clean_is_fold p v c valid clean =
    clean_agree p v (final p) valid c (verdict p) clean (fold_is_clean p (opening p) valid valid.bases) (event_count p) (le_refl (event_count p))

pub clean_value : (p : Plan) (v : ℕ → ℕ) (c : ℕ → Bool) (o : ℕ) → IsPlan p → IsClean p v c → o < op_count p → v o ≡ final p o
clean_value p v c o valid clean lt = (clean_is_fold p v c valid clean).0 o lt (valid.numbering.placed o lt).0

pub clean_verdict : (p : Plan) (v : ℕ → ℕ) (c : ℕ → Bool) (i : ℕ) → IsPlan p → IsClean p v c → i < event_count p → c i ≡ verdict p i
clean_verdict p v c i valid clean lt = (clean_is_fold p v c valid clean).1 i lt lt

-- ---- whatever state the bases are of

-- from each state that has the plan's bases the fold comes to the same values and verdicts
pub value_at-final : (p : Plan) (s : State) (o : ℕ) → IsPlan p → HasBases p s → o < op_count p → value_at p s o ≡ final p o
value_at-final p s o valid based = clean_value p (value_at p s) (commits_at p s) o valid (fold_is_clean p s valid based)

pub commits_at-verdict : (p : Plan) (s : State) (i : ℕ) → IsPlan p → HasBases p s → i < event_count p → commits_at p s i ≡ verdict p i
commits_at-verdict p s i valid based = clean_verdict p (value_at p s) (commits_at p s) i valid (fold_is_clean p s valid based)
