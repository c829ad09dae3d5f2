-- The state after the first events of a plan, from the values of its operations.
use Rattle.std.proofs.Common.{◌≡◌, ℕ, zero, suc, ◌<◌, ◌≤◌, ◌⊎◌, not-suc-le-zero, le_refl, le_of_eq, refl, sym, ap, ◌∙◌, inl, inr, arith, take_all}
use Rattle.std.proofs.Math.Path.{fun_ext}
use Rattle.std.proofs.lemmas.Bool.{cases_eq, cases_lt, cond-true, cond-false}
use Rattle.morph_base.specs.declared.key.Key.{Key}
use Rattle.morph_base.specs.declared.batch.Batch.{Batch}
use Rattle.morph_base.specs.declared.plan.Plan.{Plan}
use Rattle.morph_base.specs.Operations.{same_key}
use Rattle.morph_base.specs.States.{State, after_all, fold_batch, overwritten}
use Rattle.morph_base.specs.Sources.{WritesKey}
use Rattle.morph_base.specs.Plans.{IsPlan, IsPlanOf, event_count, op_count, event_of, target, HasBases, IsLastWriterIn, IsUnwrittenIn, transactions, state_at, final}
use Rattle.morph_base.proofs.KeyLaws.{cases_key, same_key-from, same_key-different}
use Rattle.morph_base.proofs.PlanLaws.{length-transactions}
use Rattle.morph_base.proofs.SourceLaws.{state_at-written, state_at-unwritten}
use Rattle.morph_base.proofs.CleanLaws.{value_at-final}

-- ---- the last place that has a key

-- place o, below n, is the last one whose target is the key
pub record IsLastBelow (target : ℕ → Key) (n : ℕ) (key : Key) (o : ℕ) : Type 0 where
  pub in_range : o < n
  pub target_is : target o ≡ key
  pub last : (t : ℕ) → t < n → target t ≡ key → t ≤ o

abbrev pub NoneBelow : (ℕ → Key) → ℕ → Key → Type 0
NoneBelow target n key = (t : ℕ) → t < n → target t ≡ key → ⊥

pub last_below : (target : ℕ → Key) (n : ℕ) (key : Key) → ((o : ℕ) × IsLastBelow target n key o) ⊎ NoneBelow target n key
last_below target zero key = inr (λ t none same. not-suc-le-zero none)
last_below target (suc n) key =
    elim (cases_key (target n) key) [
      | inl same ↦ inl (n, record { in_range = le_refl (suc n); target_is = same; last = λ t lt its. omega arith })
      | inr other ↦ elim (last_below target n key) [ inl found ↦ inl (found.0, kept other found.1) | inr none ↦ inr (none_more other none) ]
    ]
  where
    kept : (target n ≡ key → ⊥) → {o : ℕ} → IsLastBelow target n key o → IsLastBelow target (suc n) key o
    kept other is =
        let below = is.in_range in
        record {
          in_range = omega arith;
          target_is = is.target_is;
          last = λ t lt same. elim (cases_eq t n) [ inl its ↦ absurd (other (ap target (sym its) ∙ same)) | inr less ↦ is.last t (omega arith) same ];
        }

    none_more : (target n ≡ key → ⊥) → NoneBelow target n key → NoneBelow target (suc n) key
    none_more other none t lt same = elim (cases_eq t n) [ inl its ↦ other (ap target (sym its) ∙ same) | inr less ↦ none t (omega arith) same ]

module _ (target : ℕ → Key) (value : ℕ → ℕ) (s : State) where
  pub overwritten-none : (n : ℕ) (key : Key) → NoneBelow target n key → overwritten target value s n key ≡ s key
  unfolding overwritten
  overwritten-none zero key none = refl
  overwritten-none (suc n) key none =
      cond-false (same_key (target n) key) _ _ (same_key-different (target n) key (none n (le_refl (suc n))))
      ∙ overwritten-none n key (λ t lt. none t (omega arith))

  pub overwritten-last : (n : ℕ) (key : Key) (o : ℕ) → IsLastBelow target n key o → overwritten target value s n key ≡ value o
  unfolding overwritten
  overwritten-last zero key o is = absurd (not-suc-le-zero is.in_range)
  overwritten-last (suc n) key o is =
      elim (cases_eq o n) [
        | inl its ↦ cond-true (same_key (target n) key) _ _ (same_key-from (target n) key (ap target (sym its) ∙ is.target_is)) ∙ ap value (sym its)
        | inr other ↦
            let below : o < n = (let lt = is.in_range in omega arith) in
            cond-false (same_key (target n) key) _ _ (same_key-different (target n) key (λ same. (let less : n ≤ o = is.last n (le_refl (suc n)) same in absurd (omega arith))))
            ∙ overwritten-last n key o (record { in_range = below; target_is = is.target_is; last = λ t lt. is.last t (omega arith) })
      ]

-- ---- the state after the first i events

-- a key that one of their operations writes has the value of the last that does
pub end_written : (p : Plan) (s : State) (i : ℕ) (key : Key) (o : ℕ) → IsPlan p → HasBases p s → IsLastWriterIn p i key o → state_at p s i key ≡ final p o
end_written p s i key o valid based last = state_at-written p s valid i key o last ∙ value_at-final p s o valid based last.itself.in_range

-- the others have their value of before the batch
pub end_unwritten : (p : Plan) (s : State) (i : ℕ) (key : Key) → IsPlan p → IsUnwrittenIn p i key → state_at p s i key ≡ s key
end_unwritten p s i key valid = state_at-unwritten p s valid i key

-- the first n operations are those of the first i events
abbrev pub AreOpsBefore : Plan → (n i : ℕ) → Type 0
AreOpsBefore p n i = (n ≤ op_count p) × ((o : ℕ) → o < n → event_of p o < i) × ((o : ℕ) → n ≤ o → o < op_count p → i ≤ event_of p o)

pub overwritten-state_at : (p : Plan) (s : State) (n i : ℕ) → IsPlan p → HasBases p s → AreOpsBefore p n i → overwritten (target p) (final p) s n ≡ state_at p s i
overwritten-state_at p s n i valid based front = fun_ext (λ key. at_key key (last_below (target p) n key))
  where
    below_n : (t : ℕ) → t < op_count p → event_of p t < i → t < n
    below_n t lt earlier = elim (cases_lt t n) [ inl less ↦ less | inr more ↦ (let late : i ≤ event_of p t = front.2 t more lt in absurd (omega arith)) ]

    at_key : (key : Key) → ((o : ℕ) × IsLastBelow (target p) n key o) ⊎ NoneBelow (target p) n key → overwritten (target p) (final p) s n key ≡ state_at p s i key
    at_key key (inl (o, is)) =
        let few = front.0 in
        let lt = is.in_range in
        let itself : WritesKey (op_count p) (target p) (event_of p) i key o = record { in_range = omega arith; earlier = front.1 o lt; target_is = is.target_is } in
        let last : IsLastWriterIn p i key o = record { itself = itself; last = λ t writes. is.last t (below_n t writes.in_range writes.earlier) writes.target_is } in
        overwritten-last (target p) (final p) s n key o is ∙ sym (end_written p s i key o valid based last)
    at_key key (inr none) =
        overwritten-none (target p) (final p) s n key none
        ∙ sym (end_unwritten p s i key valid (λ t writes. none t (below_n t writes.in_range writes.earlier) writes.target_is))

-- the whole plan
pub overwritten-end : (p : Plan) (s : State) → IsPlan p → HasBases p s → overwritten (target p) (final p) s (op_count p) ≡ state_at p s (event_count p)
overwritten-end p s valid based =
    overwritten-state_at p s (op_count p) (event_count p) valid based
    (le_refl (op_count p), λ o lt. (valid.numbering.placed o lt).0, λ o past lt. absurd (omega arith))

-- ---- the batch

pub state_at-fold : (b : Batch) (p : Plan) (s : State) → IsPlanOf b p → state_at p s (event_count p) ≡ fold_batch b s
unfolding state_at
state_at-fold b p s of_batch =
    ap (after_all s) (take_all (event_count p) (transactions p) (le_of_eq (length-transactions p)) ∙ of_batch)
