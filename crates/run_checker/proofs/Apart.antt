-- The answers exclude one another.
use Rattle.std.proofs.Common.{◌≡◌, ℕ, List, slice_index, inl, inr, refl, sym, ap, ◌∙◌, subst}
use Rattle.std.proofs.lemmas.Bool.{cases_order}
use Rattle.morph_base.specs.declared.plan.Plan.{Plan}
use Rattle.interleaving_core.specs.declared.event.CoreEvent.{CoreEvent}
use Rattle.interleaving_core.specs.Core.{Core, start, IsSettledIn, value_in}
use Rattle.interleaving_core.specs.Orders.{Leads}
use Rattle.run_checker.specs.declared.checked.Checked.{Checked}
use Rattle.run_checker.specs.declared.checked.Checked.TheVariants.{Yes, Broken, Unsettled, Differs}
use Rattle.run_checker.specs.Replay.{AllSettled}
use Rattle.run_checker.specs.Answers.{Difference, IsFirstUnsettled, IsFirstUnlike, IsUnsettledAt, IsUnlikeAt, IsBorneOut, Answers}
use Rattle.run_checker.proofs.JournalFronts.{leads_once, broken_once, broken_apart}

-- the least of its kind is one
first_once : (p : Plan) (c : Core) (o u : ℕ) → IsFirstUnsettled p c o → IsFirstUnsettled p c u → o ≡ u
first_once p c o u a b =
    elim (cases_order o u) [
      | inl same ↦ same
      | inr other ↦ elim other [ inl less ↦ absurd (a.unsettled (b.below o less)) | inr more ↦ absurd (b.unsettled (a.below u more)) ]
    ]

module _ (p : Plan) (c : Core) (values : List ℕ) where
  unlike_at : (o own run : ℕ) → IsFirstUnlike p c values o own run → value_in c o ≡ slice_index values o → ⊥
  unlike_at o own run a same = a.unlike (a.journal_is ∙ same ∙ sym a.run_is)

  unlike_once : (o own run u mine their : ℕ) → IsFirstUnlike p c values o own run → IsFirstUnlike p c values u mine their → o ≡ u
  unlike_once o own run u mine their a b =
      elim (cases_order o u) [
        | inl same ↦ same
        | inr other ↦ elim other [ inl less ↦ absurd (unlike_at o own run a (b.below o less)) | inr more ↦ absurd (unlike_at u mine their b (a.below u more)) ]
      ]

module _ (p : Plan) (cap : ℕ) (journal : List CoreEvent) (values : List ℕ) where
  settled_apart : (o : ℕ) → IsUnsettledAt p cap journal o → (d : Core) → Leads p cap start journal d → AllSettled p d → ⊥
  settled_apart o a d leads all =
      a.first.unsettled (subst (λ (c : Core). IsSettledIn c o) (leads_once p cap journal start d a.state leads a.leads) (all o a.first.inside))

  like_apart : (d : Difference) → IsUnlikeAt p cap journal values d → IsBorneOut p cap journal values → ⊥
  like_apart d a b =
      unlike_at p a.state values d.op d.journal d.run a.first
      (subst (λ (c : Core). value_in c d.op ≡ slice_index values d.op) (leads_once p cap journal start b.state a.state b.leads a.leads) (b.same d.op a.first.inside))

  unsettled_same : (o u : ℕ) → IsUnsettledAt p cap journal o → IsUnsettledAt p cap journal u → o ≡ u
  unsettled_same o u a b =
      first_once p a.state o u a.first
      (subst (λ (c : Core). IsFirstUnsettled p c u) (leads_once p cap journal start b.state a.state b.leads a.leads) b.first)

  unlike_same : (d e : Difference) → IsUnlikeAt p cap journal values d → IsUnlikeAt p cap journal values e
      → Differs d.op d.journal d.run ≡ Differs e.op e.journal e.run
  unlike_same d e a b =
      let first : IsFirstUnlike p a.state values e.op e.journal e.run
      = subst (λ (c : Core). IsFirstUnlike p c values e.op e.journal e.run) (leads_once p cap journal start b.state a.state b.leads a.leads) b.first in
      let at : d.op ≡ e.op = unlike_once p a.state values d.op d.journal d.run e.op e.journal e.run a.first first in
      let own_is : d.journal ≡ e.journal = a.first.journal_is ∙ ap (value_in a.state) at ∙ sym first.journal_is in
      let run_is : d.run ≡ e.run = a.first.run_is ∙ ap (slice_index values) at ∙ sym first.run_is in
      ap (λ (x : ℕ). Differs x d.journal d.run) at ∙ ap (λ (x : ℕ). Differs e.op x d.run) own_is ∙ ap (λ (x : ℕ). Differs e.op e.journal x) run_is

  pub answers_agree : (r s : Checked) → Answers p cap journal values r → Answers p cap journal values s → r ≡ s
  answers_agree (Broken a) (Broken b) x y = ap (λ (n : ℕ). Broken n) (broken_once p cap journal a b x y)
  answers_agree (Broken a) (Unsettled u) x y = absurd (broken_apart p cap journal a y.state x y.leads)
  answers_agree (Broken a) (Differs u mine their) x y = absurd (broken_apart p cap journal a y.state x y.leads)
  answers_agree (Broken a) Yes x y = absurd (broken_apart p cap journal a y.state x y.leads)
  answers_agree (Unsettled o) (Broken b) x y = absurd (broken_apart p cap journal b x.state y x.leads)
  answers_agree (Unsettled o) (Unsettled u) x y = ap (λ (n : ℕ). Unsettled n) (unsettled_same o u x y)
  answers_agree (Unsettled o) (Differs u mine their) x y = absurd (settled_apart o x y.state y.leads y.settled)
  answers_agree (Unsettled o) Yes x y = absurd (settled_apart o x y.state y.leads y.settled)
  answers_agree (Differs o own run) (Broken b) x y = absurd (broken_apart p cap journal b x.state y x.leads)
  answers_agree (Differs o own run) (Unsettled u) x y = absurd (settled_apart u y x.state x.leads x.settled)
  answers_agree (Differs o own run) (Differs u mine their) x y = unlike_same _ _ x y
  answers_agree (Differs o own run) Yes x y = absurd (like_apart _ x y)
  answers_agree Yes (Broken b) x y = absurd (broken_apart p cap journal b x.state y x.leads)
  answers_agree Yes (Unsettled u) x y = absurd (settled_apart u y x.state x.leads x.settled)
  answers_agree Yes (Differs u mine their) x y = absurd (like_apart _ y x)
  answers_agree Yes Yes x y = refl
