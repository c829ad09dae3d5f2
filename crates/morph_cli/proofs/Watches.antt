-- What is shown of the balances between two batches, and what was seen beside one.
use Rattle.std.proofs.Common.{◌≡◌, ◌⊎◌, ℕ, ◌+◌, ◌^◌, ◌<◌, Bool, true, false, ◌||◌, inl, inr, [], ◌∷◌, length, Option, Some, None, refl, ap, sym, subst, ◌∙◌, arith}
use Rattle.std.specs.Prelude.{IfSome, IsSome, IsTrue}
use Rattle.std.proofs.lemmas.List.{length-append}
use Rattle.morph_base.specs.declared.key.Layout.{Layout}
use Rattle.morph_base.specs.declared.plan.Plan.{Plan}
use Rattle.morph_base.specs.Plans.{HasBases, PlanKeysIn, transactions}
use Rattle.morph_base.specs.States.{State, after_all}
use Rattle.morph_engine.specs.Accounts.{Account}
use Rattle.run_text.specs.Checks.{is_checked}
use Rattle.run_text.specs.declared.choices.Settings.{Settings}
use Rattle.snapshot_reader.specs.declared.viewer.Total.{Total}
use Rattle.snapshot_reader.specs.Batches.{after_plans}
use Rattle.snapshot_reader.specs.Steady.{Posted}
use Rattle.snapshot_reader.proofs.Overwrites.{after_plans-more}
use Rattle.version_table.specs.Totals.{total_of}
use Rattle.morph_cli.specs.Batches.{IsSeen, IsShown, also_posted}
use Rattle.morph_cli.specs.Outputs.{has_notes}
use Rattle.morph_cli.specs.Tallies.{IsChecked}
use Rattle.morph_cli.proofs.NoteLaws.{IsAudit}

-- what holds of what is published, where anything is
pub if_posted : {P : Posted → Type 0} {Q : Posted → Type 0} (posted : Option Posted) → ((p : Posted) → P p → Q p) → IfSome posted P → IfSome posted Q
if_posted None so shown = tt
if_posted (Some p) so shown = so p shown

or_first : (a b : Bool) → IsTrue a → IsTrue (a || b)
or_first true b is = refl
or_first false b is = absurd (cc)

or_second : (a b : Bool) → IsTrue b → IsTrue (a || b)
or_second true b is = refl
or_second false b is = is

-- a batch has notes beside its lines only where the settings ask for notes
pub noted_by_settings : (s : Settings) (posted : Option Posted) (audit : Option Total) → (IsSome posted → IsTrue s.watch) → IfSome audit (IsSeen posted)
    → IsSome audit ⊎ (IsTrue s.notes ⊎ IsTrue (is_checked s.check)) → IsTrue (has_notes s)
noted_by_settings s posted None watch seen (inl some) = absurd (cc)
noted_by_settings s None (Some x) watch seen (inl some) = absurd seen
noted_by_settings s (Some p) (Some x) watch seen (inl some) = or_second s.notes (s.watch || is_checked s.check) (or_first s.watch (is_checked s.check) (watch refl))
noted_by_settings s posted audit watch seen (inr (inl notes)) = or_first s.notes (s.watch || is_checked s.check) notes
noted_by_settings s posted audit watch seen (inr (inr checked)) = or_second s.notes (s.watch || is_checked s.check) (or_second s.watch (is_checked s.check) checked)

module _ (layout : Layout) (before : ℕ) (state : State) where
  -- what was seen beside a batch is the audit of the state before it
  pub audit_is : (s : Settings) (posted : Option Posted) (audit : Option Total) (a : Account) → IfSome posted (IsShown layout before state) → (IsSome posted → IsTrue s.watch) →
      layout.size ≡ s.size → IfSome audit (IsSeen posted) → (IsTrue (is_checked s.check) → IsChecked a) → IsAudit s state before audit a
  audit_is s posted None a shown watch size seen checked = record { seen = tt; unwatched = λ off. refl; checked = checked }
  audit_is s None (Some x) a shown watch size seen checked = absurd seen
  audit_is s (Some p) (Some x) a shown watch size seen checked = record {
    seen = (
      seen.0 ∙ shown.count,
      seen.1 ∙ ap (λ q. total_of q 0 p.layout.size) shown.state ∙ ap (λ (l : Layout). total_of state 0 l.size) shown.layout_is ∙ ap (total_of state 0) size,
    );
    unwatched = λ off. absurd (let e : true ≡ false = sym (watch refl) ∙ off in cc);
    checked = checked;
  }

  -- the plan of the next batch may be published
  pub may_publish : (posted posted' : Option Posted) (plan : Plan) → IfSome posted (IsShown layout before state) → posted' ≡ posted → PlanKeysIn plan layout → HasBases plan state → before + 1 < 2 ^ 64 →
      IfSome posted' (λ p. PlanKeysIn plan p.layout) × IfSome posted' (λ p. HasBases plan (after_plans p.plans)) × IfSome posted' (λ p. length p.plans + 1 < 2 ^ 64)
  may_publish posted posted' plan shown same keys bases room = subst (λ o. IfSome o (λ p. PlanKeysIn plan p.layout) × IfSome o (λ p. HasBases plan (after_plans p.plans)) × IfSome o (λ p. length p.plans + 1 < 2 ^ 64)) (sym same)
      (by_posted posted shown)
    where
      by_posted : (o : Option Posted) → IfSome o (IsShown layout before state) → IfSome o (λ p. PlanKeysIn plan p.layout) × IfSome o (λ p. HasBases plan (after_plans p.plans)) × IfSome o (λ p. length p.plans + 1 < 2 ^ 64)
      by_posted None shown = (tt, tt, tt)
      by_posted (Some p) shown = (
        subst (PlanKeysIn plan) (sym shown.layout_is) keys,
        subst (HasBases plan) (sym shown.state) bases,
        (let count = shown.count in omega (arith, count, room)),
      )

  -- and once it is, the state behind it is shown
  pub shown_more : (posted posted' posted'' : Option Posted) (plan : Plan) (layout' : Layout) (after : ℕ) (state' : State) → IfSome posted (IsShown layout before state) →
      posted' ≡ posted → posted'' ≡ also_posted plan posted' → layout' ≡ layout → after ≡ before + 1 → state' ≡ after_all state (transactions plan) → IfSome posted'' (IsShown layout' after state')
  shown_more posted posted' posted'' plan layout' after state' shown same more layout_is next state_is =
      subst (λ o. IfSome o (IsShown layout' after state')) (sym (more ∙ ap (also_posted plan) same)) (by_posted posted shown)
    where
      by_posted : (o : Option Posted) → IfSome o (IsShown layout before state) → IfSome (also_posted plan o) (IsShown layout' after state')
      by_posted None shown = tt
      by_posted (Some p) shown = record {
        layout_is = shown.layout_is ∙ sym layout_is;
        count = length-append p.plans (plan ∷ []) ∙ ap (λ n. n + 1) shown.count ∙ sym next;
        state = after_plans-more p.plans plan ∙ ap (λ q. after_all q (transactions plan)) shown.state ∙ sym state_is;
      }

-- something is only where it was before
pub watch_still : {P : Type 0} (posted posted' posted'' : Option Posted) (plan : Plan) → posted' ≡ posted → posted'' ≡ also_posted plan posted' → (IsSome posted → P) → IsSome posted'' → P
watch_still {P} posted posted' posted'' plan same more watch some =
    by_posted posted watch (subst IsSome (more ∙ ap (also_posted plan) same) some)
  where
    by_posted : (o : Option Posted) → (IsSome o → P) → IsSome (also_posted plan o) → P
    by_posted None watch some = absurd (cc)
    by_posted (Some p) watch some = watch refl
