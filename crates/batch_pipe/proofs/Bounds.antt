-- Plans that are run one after another keep the state within their one greatest value.
use Rattle.std.proofs.Common.{◌≡◌, ℕ, ◌≤◌, List, [], ◌∷◌, All, le_refl, sym, subst}
use Rattle.std.proofs.lemmas.List.Elements.{All-head, All-tail}
use Rattle.morph_base.specs.declared.key.Layout.{Layout}
use Rattle.morph_base.specs.declared.plan.Plan.{Plan}
use Rattle.morph_base.specs.Flat.{Kept, contents}
use Rattle.morph_base.specs.Plans.{PlanKeysIn, transactions}
use Rattle.morph_base.specs.States.{State, IsUpTo, after_all}
use Rattle.morph_base.proofs.BoundLaws.{after_all-within, transactions_within}
use Rattle.batch_pipe.specs.declared.items.Sent.{Sent}
use Rattle.batch_pipe.specs.PlannedBatches.{IsReadyPlan}
use Rattle.batch_pipe.specs.PlanRuns.{IsRunnable, state_after}

module _ (layout : Layout) (high : ℕ) where
  abbrev pub AllReady : List Sent → Type 0
  AllReady xs = All (λ (x : Sent). IsReadyPlan layout high x.plan) xs

  plan_within : (s : State) (p : Plan) → IsReadyPlan layout high p → IsUpTo high s → IsUpTo high (after_all s (transactions p))
  plan_within s p ready small =
      after_all-within high s (transactions p) small (transactions_within p ready.valid.plan high (subst (λ n. n ≤ high) (sym ready.high_is) (le_refl high)))

  pub state_after-within : (s : State) (xs : List Sent) → AllReady xs → IsUpTo high s → IsUpTo high (state_after s xs)
  unfolding state_after
  state_after-within s [] ready small = small
  state_after-within s (x ∷ xs) ready small =
      let P : Sent → Type 0 = λ y. IsReadyPlan layout high y.plan in
      state_after-within (after_all s (transactions x.plan)) xs (All-tail P x xs ready) (plan_within s x.plan (All-head P x xs ready) small)

  pub runnable : (engine : Kept) (p : Plan) → engine.layout ≡ layout → IsReadyPlan layout high p → IsUpTo high (contents engine) → IsRunnable engine p
  runnable engine p layout_is ready small = record {
    valid = ready.valid;
    keys = subst (λ (l : Layout). PlanKeysIn p l) (sym layout_is) ready.keys;
    small = λ key. subst (λ n. contents engine key ≤ n) (sym ready.high_is) (small key);
  }
