-- Lists of steps, read from the first and from the last.
use Rattle.std.proofs.Common.{◌≡◌, ℕ, List, [], ◌∷◌, ◌++◌, reverse, refl, sym, ap, ◌∙◌, subst, append_assoc}
use Rattle.std.proofs.lemmas.List.{reverse-append}
use Rattle.morph_base.specs.declared.plan.Plan.{Plan}
use Rattle.interleaving_core.specs.declared.event.CoreEvent.{CoreEvent}
use Rattle.interleaving_core.specs.Core.{Core, start}
use Rattle.interleaving_core.specs.Steps.{May, after, Run}
use Rattle.interleaving_core.specs.Orders.{Leads}

reverse-cons : (e : CoreEvent) (es : List CoreEvent) → reverse (e ∷ es) ≡ reverse es ++ e ∷ []
reverse-cons e es = reverse-append (e ∷ []) es

module _ (p : Plan) (cap : ℕ) where
  -- steps that lead on from the state after others
  pub leads_run : (es fs : List CoreEvent) (b c : Core) → Run p cap es b → Leads p cap b fs c → Run p cap (reverse fs ++ es) c
  unfolding Leads
  leads_run es [] b c run leads = subst (Run p cap es) (sym leads) run
  leads_run es (e ∷ fs) b c run leads =
      subst (λ gs. Run p cap gs c) (sym (ap (λ gs. gs ++ es) (reverse-cons e fs) ∙ append_assoc (reverse fs) (e ∷ []) es)) (leads_run (e ∷ es) fs (after p b e) c (b, run, leads.0, refl) leads.1)

  pub leads_more : (b : Core) (es : List CoreEvent) (m : Core) (e : CoreEvent) → Leads p cap b es m → May p cap m e → Leads p cap b (es ++ e ∷ []) (after p m e)
  unfolding Leads
  leads_more b [] m e leads may = (subst (λ x. May p cap x e) leads may, ap (λ x. after p x e) leads)
  leads_more b (x ∷ es) m e leads may = (leads.0, leads_more (after p b x) es m e leads.1 may)

  -- from the start, in order
  pub run_leads : (es : List CoreEvent) (c : Core) → Run p cap es c → Leads p cap start (reverse es) c
  unfolding Leads
  run_leads [] c run = run
  run_leads (e ∷ es) c run =
      subst (Leads p cap start (reverse (e ∷ es))) (sym run.3)
      (subst (λ fs. Leads p cap start fs (after p run.0 e)) (sym (reverse-cons e es)) (leads_more start (reverse es) run.0 e (run_leads es run.0 run.1) run.2))

  -- the steps tell the state
  pub run_same : (es : List CoreEvent) (c d : Core) → Run p cap es c → Run p cap es d → c ≡ d
  run_same [] c d one two = one ∙ sym two
  run_same (e ∷ es) c d one two = one.3 ∙ ap (λ b. after p b e) (run_same es one.0 two.0 one.1 two.1) ∙ sym two.3
