-- Journals of steps, and their fronts.
use Rattle.std.proofs.Common.{◌≡◌, ℕ, zero, suc, ◌+◌, ◌-◌, ◌<◌, ◌≤◌, inl, inr, List, [], ◌∷◌, ◌++◌, take, length, get_or, refl, sym, ap, ◌∙◌, subst, arith}
use Rattle.std.proofs.lemmas.Bool.{cases_order}
use Rattle.std.proofs.lemmas.List.{take_more}
use Rattle.morph_base.specs.declared.plan.Plan.{Plan}
use Rattle.interleaving_core.specs.declared.event.CoreEvent.{CoreEvent}
use Rattle.interleaving_core.specs.Core.{Core, start}
use Rattle.interleaving_core.specs.Steps.{May, after}
use Rattle.interleaving_core.specs.Orders.{Leads}
use Rattle.interleaving_core.proofs.Ordering.{leads_more}
use Rattle.run_checker.specs.Replay.{IsReplayed, IsBrokenAt}

module _ (p : Plan) (cap : ℕ) where
  -- they lead to one state
  pub leads_once : (es : List CoreEvent) (b c d : Core) → Leads p cap b es c → Leads p cap b es d → c ≡ d
  unfolding Leads
  leads_once [] b c d one two = one ∙ sym two
  leads_once (e ∷ es) b c d one two = leads_once es (after p b e) c d one.1 two.1

  pub leads_none : (b : Core) → Leads p cap b [] b
  unfolding Leads
  leads_none b = refl

  -- a front of a journal that is taken is taken
  front_leads : (n : ℕ) (es : List CoreEvent) (b c : Core) → Leads p cap b es c → (m : Core) × Leads p cap b (take n es) m
  unfolding Leads
  front_leads zero [] b c leads = (b, refl)
  front_leads zero (e ∷ es) b c leads = (b, refl)
  front_leads (suc n) [] b c leads = (b, refl)
  front_leads (suc n) (e ∷ es) b c leads = let more = front_leads n es (after p b e) c leads.1 in (more.0, (leads.0, more.1))

  -- the event behind a front may be made after it
  last_may : (es : List CoreEvent) (e : CoreEvent) (b m c : Core) → Leads p cap b es m → Leads p cap b (es ++ e ∷ []) c → May p cap m e
  unfolding Leads
  last_may [] e b m c front all = subst (λ (s : Core). May p cap s e) (sym front) all.0
  last_may (x ∷ es) e b m c front all = last_may es e (after p b x) m c front.1 all.1

  -- an event more is taken, or the journal is broken there
  pub taken_more : (es : List CoreEvent) (n : ℕ) (d : CoreEvent) (m c : Core) → n < length es → Leads p cap start (take n es) m
      → May p cap m (get_or es n d) → c ≡ after p m (get_or es n d) → Leads p cap start (take (n + 1) es) c
  taken_more es n d m c inside leads may is =
      subst (λ (s : Core). Leads p cap start (take (n + 1) es) s) (sym is)
      (subst (λ (l : List CoreEvent). Leads p cap start l (after p m (get_or es n d))) (sym (take_more es n d inside)) (leads_more p cap start (take n es) m (get_or es n d) leads may))

  pub refused_at : (es : List CoreEvent) (n : ℕ) (d : CoreEvent) (m : Core) → n < length es → Leads p cap start (take n es) m
      → (May p cap m (get_or es n d) → ⊥) → IsBrokenAt p cap es (n + 1)
  refused_at es n d m inside leads refused =
      let before : n + 1 - 1 ≡ n = omega arith in record {
        taken = record { state = m; leads = subst (λ (k : ℕ). Leads p cap start (take k es) m) (sym before) leads };
        refused = λ taken.
            refused (last_may (take n es) (get_or es n d) start m taken.state leads
            (subst (λ (l : List CoreEvent). Leads p cap start l taken.state) (take_more es n d inside) taken.leads));
      }

  take_take : (n m : ℕ) (es : List CoreEvent) → n ≤ m → take n (take m es) ≡ take n es
  take_take zero zero [] le = refl
  take_take zero zero (e ∷ es) le = refl
  take_take zero (suc m) [] le = refl
  take_take zero (suc m) (e ∷ es) le = refl
  take_take (suc n) zero es le = absurd (omega (arith, le))
  take_take (suc n) (suc m) [] le = refl
  take_take (suc n) (suc m) (e ∷ es) le = ap (λ (l : List CoreEvent). e ∷ l) (take_take n m es (omega (arith, le)))

  pub taken_front : (n : ℕ) (es : List CoreEvent) → IsReplayed p cap es → IsReplayed p cap (take n es)
  taken_front n es taken = let front = front_leads n es start taken.state taken.leads in record { state = front.0; leads = front.1 }

  taken_less : (n m : ℕ) (es : List CoreEvent) → n ≤ m → IsReplayed p cap (take m es) → IsReplayed p cap (take n es)
  taken_less n m es le taken = subst (IsReplayed p cap) (take_take n m es le) (taken_front n (take m es) taken)

  -- a journal is broken at one place at most, and then it is not taken
  broken_below : (es : List CoreEvent) (a b : ℕ) → IsBrokenAt p cap es a → IsBrokenAt p cap es b → a < b → ⊥
  broken_below es a b one two lt = one.refused (taken_less a (b - 1) es (omega (arith, lt)) two.taken)

  pub broken_apart : (es : List CoreEvent) (at : ℕ) (c : Core) → IsBrokenAt p cap es at → Leads p cap start es c → ⊥
  broken_apart es at c broken leads = broken.refused (taken_front at es (record { state = c; leads = leads }))

  pub broken_once : (es : List CoreEvent) (a b : ℕ) → IsBrokenAt p cap es a → IsBrokenAt p cap es b → a ≡ b
  broken_once es a b one two =
      elim (cases_order a b) [
        | inl same ↦ same
        | inr other ↦ elim other [ inl less ↦ absurd (broken_below es a b one two less) | inr more ↦ absurd (broken_below es b a two one more) ]
      ]
