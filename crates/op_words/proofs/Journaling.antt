-- The journal of a hand has its first steps, and those of a lone root lead the machine.
use Rattle.std.proofs.Common.{◌≡◌, ℕ, zero, suc, ◌≤◌, List, [], ◌∷◌, ◌++◌, length, take, reverse, refl, sym, ap, ◌∙◌, subst, inl, inr, arith, Option}
use Rattle.std.proofs.lemmas.Bool.{cases_lt}
use Rattle.std.proofs.lemmas.List.{length-take, length-take-le, take_all, take-append-le, reverse-append}
use Rattle.morph_base.specs.declared.plan.Plan.{Plan}
use Rattle.interleaving_core.specs.declared.event.CoreEvent.{CoreEvent}
use Rattle.interleaving_core.specs.Core.{Core, start}
use Rattle.interleaving_core.specs.Orders.{Leads}
use Rattle.interleaving_core.specs.Steps.{after}
use Rattle.interleaving_core.proofs.Ordering.{run_leads}
use Rattle.op_words.specs.declared.journal.Journal.{Journal}
use Rattle.op_words.specs.declared.trail.View.{View}
use Rattle.op_words.specs.Closing.{EndsSound}
use Rattle.op_words.specs.Journals.{room_in, steps_in, IsUnjoined, IsJournal, IsJournalOf}

-- a step was written down, where there was room
pub record HasNoted (old new : Option Journal) (e : CoreEvent) : Type 0 where
  pub room : room_in new ≡ room_in old
  pub steps : steps_in new ≡ take (room_in old) (steps_in old ++ e ∷ [])

reverse-cons : (e : CoreEvent) (es : List CoreEvent) → reverse (e ∷ es) ≡ reverse es ++ e ∷ []
reverse-cons e es = reverse-append (e ∷ []) es

take_again : {A : Type 0} (n : ℕ) (xs ys : List A) → take n (take n xs ++ ys) ≡ take n (xs ++ ys)
take_again n xs ys =
    elim (cases_lt (length xs) n) [
      | inr le ↦
          let len : length (take n xs) ≡ n = length-take-le n xs le in
          take-append-le n (take n xs) ys (omega (arith, len)) ∙ take_all n (take n xs) (omega (arith, len)) ∙ sym (take-append-le n xs ys le)
      | inl lt ↦ ap (λ zs. take n (zs ++ ys)) (take_all n xs (omega (arith, lt)))
    ]

-- the journal stays the hand's own after each step
pub journal_same : {v : View} {old new : Option Journal} (u : View) → IsJournal v old → new ≡ old → u.room ≡ v.room → (IsUnjoined u → IsUnjoined v) → u.events ≡ v.events → u.own ≡ v.own → IsJournal u new
journal_same u is same room unjoined events own = record {
  room = ap room_in same ∙ is.room ∙ sym room;
  steps = ap steps_in same ∙ is.steps ∙ ap (λ (z : ℕ × List CoreEvent). take z.0 (reverse z.1)) (λ i. (sym room i, sym own i));
  alone = λ none. events ∙ is.alone (unjoined none) ∙ sym own;
}

pub journal_step : {v : View} {old new : Option Journal} (u : View) (e : CoreEvent) → IsJournal v old → HasNoted old new e → u.room ≡ v.room → u.made ≡ v.made → u.joined ≡ v.joined → u.events ≡ e ∷ v.events → u.own ≡ e ∷ v.own → IsJournal u new
journal_step {v} {old} u e is noted room made joined events own = record {
  room = noted.room ∙ is.room ∙ sym room;
  steps =
      noted.steps
      ∙ ap (λ (z : ℕ × List CoreEvent). take z.0 (z.1 ++ e ∷ [])) (λ i. (is.room i, is.steps i))
      ∙ take_again v.room (reverse v.own) (e ∷ [])
      ∙ ap (take v.room) (sym (reverse-cons e v.own))
      ∙ ap (λ (z : ℕ × List CoreEvent). take z.0 (reverse z.1)) (λ i. (sym room i, sym own i));
  alone = λ none.
      events ∙ ap (λ (es : List CoreEvent). e ∷ es) (is.alone (elim none [ inl one ↦ inl (sym made ∙ one) | inr empty ↦ inr (sym joined ∙ empty) ])) ∙ sym own;
}

-- of a hand into which another was joined
pub journal_other : {v : View} {old new : Option Journal} (u : View) → IsJournal v old → new ≡ old → u.room ≡ v.room → u.own ≡ v.own → (IsUnjoined u → ⊥) → IsJournal u new
journal_other u is same room own more = record {
  room = ap room_in same ∙ is.room ∙ sym room;
  steps = ap steps_in same ∙ is.steps ∙ ap (λ (z : ℕ × List CoreEvent). take z.0 (reverse z.1)) (λ i. (sym room i, sym own i));
  alone = λ none. absurd (more none);
}

-- ---- the machine takes it

module _ (p : Plan) (cap : ℕ) where
  front_leads : (n : ℕ) (es : List CoreEvent) (b c : Core) → Leads p cap b es c → (m : Core) × Leads p cap b (take n es) m × (length es ≤ n → m ≡ c)
  unfolding Leads
  front_leads zero [] b c leads = (b, refl, λ le. sym leads)
  front_leads zero (e ∷ es) b c leads = (b, refl, λ le. absurd (omega (arith, le)))
  front_leads (suc n) [] b c leads = (b, refl, λ le. sym leads)
  front_leads (suc n) (e ∷ es) b c leads =
      let rest = front_leads n es (after p b e) c leads.1 in
      (rest.0, (leads.0, rest.1), λ le. rest.2 (omega (arith, le)))

  pub journal_leads : (counters : ℕ) (ws : List ℕ) (v : View) (j : Option Journal) (is : EndsSound p cap counters ws v) → IsJournal v j → v.made ≡ 1 → IsJournalOf p cap v.room (steps_in j) is.core
  journal_leads counters ws v j is journal one =
      let mine : is.history ≡ v.own = is.only one ∙ journal.alone (inl one) in
      let all : Leads p cap start (reverse v.own) is.core = subst (λ es. Leads p cap start (reverse es) is.core) mine (run_leads p cap is.history is.core is.run) in
      let front = front_leads v.room (reverse v.own) start is.core all in
      let size = length-take v.room (reverse v.own) in
      let same : steps_in j ≡ take v.room (reverse v.own) = journal.steps in
      record {
        state = front.0;
        leads = subst (λ es. Leads p cap start es front.0) (sym same) front.1;
        whole = λ few. front.2 (let len = ap (λ (l : List CoreEvent). length l) same in omega (arith, few, size, len));
      }
