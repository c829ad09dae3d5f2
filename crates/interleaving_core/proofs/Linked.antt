-- The entries of an operation, walked from the last one back, and one entry more.
use Rattle.std.proofs.Common.{◌≡◌, ℕ, ◌+◌, ◌<◌, Bool, true, ◌&&◌, not, eqb, List, [], ◌∷◌, ◌++◌, length, set, refl, sym, ap, subst, ◌∙◌, eq-eqb, arith}
use Rattle.std.proofs.lemmas.Bool.{eqb-true, ne_eqb, and_from, and_parts, true≢false}
use Rattle.std.proofs.lemmas.List.{get_or_append_left, get_or_push, get_or_default, length_push}
use Rattle.std.proofs.lemmas.List.Elements.{Contains-get_or}
use Rattle.morph_base.specs.Links.{last_passing, AreEnds, AreLinked}
use Rattle.morph_base.proofs.LinkLaws.{last_passing-passes, last_passing-last, last_passing-last_passing, ends-next, linked-next}
use Rattle.interleaving_core.specs.declared.entry.Entry.{Entry}
use Rattle.interleaving_core.specs.declared.state.published.Sought.{Sought}
use Rattle.interleaving_core.specs.declared.state.published.Sought.TheVariants.{Value, ValueBesides, Failure}
use Rattle.interleaving_core.specs.Core.{HasShown}
use Rattle.interleaving_core.specs.Steps.{HasFailed}
use Rattle.interleaving_core.specs.Entries.{no_entry, entry_in, op_in, before_in, is_sought, HasSought, HasShownAnother}

-- ---- the walk

module _ (es : List Entry) (o : ℕ) (sought : Sought) where
  -- whether entry i is one of the operation, and one that is sought besides
  abbrev pub is_its : ℕ → Bool
  is_its i = eqb (op_in es i) o

  abbrev pub is_found : ℕ → Bool
  is_found i = is_its i && is_sought sought (entry_in es i)

  pub walk : (n : ℕ) → last_passing is_found n ≡ last_passing is_found (last_passing is_its n)
  walk n = last_passing-last_passing is_found is_its (λ i both. (and_parts _ _ both).0) n

  pub walk_at : (n i : ℕ) → last_passing is_its n ≡ i + 1 → op_in es i ≡ o
  walk_at n i is = eqb-true (op_in es i) o (last_passing-passes is_its n i is)

  pub found_there : (i : ℕ) → i < length es → op_in es i ≡ o → is_sought sought (entry_in es i) ≡ true → HasSought es o sought
  found_there i lt its passes =
      record { entry = entry_in es i; inside = Contains-get_or es i no_entry lt; op_is = its; passes = passes }

  pub found_nowhere : last_passing is_found (length es) ≡ 0 → HasSought es o sought → ⊥
  found_nowhere none has =
      let i = has.inside.0 in
      let lt : i < length es = has.inside.1 in
      let at : entry_in es i ≡ has.entry = get_or_default es i no_entry has.entry lt ∙ has.inside.2 in
      let both : is_found i ≡ true = and_from (is_its i) (is_sought sought (entry_in es i)) (eq-eqb (op_in es i) o (ap (λ (e : Entry). e.op) at ∙ has.op_is)) (ap (is_sought sought) at ∙ has.passes) in
      let later = last_passing-last is_found (length es) i lt both in
      omega arith

-- ---- what is sought, in the words of the machine

module _ (es : List Entry) (o : ℕ) where
  pub shown_from : (x : ℕ) → HasSought es o (Value x) → HasShown es o x
  shown_from x has = record { entry = has.entry; inside = has.inside; op_is = has.op_is; value_is = eqb-true has.entry.value x has.passes }

  pub shown_to : (x : ℕ) → HasShown es o x → HasSought es o (Value x)
  shown_to x has = record { entry = has.entry; inside = has.inside; op_is = has.op_is; passes = eq-eqb has.entry.value x has.value_is }

  pub another_from : (x : ℕ) → HasSought es o (ValueBesides x) → HasShownAnother es o x
  another_from x has = record {
    entry = has.entry;
    inside = has.inside;
    op_is = has.op_is;
    differs = λ same. true≢false (sym has.passes ∙ ap not (eq-eqb has.entry.value x same));
  }

  pub another_to : (x : ℕ) → HasShownAnother es o x → HasSought es o (ValueBesides x)
  another_to x has = record { entry = has.entry; inside = has.inside; op_is = has.op_is; passes = ap not (ne_eqb has.entry.value x has.differs) }

  pub failed_from : HasSought es o Failure → HasFailed es o
  failed_from has = record { entry = has.entry; inside = has.inside; op_is = has.op_is; failed_is = has.passes }

  pub failed_to : HasFailed es o → HasSought es o Failure
  failed_to has = record { entry = has.entry; inside = has.inside; op_is = has.op_is; passes = has.failed_is }

-- ---- one entry more

module _ (es : List Entry) (e : Entry) where
  op_stays : (i : ℕ) → i < length es → op_in (es ++ e ∷ []) i ≡ op_in es i
  op_stays i lt = ap (λ (x : Entry). x.op) (get_or_append_left es (e ∷ []) no_entry i lt)

  op_new : op_in (es ++ e ∷ []) (length es) ≡ e.op
  op_new = ap (λ (x : Entry). x.op) (get_or_push es e no_entry (length es) refl)

  pub ends_push : (ends : List ℕ) (m : ℕ) → m ≡ length es + 1 → e.op < length ends → AreEnds (op_in es) (length es) ends → AreEnds (op_in (es ++ e ∷ [])) (length (es ++ e ∷ [])) (set ends e.op m)
  ends_push ends m next inside ended =
      subst (λ n. AreEnds (op_in (es ++ e ∷ [])) n (set ends e.op m)) (sym (length_push es e))
      (ends-next (op_in es) (op_in (es ++ e ∷ [])) (length es) op_stays ends e.op m (sym op_new) next inside ended)

  pub linked_push : (before : List ℕ) (b : ℕ) → length before ≡ length es → b ≡ last_passing (λ i. eqb (op_in es i) e.op) (length es) → AreLinked (op_in es) (length es) (before_in before)
      → AreLinked (op_in (es ++ e ∷ [])) (length (es ++ e ∷ [])) (before_in (before ++ b ∷ []))
  linked_push before b long is linked =
      subst (λ n. AreLinked (op_in (es ++ e ∷ [])) n (before_in (before ++ b ∷ []))) (sym (length_push es e))
      (linked-next (op_in es) (op_in (es ++ e ∷ [])) (length es) op_stays (before_in before) (before_in (before ++ b ∷ []))
      (λ i lt. get_or_append_left before (b ∷ []) 0 i (omega arith))
      (ap (before_in (before ++ b ∷ [])) (sym long) ∙ get_or_push before b 0 (length before) refl ∙ is ∙ ap (λ q. last_passing (λ i. eqb (op_in es i) q) (length es)) (sym op_new)) linked)
