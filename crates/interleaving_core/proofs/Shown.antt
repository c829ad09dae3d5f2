-- Versions besides a value: settled ones and those that were shown.
use Rattle.std.proofs.Common.{◌≡◌, ◌↔◌, ℕ, Bool, true, List, refl, sym, ◌∙◌, subst, inl, inr, ◌⊎◌}
use Rattle.interleaving_core.specs.declared.entry.Entry.{Entry}
use Rattle.morph_base.specs.declared.plan.Origin.{Origin}
use Rattle.morph_base.specs.declared.plan.Origin.TheVariants.{Base, Op as Written}
use Rattle.interleaving_core.specs.Core.{Core}
use Rattle.interleaving_core.specs.Entries.{HasShownAnother}
use Rattle.interleaving_core.specs.Stored.{IsSettledOtherwise, HasVersionBesides}
use Rattle.interleaving_core.proofs.Sources.{version_from_settled}

pub besides_settled : (c : Core) (origin : Origin) (x : ℕ) → IsSettledOtherwise c origin x → HasVersionBesides c origin x
besides_settled c origin x other = record { version = _; is_version = version_from_settled c origin _ (other.known, refl); differs = other.differs }

pub besides_base : (c : Core) (v x : ℕ) → HasVersionBesides c (Base v) x → IsSettledOtherwise c (Base v) x
besides_base c v x besides = record { known = tt; differs = λ same. besides.differs (sym besides.is_version ∙ same) }

pub besides_shown : (c : Core) (s x : ℕ) → HasShownAnother c.published s x → HasVersionBesides c (Written s) x
besides_shown c s x seen = record {
  version = seen.entry.value;
  is_version = inr (record { entry = seen.entry; inside = seen.inside; op_is = seen.op_is; value_is = refl });
  differs = seen.differs;
}

pub besides_cases : (c : Core) (s x : ℕ) → HasVersionBesides c (Written s) x → IsSettledOtherwise c (Written s) x ⊎ HasShownAnother c.published s x
besides_cases c s x besides =
    elim besides.is_version [
      | inl stands ↦ inl (record { known = stands.0; differs = λ same. besides.differs (sym stands.1 ∙ same) })
      | inr seen ↦ inr (record { entry = seen.entry; inside = seen.inside; op_is = seen.op_is; differs = λ same. besides.differs (sym seen.value_is ∙ same) })
    ]

pub besides_op : (c : Core) (origin : Origin) (s x : ℕ) (r : Bool) (es : List Entry) → origin ≡ Written s → es ≡ c.published → ((r ≡ true) ↔ HasShownAnother es s x)
    → (IsSettledOtherwise c origin x → ⊥) → (r ≡ true) ↔ HasVersionBesides c origin x
besides_op c origin s x r es is same answer none = (
  λ at. subst (λ o. HasVersionBesides c o x) (sym is) (besides_shown c s x (subst (λ xs. HasShownAnother xs s x) same (answer.0 at))),
  λ besides.
      elim (besides_cases c s x (subst (λ o. HasVersionBesides c o x) is besides)) [
        | inl stands ↦ absurd (none (subst (λ o. IsSettledOtherwise c o x) (sym is) stands))
        | inr seen ↦ answer.1 (subst (λ xs. HasShownAnother xs s x) (sym same) seen)
      ],
)
