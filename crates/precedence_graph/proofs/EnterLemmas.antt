-- One operation more is entered as a writer.
use Rattle.std.proofs.Common.{◌≡◌, ℕ, ◌+◌, ◌<◌, Bool, true, false, if◌then◌else◌, sym, ap, subst, ◌∙◌, inl, inr, refl, arith}
use Rattle.std.proofs.lemmas.Bool.{cases_eq, false≢true}
use Rattle.morph_base.specs.declared.key.Key.{Key}
use Rattle.morph_base.specs.declared.plan.Origin.{Origin}
use Rattle.morph_base.specs.declared.plan.Origin.TheVariants.{Base, Op as Written}
use Rattle.morph_base.specs.Operations.{same_key}
use Rattle.morph_base.specs.Sources.{WritesKey, IsSource}
use Rattle.morph_base.proofs.KeyLaws.{same_key-true, same_key-from}

module _ (n : ℕ) (target : ℕ → Key) (key : Key) where
  earlier : same_key (target n) key ≡ false → (t : ℕ) → WritesKey (n + 1) target (λ _. 0) 1 key t → WritesKey n target (λ _. 0) 1 key t
  earlier other t w = record {
    in_range = elim (cases_eq t n) [
      | inl same ↦ absurd (false≢true (sym other ∙ same_key-from (target n) key (ap target (sym same) ∙ w.target_is)))
      | inr differs ↦ (let below : t < n + 1 = w.in_range in omega arith)
    ];
    earlier = w.earlier;
    target_is = w.target_is;
  }

  still : same_key (target n) key ≡ false → (origin : Origin) → IsSource n target (λ _. 0) 1 key origin → IsSource (n + 1) target (λ _. 0) 1 key origin
  still other (Base v) none = λ t w. none t (earlier other t w)
  still other (Written s) last = record {
    itself = record { in_range = (let below : s < n = last.itself.in_range in omega arith); earlier = last.itself.earlier; target_is = last.itself.target_is };
    last = λ t w. last.last t (earlier other t w);
  }

  by_key : (same : Bool) (old : Origin) → same_key (target n) key ≡ same → IsSource n target (λ _. 0) 1 key old
      → IsSource (n + 1) target (λ _. 0) 1 key (if same then Written n else old)
  by_key true old e before = record {
    itself = record { in_range = omega arith; earlier = omega arith; target_is = same_key-true (target n) key e };
    last = λ t w. (let below : t < n + 1 = w.in_range in omega arith);
  }
  by_key false old e before = still e old before

pub entered : (n : ℕ) (target : ℕ → Key) (old new : Key → Origin) → ((key : Key) → IsSource n target (λ _. 0) 1 key (old key))
    → ((key : Key) → new key ≡ (if same_key (target n) key then Written n else old key)) → (key : Key) → IsSource (n + 1) target (λ _. 0) 1 key (new key)
entered n target old new before is key =
    subst (IsSource (n + 1) target (λ _. 0) 1 key) (sym (is key)) (by_key n target key (same_key (target n) key) (old key) refl (before key))
