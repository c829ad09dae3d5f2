-- The test `same_key` against the equation of keys.
use Rattle.std.proofs.Common.{◌≡◌, ℕ, true, false, ◌==◌, ◌⊎◌, inl, inr, refl, sym, ap, ◌∙◌, eq-eqb}
use Rattle.std.proofs.lemmas.Bool.{and_parts, and_from, eqb-true, cases_Bool, false_from_ne_true, both_ways}
use Rattle.morph_base.specs.declared.key.Key.{Key}
use Rattle.morph_base.specs.Operations.{same_key}

abbrev key_of : ℕ → ℕ → Key
key_of table id = record { table = table; id = id }

pub same_key-true : (a b : Key) → same_key a b ≡ true → a ≡ b
same_key-true a b e =
    let parts = and_parts (a.table == b.table) (a.id == b.id) e in
    ap (λ t. key_of t a.id) (eqb-true a.table b.table parts.0) ∙ ap (λ i. key_of b.table i) (eqb-true a.id b.id parts.1)

pub same_key-self : (a : Key) → same_key a a ≡ true
same_key-self a = and_from (a.table == a.table) (a.id == a.id) (eq-eqb a.table a.table refl) (eq-eqb a.id a.id refl)

pub same_key-from : (a b : Key) → a ≡ b → same_key a b ≡ true
same_key-from a b e = ap (same_key a) (sym e) ∙ same_key-self a

pub same_key-different : (a b : Key) → (a ≡ b → ⊥) → same_key a b ≡ false
same_key-different a b n = false_from_ne_true (same_key a b) (λ e. n (same_key-true a b e))

pub same_key-false : (a b : Key) → same_key a b ≡ false → a ≡ b → ⊥
same_key-false a b e same = both_ways (same_key a b) e (same_key-from a b same)

pub cases_key : (a b : Key) → (a ≡ b) ⊎ (a ≡ b → ⊥)
cases_key a b = elim (cases_Bool (same_key a b)) [ inl e ↦ inl (same_key-true a b e) | inr e ↦ inr (same_key-false a b e) ]
