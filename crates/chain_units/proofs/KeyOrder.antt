-- The order of keys is total, and ties the same keys.
use Rattle.std.proofs.Common.{◌≡◌, ℕ, false, ◌==◌, ◌∙◌, ap, arith}
use Rattle.std.specs.Cmp.{IsTotalOrder, both_tied}
use Rattle.std.specs.Ordering.{nat_cmp, is_eq, ordering_reverse}
use Rattle.std.specs.declared.cmp.Ordering.TheVariants.{Less, Equal, Greater}
use Rattle.std.proofs.lemmas.Cmp.{nat_cmp_total, on_total, then_total, tied_itself}
use Rattle.std.proofs.lemmas.Bool.Decides.{nat_tests}
use Rattle.morph_base.specs.declared.key.Key.{Key}
use Rattle.morph_base.specs.Operations.{same_key}
use Rattle.morph_base.proofs.KeyLaws.{same_key-true}
use Rattle.chain_units.specs.Chains.{key_cmp}

pub key_cmp_total : IsTotalOrder key_cmp
key_cmp_total = then_total (on_total (λ (k : Key). k.table) nat_cmp_total) (on_total (λ (k : Key). k.id) nat_cmp_total)

same_number : (x y : ℕ) → (x == y) ≡ is_eq (nat_cmp x y)
same_number x y = grind (arith, nat_tests)

pub same_is_tied : (a b : Key) → same_key a b ≡ is_eq (key_cmp a b)
same_is_tied a b = both_tied (a.table == b.table) (a.id == b.id) (nat_cmp a.table b.table) (nat_cmp a.id b.id) (same_number a.table b.table) (same_number a.id b.id)

pub tied_keys : (a b : Key) → key_cmp a b ≡ Equal → a ≡ b
tied_keys a b tied = same_key-true a b (same_is_tied a b ∙ ap is_eq tied)

pub less_differs : (a b : Key) → key_cmp a b ≡ Less → same_key a b ≡ false
less_differs a b less = same_is_tied a b ∙ ap is_eq less

pub greater_differs : (a b : Key) → key_cmp a b ≡ Greater → same_key a b ≡ false
greater_differs a b greater = same_is_tied a b ∙ ap is_eq greater

pub flipped : (a b : Key) → key_cmp a b ≡ Greater → key_cmp b a ≡ Less
flipped a b greater = key_cmp_total.antisymm b a ∙ ap ordering_reverse greater

pub flipped_less : (a b : Key) → key_cmp a b ≡ Less → key_cmp b a ≡ Greater
flipped_less a b less = key_cmp_total.antisymm b a ∙ ap ordering_reverse less

pub key_itself : (a : Key) → key_cmp a a ≡ Equal
key_itself a = tied_itself key_cmp_total a
