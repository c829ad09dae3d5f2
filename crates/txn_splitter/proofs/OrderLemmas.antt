-- The transactions of a valid batch by time: as many, as valid, and each later than those before it.
use Rattle.std.proofs.Common.{◌≡◌, ℕ, ◌<◌, ◌≤◌, List, length, get_or, map, nat_eq, sym, ◌∙◌, arith}
use Rattle.std.specs.Prelude.{All}
use Rattle.std.specs.List.{IsDistinct}
use Rattle.std.specs.Cmp.{nat_eq_equiv}
use Rattle.std.proofs.lemmas.Bool.{eqb-false}
use Rattle.std.proofs.lemmas.List.{length-map, get_or-map}
use Rattle.std.proofs.lemmas.List.Sorted.{length_permutation, All-permutation, IsPermutation-map}
use Rattle.std.proofs.lemmas.Map.Keys.{IsDistinct-IsPermutation, apart_from_distinct}
use Rattle.morph_base.specs.declared.limits.TheConstants.{EVENTS}
use Rattle.morph_base.specs.declared.operation.Op.{Op}
use Rattle.morph_base.specs.Transactions.{high_of_all, Transaction, IsTransaction, IsBatchOf, time, by_time}
use Rattle.morph_base.proofs.TimeLaws.{by_time-permutes, by_time-rises}

module _ (ts : List Transaction) (is : IsBatchOf ts) where
  pub order_few : length (by_time ts) ≤ EVENTS
  order_few = omega (arith, length_permutation ts (by_time ts) (by_time-permutes ts), is.few)

  pub order_length : length (by_time ts) ≡ length ts
  order_length = length_permutation ts (by_time ts) (by_time-permutes ts)

  pub order_valid : All IsTransaction (by_time ts)
  order_valid = All-permutation IsTransaction ts (by_time ts) (by_time-permutes ts) is.valid

  pub order_alike : All (λ (e : Transaction). All (λ (op : Op). op.high ≡ high_of_all ts) e.ops) (by_time ts)
  order_alike = All-permutation (λ (e : Transaction). All (λ (op : Op). op.high ≡ high_of_all ts) e.ops) ts (by_time ts) (by_time-permutes ts) is.alike

  order_apart : IsDistinct nat_eq (map time (by_time ts))
  order_apart =
      IsDistinct-IsPermutation nat_eq nat_eq_equiv.symm (map time ts) (map time (by_time ts)) (IsPermutation-map time ts (by_time ts) (by_time-permutes ts)) is.times

  pub order_rises : (i j : ℕ) (d : Transaction) → i < j → j < length (by_time ts) → (get_or (by_time ts) i d).ts < (get_or (by_time ts) j d).ts
  order_rises i j d less lt =
      let es = by_time ts in
      let le : time (get_or es i d) ≤ time (get_or es j d) = by_time-rises ts i j d (omega arith) lt in
      let apart = eqb-false (get_or (map time es) i 0) (get_or (map time es) j 0) (apart_from_distinct nat_eq (map time es) i j 0 order_apart less (omega (arith, length-map es time))) in
      let here : get_or (map time es) i 0 ≡ time (get_or es i d) = get_or-map time es i d 0 (omega arith) in
      let there : get_or (map time es) j 0 ≡ time (get_or es j d) = get_or-map time es j d 0 lt in
      let differ : time (get_or es i d) ≡ time (get_or es j d) → ⊥ = λ e. apart (here ∙ e ∙ sym there) in
      omega arith
