-- Events whose operations stand one behind another, and whose times do not fall: all operations are in time order.
use Rattle.std.proofs.Common.{◌≡◌, ℕ, ◌+◌, ◌-◌, ◌<◌, ◌≤◌, List, [], ◌∷◌, ◌++◌, length, take, drop, map, get_or, refl, sym, subst, ◌∙◌, ap, arith, All, nat_eq}
use Rattle.std.specs.List.{IsDistinct, flat_map}
use Rattle.std.specs.List.Sorted.{IsNonDecreasingBy}
use Rattle.std.proofs.Math.Seq.{take-add}
use Rattle.std.proofs.lemmas.Grind.{flat_map-append}
use Rattle.std.proofs.lemmas.List.{append-nil, map-append, take_all, take_more}
use Rattle.std.proofs.lemmas.List.Elements.{All-nil, All-push, All-weaker}
use Rattle.std.proofs.lemmas.List.Sorted.{IsPermutation-refl, IsNonDecreasingBy-push, IsNonDecreasingBy-short}
use Rattle.morph_base.specs.declared.batch.EventHead.{EventHead}
use Rattle.morph_base.specs.declared.operation.Op.{Op}
use Rattle.morph_base.specs.Transactions.{Transaction, time, transaction_by, by_time}
use Rattle.morph_base.proofs.TimeLaws.{by_time-is}

-- the operations of some transactions, one behind another
abbrev pub ops_along : List Transaction → List Op
ops_along es = flat_map (λ e. e.ops) es

-- the events of these heads have the first `end` operations, in their order, and the last of them comes at time `latest`
pub record IsRun (ops : List Op) (heads : List EventHead) (end latest : ℕ) : Type 0 where
  pub all : ops_along (map (transaction_by ops) heads) ≡ take end ops
  pub rises : IsNonDecreasingBy time (map (transaction_by ops) heads)
  pub last : All (λ (e : Transaction). e.ts ≤ latest) (map (transaction_by ops) heads)

pub run_none : (ops : List Op) (heads : List EventHead) → IsRun ops (take 0 heads) 0 0
run_none ops heads = record {
  all = refl;
  rises = IsNonDecreasingBy-short time [] (omega arith);
  last = All-nil (λ (e : Transaction). e.ts ≤ 0);
}

-- one more event, behind them and no earlier
run_push : (ops : List Op) (heads : List EventHead) (head : EventHead) (end latest : ℕ) → IsRun ops heads end latest → head.first ≡ end → latest ≤ head.ts
    → IsRun ops (heads ++ head ∷ []) (end + head.count) head.ts
run_push ops heads head end latest run next later =
    let es = map (transaction_by ops) heads in
    let e = transaction_by ops head in
    let more : map (transaction_by ops) (heads ++ head ∷ []) ≡ es ++ e ∷ [] = map-append (transaction_by ops) heads (head ∷ []) in
    record {
      all = ap ops_along more ∙ flat_map-append (λ (f : Transaction). f.ops) es (e ∷ [])
          ∙ ap (λ l. ops_along es ++ l) (append-nil e.ops)
          ∙ ap (λ l. l ++ e.ops) run.all ∙ ap (λ n. take end ops ++ take head.count (drop n ops)) next
          ∙ sym (take-add end head.count ops);
      rises = subst (IsNonDecreasingBy time) (sym more)
          (IsNonDecreasingBy-push time es e run.rises (λ d some. let below = run.last (length es - 1) d (omega arith) in omega arith));
      last = subst (All (λ (f : Transaction). f.ts ≤ head.ts)) (sym more)
          (All-push (λ (f : Transaction). f.ts ≤ head.ts) es e
          (All-weaker (λ (f : Transaction). f.ts ≤ latest) (λ (f : Transaction). f.ts ≤ head.ts) (λ f below. omega arith) es run.last) (omega arith));
    }

pub run_more : (ops : List Op) (heads : List EventHead) (i : ℕ) (d : EventHead) (end latest : ℕ) → i < length heads → IsRun ops (take i heads) end latest
    → (get_or heads i d).first ≡ end → latest ≤ (get_or heads i d).ts → IsRun ops (take (i + 1) heads) (end + (get_or heads i d).count) (get_or heads i d).ts
run_more ops heads i d end latest inside run next later =
    subst (λ l. IsRun ops l (end + (get_or heads i d).count) (get_or heads i d).ts) (sym (take_more heads i d inside))
    (run_push ops (take i heads) (get_or heads i d) end latest run next later)

-- all events are in time order, and have all operations
pub run_sorted : (ops : List Op) (heads : List EventHead) (i end latest : ℕ) → length heads ≤ i → IsRun ops (take i heads) end latest
    → IsDistinct nat_eq (map time (map (transaction_by ops) heads)) → by_time (map (transaction_by ops) heads) ≡ map (transaction_by ops) heads
run_sorted ops heads i end latest past so_far apart =
    let es = map (transaction_by ops) heads in
    let run : IsRun ops heads end latest = subst (λ l. IsRun ops l end latest) (take_all i heads past) so_far in
    sym (by_time-is es es apart (IsPermutation-refl es) run.rises)

pub run_is : (ops : List Op) (heads : List EventHead) (i end latest : ℕ) → length heads ≤ i → IsRun ops (take i heads) end latest → end ≡ length ops
    → ops ≡ ops_along (map (transaction_by ops) heads)
run_is ops heads i end latest past so_far whole =
    let run : IsRun ops heads end latest = subst (λ l. IsRun ops l end latest) (take_all i heads past) so_far in
    sym (take_all end ops (omega (arith, whole))) ∙ sym run.all
