-- The first operations are planned: one operation more.
use Rattle.std.proofs.Common.{◌≡◌, ℕ, ◌+◌, ◌<◌, ◌≤◌, List, [], ◌∷◌, ◌++◌, length, get_or, take, map, refl, sym, ap, subst, ◌∙◌, inl, inr, arith}
use Rattle.std.specs.Prelude.{All}
use Rattle.std.proofs.lemmas.Bool.{cases_lt}
use Rattle.std.proofs.lemmas.List.{take_at, length-map, length_push, get_or_append_left, get_or_push}
use Rattle.std.proofs.lemmas.List.Elements.{All-head, All-tail, All-map, All-push, All-same, All-weaker}
use Rattle.morph_base.specs.declared.key.Key.{Key}
use Rattle.morph_base.specs.declared.operation.Op.{Op}
use Rattle.morph_base.specs.declared.plan.Origin.{Origin}
use Rattle.morph_base.specs.declared.plan.Origin.TheVariants.{Base, Op as Written}
use Rattle.morph_base.specs.declared.plan.PlanOp.{PlanOp}
use Rattle.morph_base.specs.Operations.{reads}
use Rattle.morph_base.specs.Sources.{IsSource}
use Rattle.morph_base.specs.Plans.{no_plan_op}
use Rattle.morph_base.specs.Known.{IsKnown}
use Rattle.morph_base.specs.Graphs.{greatest, level_of}
use Rattle.txn_splitter.specs.declared.txns.Txns.{Txns}
use Rattle.txn_splitter.specs.Txns.{txn_op_count, txn_op_at, txn_of, txn_target}
use Rattle.precedence_graph.specs.Planned.{IsAmong, padded, sources_of, planned, op_level_in, IsPlannedOp, ArePlanned}
use Rattle.precedence_graph.proofs.GreatestLemmas.{greatest-le}

-- the used places of padded sources
pub take-padded : (f : Key → Origin) (keys : List Key) → take (length keys) (padded (map f keys)) ≡ map f keys
take-padded f keys = take_at (map f keys) _ (length keys) (length-map keys f)

pub IsAmong-more : (n m : ℕ) (origin : Origin) → n ≤ m → IsAmong n origin → IsAmong m origin
IsAmong-more n m (Base v) le is = tt
IsAmong-more n m (Written s) le is = omega arith

-- where an operation's level is at most n, no source has a greater one
pub levels_low : (n : ℕ) (f : ℕ → ℕ) (P : ℕ → Type 0) (xs : List Origin) → ((s : ℕ) → P s → f s ≤ n) → All (IsKnown P) xs → greatest (map (level_of f) xs) ≤ n
levels_low n f P xs low all =
    greatest-le n (map (level_of f) xs) (All-map (λ l. l ≤ n) (level_of f) xs (All-weaker (IsKnown P) (λ origin. level_of f origin ≤ n) each xs all))
  where
    each : (origin : Origin) → IsKnown P origin → level_of f origin ≤ n
    each (Base v) is = omega arith
    each (Written s) is = low s is

-- levels that agree at the operations among the sources
pub levels_agree : (f g : ℕ → ℕ) (P : ℕ → Type 0) (xs : List Origin) → ((s : ℕ) → P s → f s ≡ g s) → All (IsKnown P) xs → map (level_of f) xs ≡ map (level_of g) xs
levels_agree f g P [] same all = refl
levels_agree f g P (Base v ∷ xs) same all = ap (λ ls. 0 ∷ ls) (levels_agree f g P xs same (All-tail (IsKnown P) (Base v) xs all))
levels_agree f g P (Written s ∷ xs) same all =
    ap (λ l. l ∷ map (level_of f) xs) (same s (All-head (IsKnown P) (Written s) xs all)) ∙ ap (λ ls. g s ∷ ls) (levels_agree f g P xs same (All-tail (IsKnown P) (Written s) xs all))

-- the levels of the first operations stay
levels_stay : (ops more : List PlanOp) (n : ℕ) (xs : List Origin) → n ≤ length ops → All (IsAmong n) xs → map (level_of (op_level_in (ops ++ more))) xs ≡ map (level_of (op_level_in ops)) xs
levels_stay ops more n xs le among =
    levels_agree (op_level_in (ops ++ more)) (op_level_in ops) (λ s. s < n) xs (λ s lt. ap (λ q. q.level) (get_or_append_left ops more no_plan_op s (omega arith))) among

module _ (x : Txns) where
  planned_stays : (ops more : List PlanOp) (o : ℕ) → o < length ops → IsPlannedOp x ops o → IsPlannedOp x (ops ++ more) o
  planned_stays ops more o lt is =
      let e : planned (ops ++ more) o ≡ planned ops o = get_or_append_left ops more no_plan_op o lt in
      record {
        op_is = ap (λ q. q.op) e ∙ is.op_is;
        event_is = ap (λ q. q.event) e ∙ is.event_is;
        source = is.source;
        source_is = is.source_is;
        base_is = is.base_is;
        origins_are = ap (λ q. q.origins) e ∙ is.origins_are ∙ ap (λ q. padded (map is.source (reads q.op))) (sym e);
        among = subst (λ q. All (IsAmong o) (sources_of q)) (sym e) is.among;
        level_is = ap (λ q. q.level) e ∙ is.level_is ∙ ap (λ ls. 1 + greatest ls) (sym (levels_stay ops more o (sources_of (planned ops o)) (omega arith) is.among)) ∙ ap (λ q. 1 + greatest (map (level_of (op_level_in (ops ++ more))) (sources_of q))) (sym e);
      }

  -- one operation more, whose sources are those that f gives and whose level is by the operations so far
  planned_new : (n : ℕ) (ops : List PlanOp) (q : PlanOp) (op : Op) (f : Key → Origin) → length ops ≡ n → q.op ≡ op → op ≡ txn_op_at x n → q.event ≡ txn_of x n → ((key : Key) → IsSource (txn_op_count x) (txn_target x) (txn_of x) (txn_of x n) key (f key)) → ((key : Key) (v : ℕ) → f key ≡ Base v → v ≡ 0) → ((key : Key) → IsAmong n (f key))
      → q.origins ≡ padded (map f (reads op)) → q.level ≡ 1 + greatest (map (level_of (op_level_in ops)) (map f (reads op))) → IsPlannedOp x (ops ++ q ∷ []) n
  planned_new n ops q op f many op_is known event_is source_is base_is among origins_are level_is =
      let e : planned (ops ++ q ∷ []) n ≡ q = get_or_push ops q no_plan_op n many in
      let reads_are : reads q.op ≡ reads op = ap reads op_is in
      let used : sources_of q ≡ map f (reads op) = ap (λ keys. take (length keys) q.origins) reads_are ∙ ap (take (length (reads op))) origins_are ∙ take-padded f (reads op) in
      let all : All (IsAmong n) (map f (reads op)) = All-map (IsAmong n) f (reads op) (λ k d _. among (get_or (reads op) k d)) in
      let stay = levels_stay ops (q ∷ []) n (map f (reads op)) (omega arith) all in
      record {
        op_is = ap (λ q. q.op) e ∙ op_is ∙ known;
        event_is = ap (λ q. q.event) e ∙ event_is;
        source = f;
        source_is = source_is;
        base_is = base_is;
        origins_are = ap (λ q. q.origins) e ∙ origins_are ∙ ap (λ keys. padded (map f keys)) (sym reads_are) ∙ ap (λ q. padded (map f (reads q.op))) (sym e);
        among = subst (λ q. All (IsAmong n) (sources_of q)) (sym e) (All-same (IsAmong n) (sources_of q) (map f (reads op)) used all);
        level_is = ap (λ q. q.level) e ∙ level_is ∙ ap (λ ls. 1 + greatest ls) (sym stay) ∙ ap (λ xs. 1 + greatest (map (level_of (op_level_in (ops ++ q ∷ []))) xs)) (sym used) ∙ ap (λ r. 1 + greatest (map (level_of (op_level_in (ops ++ q ∷ []))) (sources_of r))) (sym e);
      }

  planned_push : (n : ℕ) (ops : List PlanOp) (q : PlanOp) → ArePlanned x n ops → IsPlannedOp x (ops ++ q ∷ []) n → q.level ≤ n + 1 → ArePlanned x (n + 1) (ops ++ q ∷ [])
  planned_push n ops q is new low =
      record {
        many = length_push ops q ∙ ap (λ k. k + 1) is.many;
        each = λ o lt. elim (cases_lt o n) [
          | inl less ↦ let many : length ops ≡ n = is.many in planned_stays ops (q ∷ []) o (omega arith) (is.each o less)
          | inr more ↦ let last : n ≡ o = omega arith in subst (IsPlannedOp x (ops ++ q ∷ [])) last new
        ];
        low = All-push (λ q. q.level ≤ n + 1) ops q (All-weaker (λ q. q.level ≤ n) (λ q. q.level ≤ n + 1) (λ q h. omega arith) ops is.low) low;
      }

  pub planned_more : (n : ℕ) (ops : List PlanOp) (q : PlanOp) (op : Op) (f : Key → Origin) → ArePlanned x n ops → q.op ≡ op → op ≡ txn_op_at x n → q.event ≡ txn_of x n → ((key : Key) → IsSource (txn_op_count x) (txn_target x) (txn_of x) (txn_of x n) key (f key)) → ((key : Key) (v : ℕ) → f key ≡ Base v → v ≡ 0) → ((key : Key) → IsAmong n (f key))
      → q.origins ≡ padded (map f (reads op)) → q.level ≡ 1 + greatest (map (level_of (op_level_in ops)) (map f (reads op))) → q.level ≤ length ops + 1 → ArePlanned x (n + 1) (ops ++ q ∷ [])
  planned_more n ops q op f is op_is known event_is source_is base_is among origins_are level_is low =
      let many : length ops ≡ n = is.many in
      planned_push n ops q is (planned_new n ops q op f many op_is known event_is source_is base_is among origins_are level_is) (omega arith)
