-- Values stay within a bound: within the greatest value of a plan, and within that of all.
use Rattle.std.proofs.Common.{◌≡◌, ℕ, zero, suc, ◌+◌, ◌-◌, ◌/◌, ◌<◌, ◌≤◌, ◌==◌, nat_le, nat_lt, List, [], ◌∷◌, map, length, take, drop, get_or, sum, slice_index, Option, Some, None, unwrap_or, All, zero-le, zero-lt-suc, le_trans, le_refl, refl, sym, ap, ◌∙◌, subst, inl, inr, arith}
use Rattle.std.proofs.lemmas.List.Elements.{All-nil, All-map, All-head, All-tail, All-from_get_or, All-take, All-weaker}
use Rattle.std.proofs.lemmas.Bool.{cases_Bool, cond-true, cond-false, leb-true, cond_both}
use Rattle.std.proofs.lemmas.Option.{same_Some, none-some, cond_some}
use Rattle.std.proofs.lemmas.List.{get_or-map, get_or-take, get_or_past, length-take}
use Rattle.morph_base.specs.declared.limits.TheConstants.{MAX}
use Rattle.morph_base.specs.declared.key.Key.{Key}
use Rattle.morph_base.specs.declared.operation.Func.{Func}
use Rattle.morph_base.specs.declared.operation.Func.TheVariants.{Keep, Add, Sub, MoveIn, Sum, Blend, Set, Enter, Charge}
use Rattle.morph_base.specs.declared.operation.Op.{Op}
use Rattle.morph_base.specs.declared.batch.Batch.{Batch}
use Rattle.morph_base.specs.declared.plan.Origin.{Origin}
use Rattle.morph_base.specs.declared.plan.Origin.TheVariants.{Base, Op as Written}
use Rattle.morph_base.specs.declared.plan.Plan.{Plan}
use Rattle.morph_base.specs.declared.plan.PlanOp.{PlanOp}
use Rattle.morph_base.specs.Functions.{at_most, toll, result_of, value_of}
use Rattle.morph_base.specs.Operations.{high_in, no_op, IsShaped, reads, same_key}
use Rattle.morph_base.specs.Transactions.{high_of_all, HasHigh, Transaction, IsTransaction, IsBatch, transactions_of, by_time}
use Rattle.morph_base.specs.States.{State, IsUpTo, answer, with_answers, commits, after, after_all, fold_batch}
use Rattle.morph_base.specs.Plans.{IsPlan, IsPlanOf, high_of, no_plan_op, event_count, op_count, event_at, op_at, event_of, target, keys_of, origin_at, opening, no_event, transaction_in, transactions, transaction_at, state_at, value_at, final}
use Rattle.morph_base.specs.Clean.{from, source, outcome}
use Rattle.morph_base.proofs.OutcomeLaws.{Precedes, source_precedes}
use Rattle.std.proofs.lemmas.List.Sorted.{All-permutation, length_permutation}
use Rattle.morph_base.proofs.TimeLaws.{by_time-permutes}
use Rattle.morph_base.proofs.BaseLaws.{opening_of-each}
use Rattle.morph_base.proofs.ShapeLaws.{limit-small}
use Rattle.morph_base.proofs.PlanLaws.{end_in_range, length-transaction, length-transactions, transaction_op, place_within, op_of_all}

-- ---- the table

at_most-small : (limit x v : ℕ) → at_most limit x ≡ Some v → v ≤ limit
at_most-small limit x v is =
    let parts = cond_some (nat_le x limit) x v is in
    subst (λ y. y ≤ limit) parts.1 (leb-true x limit parts.0)

module _ (low high bound : ℕ) (under : high ≤ bound) where
  result_of-within : (f : Func) (c x : ℕ) (ps : List ℕ) (v : ℕ) → c ≤ bound → x ≤ bound → result_of low high f c x ps ≡ Some v → v ≤ bound
  result_of-within Keep c x ps v small target is = subst (λ y. y ≤ bound) (same_Some x v is) target
  result_of-within Add c x ps v small target is = le_trans (at_most-small high (x + c) v is) under
  result_of-within Sub c x ps v small target is =
      elim (cases_Bool (nat_lt x (c + low))) [
        | inl less ↦ absurd (none-some v (sym (cond-true (nat_lt x (c + low)) None (Some (x - c)) less) ∙ is))
        | inr more ↦
            let value : x - c ≡ v = same_Some (x - c) v (sym (cond-false (nat_lt x (c + low)) None (Some (x - c)) more) ∙ is) in
            omega arith
      ]
  result_of-within MoveIn c x ps v small target is =
      elim (cases_Bool (nat_lt (slice_index ps 0) (c + low))) [
        | inl less ↦ absurd (none-some v (sym (cond-true (nat_lt (slice_index ps 0) (c + low)) None (at_most high (x + c)) less) ∙ is))
        | inr more ↦ le_trans (at_most-small high (x + c) v (sym (cond-false (nat_lt (slice_index ps 0) (c + low)) None (at_most high (x + c)) more) ∙ is)) under
      ]
  result_of-within Sum c x ps v small target is = le_trans (at_most-small c (sum ps) v is) small
  result_of-within Blend c x ps v small target is =
      elim (cases_Bool (x == 0)) [
        | inl none ↦ subst (λ y. y ≤ bound) (same_Some c v (sym (cond-true (x == 0) (Some c) (Some ((x + c) / 2)) none) ∙ is)) small
        | inr some ↦
            let value : (x + c) / 2 ≡ v = same_Some ((x + c) / 2) v (sym (cond-false (x == 0) (Some c) (Some ((x + c) / 2)) some) ∙ is) in
            omega arith
      ]
  result_of-within Set c x ps v small target is = subst (λ y. y ≤ bound) (same_Some c v is) small
  result_of-within Enter c x ps v small target is =
      elim (cases_Bool (slice_index ps 0 == c)) [
        | inl same ↦ subst (λ y. y ≤ bound) (same_Some x v (sym (cond-true (slice_index ps 0 == c) (Some x) (at_most high (x + 1)) same) ∙ is)) target
        | inr other ↦ le_trans (at_most-small high (x + 1) v (sym (cond-false (slice_index ps 0 == c) (Some x) (at_most high (x + 1)) other) ∙ is)) under
      ]
  result_of-within Charge c x ps v small target is = le_trans (at_most-small c (x + toll (slice_index ps 0) (slice_index ps 1)) v is) small

first_small : (high : ℕ) (xs : List ℕ) → All (λ x. x ≤ high) xs → slice_index xs 0 ≤ high
first_small high [] small = zero-le
first_small high (x ∷ xs) small = small 0 0 (zero-lt-suc (length xs))

-- an operation of valid shape makes a value of values, also where these are within a greater bound than its own
pub value_of-within : (bound : ℕ) (op : Op) (xs : List ℕ) (v : ℕ) → value_of op xs ≡ Some v → IsShaped op → op.high ≤ bound → All (λ x. x ≤ bound) xs → v ≤ bound
unfolding value_of
value_of-within bound op xs v is shape under small =
    result_of-within op.low op.high bound under op.func op.c (slice_index xs 0) (drop 1 xs) v (le_trans shape.constant under) (first_small bound xs small) is

pub value_of-small : (op : Op) (xs : List ℕ) (v : ℕ) → value_of op xs ≡ Some v → IsShaped op → All (λ x. x ≤ MAX) xs → v ≤ MAX
value_of-small op xs v is shape small = value_of-within MAX op xs v is shape (limit-small op.high shape.limit) small

-- ---- states

-- an operation of valid shape makes no value above the bound
abbrev pub MakesUpTo : ℕ → Op → Type 0
MakesUpTo bound op = IsShaped op × (op.high ≤ bound)

abbrev pub IsEventUpTo : ℕ → Transaction → Type 0
IsEventUpTo bound e = All (MakesUpTo bound) e.ops

module _ (bound : ℕ) where
  pub answer-within : (s : State) (op : Op) (v : ℕ) → IsUpTo bound s → MakesUpTo bound op → answer s op ≡ Some v → v ≤ bound
  answer-within s op v small makes is =
      value_of-within bound op (map s (reads op)) v is makes.0 makes.1 (All-map (λ x. x ≤ bound) s (reads op) (λ k d lt. small (get_or (reads op) k d)))

  pub with_answers-within : (s : State) (ops : List Op) (key : Key) → IsUpTo bound s → All (MakesUpTo bound) ops → with_answers s ops key ≤ bound
  unfolding with_answers
  with_answers-within s [] key small make = small key
  with_answers-within s (op ∷ ops) key small make =
      cond_both (same_key op.key key) _ _ (λ x. x ≤ bound)
      (λ same. of_answer (answer s op) refl)
      (λ other. with_answers-within s ops key small (All-tail (MakesUpTo bound) op ops make))
    where
      of_answer : (found : Option ℕ) → answer s op ≡ found → unwrap_or found (s key) ≤ bound
      of_answer None is = small key
      of_answer (Some v) is = answer-within s op v small (All-head (MakesUpTo bound) op ops make) is

  pub after-within : (s : State) (e : Transaction) → IsUpTo bound s → IsEventUpTo bound e → IsUpTo bound (after s e)
  unfolding after
  after-within s e small make key = cond_both (commits s e) _ _ (λ x. x ≤ bound) (λ commit. with_answers-within s e.ops key small make) (λ abort. small key)

  pub after_all-within : (s : State) (es : List Transaction) → IsUpTo bound s → All (IsEventUpTo bound) es → IsUpTo bound (after_all s es)
  unfolding after_all
  after_all-within s [] small make = small
  after_all-within s (e ∷ es) small make =
      after_all-within (after s e) es (after-within s e small (All-head (IsEventUpTo bound) e es make)) (All-tail (IsEventUpTo bound) e es make)

shaped_up : (op : Op) → IsShaped op → MakesUpTo MAX op
shaped_up op shape = (shape, limit-small op.high shape.limit)

pub fold-small : (s : State) (es : List Transaction) (key : Key) → All IsTransaction es → IsUpTo MAX s → after_all s es key ≤ MAX
fold-small s es key valid small =
    after_all-within MAX s es small (All-weaker IsTransaction (IsEventUpTo MAX) (λ e is. All-weaker IsShaped (MakesUpTo MAX) shaped_up e.ops is.shaped) es valid) key

-- ---- plans

-- the greatest value of a plan is at most that of all
pub high_of-small : (p : Plan) → IsPlan p → high_of p ≤ MAX
unfolding high_of
high_of-small p valid = of_count (op_count p) refl
  where
    of_count : (n : ℕ) → op_count p ≡ n → (op_at p 0).op.high ≤ MAX
    of_count zero none = subst (λ (q : PlanOp). q.op.high ≤ MAX) (sym (get_or_past p.ops.items 0 no_plan_op (omega (arith, none)))) (omega arith)
    of_count (suc n) some = (let shape = valid.numbering.shaped 0 (omega (arith, some)) in limit-small (op_at p 0).op.high shape.limit)

module _ (p : Plan) (valid : IsPlan p) (bound : ℕ) (under : high_of p ≤ bound) where
  pub op_under : (o : ℕ) → o < op_count p → MakesUpTo bound (op_at p o).op
  op_under o lt = (valid.numbering.shaped o lt, subst (λ high. high ≤ bound) (sym (valid.alike o lt)) under)

  pub transactions_within : All (IsEventUpTo bound) (transactions p)
  transactions_within i d lt =
      let here : i < event_count p = rw (length-transactions p) at lt in
      let found : get_or (transactions p) i d ≡ transaction_at p i = get_or-map (transaction_in p.ops.items) p.events.items i no_event d here in
      subst (IsEventUpTo bound) (sym found) (λ j op below.
      let inside : j < (event_at p i).count = rw (length-transaction p valid i here) at below in
      subst (MakesUpTo bound) (sym (transaction_op p valid i j op here inside))
      (op_under ((event_at p i).first + j) (valid.numbering.owned i ((event_at p i).first + j) here (place_within p valid i j inside)).0))

  pub state_at-within : (s : State) (i : ℕ) (key : Key) → IsUpTo bound s → state_at p s i key ≤ bound
  unfolding state_at
  state_at-within s i key small = after_all-within bound s (take i (transactions p)) small (All-take (IsEventUpTo bound) i (transactions p) transactions_within) key

  pub opening-within : (key : Key) → opening p key ≤ bound
  opening-within key =
      opening_of-each (λ k v. v ≤ bound) (λ k. zero-le) p.ops.items key
      (λ o lt j v below inside is. le_trans (valid.small o j v lt below is) under)

  pub final-within : (o : ℕ) → final p o ≤ bound
  unfolding value_at
  final-within o = state_at-within (opening p) (event_of p o + 1) (target p o) opening-within

  -- where what precedes an operation is within the bound, so are its sources
  pub source-within : (v : ℕ → ℕ) (o j : ℕ) → o < op_count p → j < length (keys_of p o) → ((t : ℕ) → Precedes p t o → v t ≤ bound) → source p v o j ≤ bound
  source-within v o j lt below small = of_origin (origin_at p o j) refl
    where
      of_origin : (origin : Origin) → origin_at p o j ≡ origin → from v origin ≤ bound
      of_origin (Base b) is = le_trans (valid.small o j b lt below is) under
      of_origin (Written t) is = small t (source_precedes p o j t valid lt below is)

  -- and so is its answer
  pub outcome-within : (v : ℕ → ℕ) (o x : ℕ) → o < op_count p → ((t : ℕ) → Precedes p t o → v t ≤ bound) → outcome p v o ≡ Some x → x ≤ bound
  outcome-within v o x lt small is =
      let n : ℕ = length (keys_of p o) in
      let origins : List Origin = (op_at p o).origins in
      let each : All (λ origin. from v origin ≤ bound) (take n origins) =
      All-from_get_or (λ origin. from v origin ≤ bound) (take n origins) (Base 0)
      (λ j inside.
      let below : j < n = (let short = rw (length-take n origins) at inside in omega arith) in
      rw (get_or-take n origins j (Base 0) below) (source-within v o j lt below small)) in
      let makes = op_under o lt in
      value_of-within bound (op_at p o).op (map (from v) (take n origins)) x is makes.0 makes.1 (All-map (λ y. y ≤ bound) (from v) (take n origins) each)

-- the same within the greatest value of all
module _ (p : Plan) where
  pub state_at-small : (s : State) (i : ℕ) (key : Key) → IsPlan p → IsUpTo MAX s → state_at p s i key ≤ MAX
  state_at-small s i key valid small = state_at-within p valid MAX (high_of-small p valid) s i key small

  pub opening-small : (key : Key) → IsPlan p → opening p key ≤ MAX
  opening-small key valid = opening-within p valid MAX (high_of-small p valid) key

  pub final-small : (o : ℕ) → IsPlan p → final p o ≤ MAX
  final-small o valid = final-within p valid MAX (high_of-small p valid) o

  pub source-small : (v : ℕ → ℕ) (o j : ℕ) → IsPlan p → o < op_count p → j < length (keys_of p o) → ((t : ℕ) → Precedes p t o → v t ≤ MAX) → source p v o j ≤ MAX
  source-small v o j valid = source-within p valid MAX (high_of-small p valid) v o j

-- ---- batches

pub fold_batch-small : (b : Batch) (s : State) (key : Key) → IsBatch b → IsUpTo MAX s → fold_batch b s key ≤ MAX
fold_batch-small b s key valid small =
    fold-small s (by_time (transactions_of b)) key
    (All-permutation IsTransaction (transactions_of b) (by_time (transactions_of b)) (by_time-permutes (transactions_of b)) valid.valid) small

-- the greatest value of a batch is at most that of all
pub high_of_all-small : (es : List Transaction) → All IsTransaction es → high_of_all es ≤ MAX
high_of_all-small [] valid = le_refl MAX
high_of_all-small (e ∷ es) valid = (let first = All-head IsTransaction e es valid in of_ops e.ops first.shaped)
  where
    of_ops : (ops : List Op) → All IsShaped ops → high_in ops ≤ MAX
    of_ops [] all = le_refl MAX
    of_ops (op ∷ ops) all = (let shape = All-head IsShaped op ops all in limit-small op.high shape.limit)

-- where all events have one greatest value, and there is one, it is that of all
pub high_of_all-alike : (high : ℕ) (es : List Transaction) → 0 < length es → All IsTransaction es → All (HasHigh high) es → high_of_all es ≡ high
high_of_all-alike high [] some valid all = absurd (omega arith)
high_of_all-alike high (e ∷ es) some valid all = All-head (HasHigh high) e es all 0 no_op (All-head IsTransaction e es valid).some

-- where all events have one greatest value, it is that of the batch
pub alike_all : (high : ℕ) (es : List Transaction) → All IsTransaction es → All (HasHigh high) es → All (HasHigh (high_of_all es)) es
alike_all high [] valid all = All-nil (HasHigh MAX)
alike_all high (e ∷ es) valid all = subst (λ h. All (HasHigh h) (e ∷ es)) (sym (high_of_all-alike high (e ∷ es) (zero-lt-suc (length es)) valid all)) all

event_up : (high : ℕ) (e : Transaction) → IsTransaction e → HasHigh high e → IsEventUpTo high e
event_up high e valid its j d inside = (valid.shaped j d inside, subst (λ h. h ≤ high) (sym (its j d inside)) (le_refl high))

-- the fold of a batch keeps a state within the greatest value of its events
pub fold_batch-within : (high : ℕ) (b : Batch) (s : State) → IsBatch b → All (HasHigh high) (transactions_of b) → IsUpTo high s → IsUpTo high (fold_batch b s)
fold_batch-within high b s valid all small =
    after_all-within high s (by_time (transactions_of b)) small
    (All-permutation (IsEventUpTo high) (transactions_of b) (by_time (transactions_of b)) (by_time-permutes (transactions_of b))
    (λ i d lt. event_up high (get_or (transactions_of b) i d) (valid.valid i d lt) (all i d lt)))

-- all operations of a batch with one greatest value have it in the plan of the batch
module _ (high : ℕ) (b : Batch) (p : Plan) (plan : IsPlan p) (is : IsPlanOf b p) (all : All (HasHigh high) (transactions_of b)) where
  planned : All (HasHigh high) (transactions p)
  planned = subst (All (HasHigh high)) (sym is) (All-permutation (HasHigh high) (transactions_of b) (by_time (transactions_of b)) (by_time-permutes (transactions_of b)) all)

  pub op_high : (o : ℕ) → o < op_count p → (op_at p o).op.high ≡ high
  op_high o lt = op_of_all (λ (op : Op). op.high ≡ high) p plan planned o lt

  -- so the plan has it, where the batch has an event
  pub high_of-alike : 0 < length (transactions_of b) → high_of p ≡ high
  unfolding high_of
  high_of-alike some =
      let events : length (transactions p) ≡ length (transactions_of b) =
      ap length is ∙ length_permutation (transactions_of b) (by_time (transactions_of b)) (by_time-permutes (transactions_of b)) in
      let first : 0 < event_count p = (let same = length-transactions p in omega (arith, same, events, some)) in
      let counts = plan.numbering.counts 0 first in
      let room = end_in_range p plan 0 first in
      op_high 0 (omega (arith, counts.0, room))

-- the greatest value of a batch is at most that of its plan: where there is an operation both are its own, and where there is none the plan's is that of all
pub high_of-batch : (b : Batch) (p : Plan) → IsBatch b → IsPlan p → IsPlanOf b p → high_of_all (transactions_of b) ≤ high_of p
unfolding high_of
high_of-batch b p valid plan is = of_count (op_count p) refl
  where
    high : ℕ
    high = high_of_all (transactions_of b)

    of_count : (n : ℕ) → op_count p ≡ n → high ≤ (op_at p 0).op.high
    of_count zero none =
        subst (λ (q : PlanOp). high ≤ q.op.high) (sym (get_or_past p.ops.items 0 no_plan_op (omega (arith, none)))) (high_of_all-small (transactions_of b) valid.valid)
    of_count (suc n) some = (let same : (op_at p 0).op.high ≡ high = op_high high b p plan is valid.alike 0 (omega (arith, some)) in omega (arith, same))
