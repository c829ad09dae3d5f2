-- A split of some transactions, one transaction more.
use Rattle.std.proofs.Common.{◌≡◌, ℕ, ◌+◌, ◌-◌, ◌<◌, ◌≤◌, List, [], ◌∷◌, ◌++◌, length, get_or, take, drop, map, replicate, refl, sym, ap, subst, ◌∙◌, inl, inr, arith}
use Rattle.std.specs.Prelude.{All}
use Rattle.std.specs.List.{IsDistinct}
use Rattle.std.proofs.lemmas.List.Elements.{All-nil, All-weaker, All-head}
use Rattle.std.proofs.lemmas.Bool.{cases_lt, cases_order}
use Rattle.std.proofs.lemmas.List.{length-map, length-append, length-drop, length-replicate, length_push, map_push, get_or-map, get_or_push, get_or_append_left, get_or-append_right, get_or-replicate, take_all, drop_at, drop-append-le, take-append-le}
use Rattle.std.proofs.lemmas.Map.Keys.{apart_from_distinct}
use Rattle.morph_base.specs.declared.limits.TheConstants.{EVENT_OPS, EVENTS, LATEST}
use Rattle.morph_base.specs.declared.operation.Op.{Op}
use Rattle.morph_base.specs.Operations.{high_in, IsShaped, same_key, no_key}
use Rattle.morph_base.specs.Numbering.{numbers, IsNumbering, IsWithin}
use Rattle.morph_base.specs.Transactions.{Transaction, IsTransaction}
use Rattle.morph_base.specs.Plans.{no_op}
use Rattle.morph_base.proofs.KeyLaws.{same_key-false}
use Rattle.morph_base.proofs.OutcomeLaws.{map-agree}
use Rattle.txn_splitter.specs.declared.txn_events.TxnEvent.{TxnEvent}
use Rattle.txn_splitter.specs.Txns.{NumberedTxns, IsTxns, IsSplitOf, no_txn, transaction_among, txn_ops, txn_count, txn_op_count, txn_at, txn_op_at, txn_of}
use Rattle.txn_splitter.proofs.TxnLemmas.{txn_end}

-- an event of k operations after n events and m operations
module _ (n m k : ℕ) (ts first count event_of ts' first' count' event_of' : ℕ → ℕ) (op op' : ℕ → Op) (is : IsNumbering (numbers n ts first count) m event_of op)
    (ts_stay : (i : ℕ) → i < n → ts' i ≡ ts i) (first_stays : (i : ℕ) → i < n → first' i ≡ first i) (count_stays : (i : ℕ) → i < n → count' i ≡ count i)
    (event_of_stays : (o : ℕ) → o < m → event_of' o ≡ event_of o) (op_stays : (o : ℕ) → o < m → op' o ≡ op o)
    (first_is : first' n ≡ m) (count_is : count' n ≡ k) (its : (o : ℕ) → m ≤ o → o < m + k → event_of' o ≡ n) where
  placed_more : (o : ℕ) → o < m + k → (event_of' o < n + 1) × IsWithin (first' (event_of' o)) (count' (event_of' o)) o
  placed_more o lt =
      elim (cases_lt o m) [
        | inl old ↦
            let home = is.placed o old in
            let e : ℕ = event_of o in
            let below : e < n = home.0 in
            let from : first e ≤ o = home.1.from in
            let until : o < first e + count e = home.1.below in
            let a = first_stays e below in
            let b = count_stays e below in
            subst (λ v. (v < n + 1) × IsWithin (first' v) (count' v) o) (sym (event_of_stays o old)) (omega arith, record { from = omega arith; below = omega arith })
        | inr new ↦
            subst (λ v. (v < n + 1) × IsWithin (first' v) (count' v) o) (sym (its o new lt)) (omega arith, record { from = omega arith; below = omega arith })
      ]

  owned_more : (i o : ℕ) → i < n + 1 → IsWithin (first' i) (count' i) o → (o < m + k) × (event_of' o ≡ i)
  owned_more i o lt within =
      let from : first' i ≤ o = within.from in
      let until : o < first' i + count' i = within.below in
      elim (cases_lt i n) [
        | inl old ↦
            let a = first_stays i old in
            let b = count_stays i old in
            let owned = is.owned i o old (record { from = omega arith; below = omega arith }) in
            let in_range : o < m = owned.0 in
            (omega arith, event_of_stays o in_range ∙ owned.1)
        | inr last ↦
            let same : i ≡ n = omega arith in
            let a : first' i ≡ m = ap first' same ∙ first_is in
            let b : count' i ≡ k = ap count' same ∙ count_is in
            (omega arith, its o (omega arith) (omega arith) ∙ sym same)
      ]

  in_order_more : (o t : ℕ) → o ≤ t → t < m + k → event_of' o ≤ event_of' t
  in_order_more o t le lt =
      elim (cases_lt t m) [
        | inl old ↦
            let before : o < m = omega arith in
            let a = event_of_stays o before in
            let b = event_of_stays t old in
            let order : event_of o ≤ event_of t = is.in_order o t le old in
            omega arith
        | inr new ↦
            let b = its t new lt in
            elim (cases_lt o m) [
              | inl before ↦
                  let a = event_of_stays o before in
                  let below : event_of o < n = (is.placed o before).0 in
                  omega arith
              | inr after ↦ let a = its o after (omega arith) in omega arith
            ]
      ]

  rising_more : ((i : ℕ) → i < n → ts i < ts' n) → (i j : ℕ) → i < j → j < n + 1 → ts' i < ts' j
  rising_more later i j less lt =
      elim (cases_lt j n) [
        | inl old ↦
            let before : i < n = omega arith in
            let a = ts_stay i before in
            let b = ts_stay j old in
            let order : ts i < ts j = is.rising i j less old in
            omega arith
        | inr last ↦
            let same : j ≡ n = omega arith in
            let before : i < n = omega arith in
            let a = ts_stay i before in
            let order : ts i < ts' n = later i before in
            subst (λ v. ts' i < ts' v) (sym same) (omega arith)
      ]

  distinct_more : ((o t : ℕ) → m ≤ o → o < m + k → m ≤ t → t < m + k → (op' o).key ≡ (op' t).key → o ≡ t) → (o t : ℕ) → o < m + k → t < m + k → event_of' o ≡ event_of' t → (op' o).key ≡ (op' t).key → o ≡ t
  distinct_more apart o t lt lt' events keys =
      elim (cases_lt o m) [
        | inl before ↦
            let a = event_of_stays o before in
            elim (cases_lt t m) [
              | inl before' ↦ is.distinct o t before before' (sym a ∙ events ∙ event_of_stays t before') (ap (λ (q : Op). q.key) (sym (op_stays o before)) ∙ keys ∙ ap (λ (q : Op). q.key) (op_stays t before'))
              | inr after' ↦
                  let b = its t after' lt' in
                  let below : event_of o < n = (is.placed o before).0 in
                  absurd (omega arith)
            ]
        | inr after ↦
            let a = its o after lt in
            elim (cases_lt t m) [
              | inl before' ↦
                  let b = event_of_stays t before' in
                  let below : event_of t < n = (is.placed t before').0 in
                  absurd (omega arith)
              | inr after' ↦ apart o t after lt after' lt' keys
            ]
      ]

  pub numbering_more : n < EVENTS → (0 < ts' n) × (ts' n ≤ LATEST) → (0 < k) × (k ≤ EVENT_OPS) → ((i : ℕ) → i < n → ts i < ts' n)
      → ((o t : ℕ) → m ≤ o → o < m + k → m ≤ t → t < m + k → (op' o).key ≡ (op' t).key → o ≡ t) → ((o : ℕ) → m ≤ o → o < m + k → IsShaped (op' o)) → IsNumbering (numbers (n + 1) ts' first' count') (m + k) event_of' op'
  numbering_more few time some later apart shaped = record {
    few = omega arith;
    times = λ i lt. elim (cases_lt i n) [
      | inl old ↦ subst (λ v. (0 < v) × (v ≤ LATEST)) (sym (ts_stay i old)) (is.times i old)
      | inr last ↦ let same : n ≡ i = omega arith in subst (λ v. (0 < ts' v) × (ts' v ≤ LATEST)) same time
    ];
    counts = λ i lt. elim (cases_lt i n) [
      | inl old ↦ subst (λ v. (0 < v) × (v ≤ EVENT_OPS)) (sym (count_stays i old)) (is.counts i old)
      | inr last ↦ let same : n ≡ i = omega arith in subst (λ v. (0 < count' v) × (count' v ≤ EVENT_OPS)) same (subst (λ v. (0 < v) × (v ≤ EVENT_OPS)) (sym count_is) some)
    ];
    placed = placed_more;
    owned = owned_more;
    in_order = in_order_more;
    rising = rising_more later;
    distinct = distinct_more apart;
    shaped = λ o lt. elim (cases_lt o m) [
      | inl old ↦ subst IsShaped (sym (op_stays o old)) (is.shaped o old)
      | inr new ↦ shaped o new lt
    ];
  }

-- the targets of an event's operations differ
distinct_keys : (ops : List Op) → IsDistinct same_key (map (λ op. op.key) ops) → (a b : ℕ) → a < length ops → b < length ops → (get_or ops a no_op).key ≡ (get_or ops b no_op).key → a ≡ b
distinct_keys ops apart a b lt lt' same =
    elim (cases_order a b) [
      | inl e ↦ e
      | inr r ↦ elim r [
        | inl less ↦ absurd (differ a b less lt' same)
        | inr more ↦ absurd (differ b a more lt (sym same))
      ]
    ]
  where
    key_at : (c : ℕ) → c < length ops → get_or (map (λ op. op.key) ops) c no_key ≡ (get_or ops c no_op).key
    key_at c h = get_or-map (λ op. op.key) ops c no_op no_key h

    differ : (c d : ℕ) → c < d → d < length ops → (get_or ops c no_op).key ≡ (get_or ops d no_op).key → ⊥
    differ c d less h e =
        same_key-false (get_or (map (λ op. op.key) ops) c no_key) (get_or (map (λ op. op.key) ops) d no_key)
        (apart_from_distinct same_key (map (λ op. op.key) ops) c d no_key apart less (omega (arith, length-map ops (λ op. op.key))))
        (key_at c (omega arith) ∙ e ∙ sym (key_at d h))

-- the transaction of an event does not change with the operations after it
same_among : (x : NumberedTxns) (is : IsTxns x) (more : List Op) (i : ℕ) → i < txn_count x → transaction_among (txn_ops x ++ more) (txn_at x i) ≡ transaction_among (txn_ops x) (txn_at x i)
same_among x is more i lt =
    let e = txn_at x i in
    let end = txn_end x is i lt in
    let made : List Op → Transaction = λ ops. record { ts = e.ts; ops = ops } in
    ap made (ap (take e.count) (drop-append-le e.first (txn_ops x) more (omega arith)) ∙ take-append-le e.count (drop e.first (txn_ops x)) more (omega (arith, length-drop e.first (txn_ops x))))

module _ (es : List Transaction) (x x' : NumberedTxns) (t : Transaction) (so_far : IsSplitOf es x)
    (events_are : x'.events ≡ x.events ++ record { ts = t.ts; first = txn_op_count x; count = length t.ops } ∷ [])
    (ops_are : (txn_ops x') ≡ (txn_ops x) ++ t.ops)
    (numbers_are : x'.event_of ≡ x.event_of ++ replicate (length t.ops) (txn_count x)) where
  abbrev pub new_event : TxnEvent
  new_event = record { ts = t.ts; first = txn_op_count x; count = length t.ops }

  event_stays : (i : ℕ) → i < txn_count x → txn_at x' i ≡ txn_at x i
  event_stays i lt = ap (λ items. get_or items i no_txn) events_are ∙ get_or_append_left x.events (new_event ∷ []) no_txn i lt

  event_is : txn_at x' (txn_count x) ≡ new_event
  event_is = ap (λ items. get_or items (txn_count x) no_txn) events_are ∙ get_or_push x.events new_event no_txn (txn_count x) refl

  number_stays : (o : ℕ) → o < txn_op_count x → txn_of x' o ≡ txn_of x o
  number_stays o lt =
      let many : length x.event_of ≡ txn_op_count x = so_far.txns.events_of in
      ap (λ items. get_or items o 0) numbers_are ∙ get_or_append_left x.event_of (replicate (length t.ops) (txn_count x)) 0 o (omega arith)

  number_is : (o : ℕ) → txn_op_count x ≤ o → o < txn_op_count x + length t.ops → txn_of x' o ≡ txn_count x
  number_is o from below =
      ap (λ items. get_or items o 0) numbers_are ∙ get_or-append_right x.event_of (replicate (length t.ops) (txn_count x)) (txn_op_count x) o 0 so_far.txns.events_of from ∙ get_or-replicate (length t.ops) (o - txn_op_count x) (txn_count x) 0 (omega arith)

  op_stays : (o : ℕ) → o < txn_op_count x → txn_op_at x' o ≡ txn_op_at x o
  op_stays o lt = ap (λ items. get_or items o no_op) ops_are ∙ get_or_append_left (txn_ops x) t.ops no_op o lt

  op_is : (o : ℕ) → txn_op_count x ≤ o → txn_op_at x' o ≡ get_or t.ops (o - txn_op_count x) no_op
  op_is o from = ap (λ items. get_or items o no_op) ops_are ∙ get_or-append_right (txn_ops x) t.ops (txn_op_count x) o no_op refl from

  later_than : (d : Transaction) → ((i : ℕ) → i < length es → (get_or es i d).ts < t.ts) → (i : ℕ) → i < txn_count x → (txn_at x i).ts < t.ts
  later_than d before i lt =
      let many : txn_count x ≡ length es = sym (length-map x.events (transaction_among (txn_ops x))) ∙ ap length so_far.transactions in
      let at : get_or es i d ≡ transaction_among (txn_ops x) (txn_at x i) = ap (λ items. get_or items i d) (sym so_far.transactions) ∙ get_or-map (transaction_among (txn_ops x)) x.events i no_txn d lt in
      subst (λ (e : Transaction). e.ts < t.ts) at (before i (omega arith))

  numbering_is : length es < EVENTS → IsTransaction t → (d : Transaction) → ((i : ℕ) → i < length es → (get_or es i d).ts < t.ts)
      → IsNumbering (numbers (txn_count x + 1) (λ i. (txn_at x' i).ts) (λ i. (txn_at x' i).first) (λ i. (txn_at x' i).count)) (txn_op_count x + length t.ops) (txn_of x') (txn_op_at x')
  numbering_is few valid d before =
      let n : ℕ = txn_count x in
      let m : ℕ = txn_op_count x in
      let k : ℕ = length t.ops in
      let many : n ≡ length es = sym (length-map x.events (transaction_among (txn_ops x))) ∙ ap length so_far.transactions in
      let ts_is : (txn_at x' n).ts ≡ t.ts = ap (λ e. e.ts) event_is in
      numbering_more n m k (λ i. (txn_at x i).ts) (λ i. (txn_at x i).first) (λ i. (txn_at x i).count) (txn_of x) (λ i. (txn_at x' i).ts) (λ i. (txn_at x' i).first) (λ i. (txn_at x' i).count) (txn_of x') (txn_op_at x) (txn_op_at x') so_far.txns.numbering
      (λ i lt. ap (λ e. e.ts) (event_stays i lt)) (λ i lt. ap (λ e. e.first) (event_stays i lt)) (λ i lt. ap (λ e. e.count) (event_stays i lt)) number_stays op_stays (ap (λ e. e.first) event_is) (ap (λ e. e.count) event_is) number_is
      (omega arith) (subst (λ v. (0 < v) × (v ≤ LATEST)) (sym ts_is) (valid.after_start, valid.latest)) (valid.some, valid.few) (λ i lt. subst (λ v. (txn_at x i).ts < v) (sym ts_is) (later_than d before i lt))
      (λ o u from below from' below' keys. let same = distinct_keys t.ops valid.distinct (o - m) (u - m) (omega arith) (omega arith) (ap (λ (q : Op). q.key) (sym (op_is o from)) ∙ keys ∙ ap (λ (q : Op). q.key) (op_is u from')) in omega arith)
      (λ o from below. subst IsShaped (sym (op_is o from)) (valid.shaped (o - m) no_op (omega arith)))

  pub split_more : All (λ (op : Op). op.high ≡ high_in (txn_ops x')) (txn_ops x') → length es < EVENTS → IsTransaction t → (d : Transaction) → ((i : ℕ) → i < length es → (get_or es i d).ts < t.ts) → IsSplitOf (es ++ t ∷ []) x'
  split_more alike few valid d before =
      let old : List Transaction = map (transaction_among (txn_ops x')) x.events in
      let whole : (ops : List Op) → ops ≡ t.ops → record { ts = t.ts; ops = ops } ≡ t = λ ops e. ap (λ ops. record { ts = t.ts; ops = ops }) e in
      record {
        txns = record {
          numbering = subst (λ n. IsNumbering (numbers n (λ i. (txn_at x' i).ts) (λ i. (txn_at x' i).first) (λ i. (txn_at x' i).count)) (txn_op_count x') (txn_of x') (txn_op_at x')) (sym (ap length events_are ∙ length_push x.events new_event))
              (subst (λ m. IsNumbering (numbers (txn_count x + 1) (λ i. (txn_at x' i).ts) (λ i. (txn_at x' i).first) (λ i. (txn_at x' i).count)) m (txn_of x') (txn_op_at x')) (sym (ap length ops_are ∙ length-append (txn_ops x) t.ops)) (numbering_is few valid d before));
          events_of = ap length numbers_are ∙ length-append x.event_of (replicate (length t.ops) (txn_count x)) ∙ omega (arith, so_far.txns.events_of, length-replicate (length t.ops) (txn_count x), ap length ops_are, length-append (txn_ops x) t.ops);
          alike = alike;
        };
        transactions = ap (map (transaction_among (txn_ops x'))) events_are ∙ map_push (transaction_among (txn_ops x')) x.events new_event
            ∙ ap (λ ts. ts ++ transaction_among (txn_ops x') new_event ∷ []) (ap (λ ops. map (transaction_among ops) x.events) ops_are ∙ map-agree (transaction_among (txn_ops x ++ t.ops)) (transaction_among (txn_ops x)) x.events no_txn (same_among x so_far.txns t.ops) ∙ so_far.transactions)
            ∙ ap (λ (e : Transaction). es ++ e ∷ []) (ap (λ ops. transaction_among ops new_event) ops_are ∙ whole (take (length t.ops) (drop (txn_op_count x) (txn_ops x ++ t.ops))) (ap (take (length t.ops)) (drop_at (txn_ops x) t.ops (txn_op_count x) refl) ∙ take_all (length t.ops) t.ops (omega arith)));
      }

-- no transaction, no event and no operation
pub split_none : (x : NumberedTxns) → x.events ≡ [] → (txn_ops x) ≡ [] → x.event_of ≡ [] → IsSplitOf [] x
split_none x events ops numbers =
    let no_event : txn_count x ≡ 0 = ap length events in
    let no_ops : txn_op_count x ≡ 0 = ap length ops in
    record {
      txns = record {
        numbering = record {
          few = omega arith;
          times = λ i lt. absurd (omega arith);
          counts = λ i lt. absurd (omega arith);
          placed = λ o lt. absurd (omega arith);
          owned = λ i o lt within. absurd (omega arith);
          in_order = λ o u le lt. absurd (omega arith);
          rising = λ i j less lt. absurd (omega arith);
          distinct = λ o u lt lt' its keys. absurd (omega arith);
          shaped = λ o lt. absurd (omega arith);
        };
        events_of = ap length numbers ∙ sym no_ops;
        alike = subst (λ ops. All (λ (op : Op). op.high ≡ high_in ops) ops) (sym ops) (All-nil (λ (op : Op). op.high ≡ high_in []));
      };
      transactions = ap (map (transaction_among (txn_ops x))) events;
    }

-- where all operations have the greatest value of a batch, they have that of the first of them
pub alike_first : (high : ℕ) (ops : List Op) → All (λ (op : Op). op.high ≡ high) ops → All (λ (op : Op). op.high ≡ high_in ops) ops
alike_first high [] all = All-nil (λ (op : Op). op.high ≡ high_in [])
alike_first high (op ∷ ops) all = All-weaker (λ (o : Op). o.high ≡ high) (λ (o : Op). o.high ≡ op.high) (λ o is. is ∙ sym (All-head (λ (o : Op). o.high ≡ high) op ops all)) (op ∷ ops) all
