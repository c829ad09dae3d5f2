use Rattle.std.proofs.Common.{◌≡◌, ℕ, ◌+◌, ◌<◌, ◌≤◌, List, [], ◌∷◌, ◌++◌, All, length, get_or, take, replicate, refl, sym, ap, subst, ◌∙◌, arith}
use Rattle.std.proofs.lemmas.List.{length-take, length-append, get_or-take, get_or_default, take_more, take_all}
use Rattle.std.proofs.lemmas.List.Elements.{All-take}
use Rattle.morph_base.specs.declared.limits.TheConstants.{EVENTS, EVENT_OPS}
use Rattle.morph_base.specs.declared.batch.Batch.{Batch}
use Rattle.morph_base.specs.declared.operation.Op.{Op}
use Rattle.morph_base.specs.Transactions.{high_of_all, no_transaction, Transaction, IsBatch, IsTransaction, transactions_of, by_time}
use Rattle.morph_base.proofs.RunLaws.{ops_along}
use Rattle.txn_splitter.specs.declared.txn_events.TxnEvent.{TxnEvent}
use Rattle.txn_splitter.specs.Txns.{NumberedTxns, IsSplitOf}
use Rattle.txn_splitter.specs.TxnViews.{event_numbers, in_order, numbered}
use Rattle.txn_splitter.proofs.TxnLemmas.{txn_ops_few}
use Rattle.txn_splitter.proofs.OrderLemmas.{order_few, order_length, order_valid, order_alike, order_rises}
use Rattle.txn_splitter.proofs.SplitLemmas.{split_none, split_more, alike_first}
use Rattle.txn_splitter.proofs.ViewLemmas.{ops_along_push, event_numbers_push, all_along}
use Rattle.txn_splitter.proofs.splitter.number_events.Goals as goal

pub loop-i-init : goal.loop-i-init
loop-i-init c = record {
  room = omega (arith, c.in_ok-events.ensures.room, c.len.ensures);
  first = refl;
  so_far = split_none _ c.in_ok-events.ensures.items refl (ap (event_numbers 0) c.in_ok-events.ensures.items);
}

pub event-ts-requires : goal.event-ts-requires
event-ts-requires c =
    omega (arith, c.loop-i-test.true, c.len-i-end.ensures, order_length (transactions_of c.args.batch.now) c.requires.batch, ap length c.requires.order)

-- an event has few operations
few_ops : (batch : Batch) (is : IsBatch batch) (ts : List Transaction) (i n : ℕ) → ts ≡ by_time (transactions_of batch) → i < length ts
    → n ≡ length (get_or ts i no_transaction).ops → n ≤ EVENT_OPS
few_ops batch is ts i n order lt many =
    let valid : IsTransaction (get_or ts i no_transaction) = subst (All IsTransaction) (sym order) (order_valid (transactions_of batch) is) i no_transaction lt in
    omega (arith, many, valid.few)

pub overflow_cast-count : goal.overflow_cast-count
overflow_cast-count c =
    let few = few_ops c.args.batch.now c.requires.batch (in_order c.args.order.now) c.loop-i.i c.event-ts.result.1 c.requires.order
    (omega (arith, c.loop-i-test.true, c.len-i-end.ensures, order_length (transactions_of c.args.batch.now) c.requires.batch, ap length c.requires.order)) c.event-ts.ensures.count in
    omega (arith, few)

pub overflow_add-first : goal.overflow_add-first
overflow_add-first c =
    let few = few_ops c.args.batch.now c.requires.batch (in_order c.args.order.now) c.loop-i.i c.event-ts.result.1 c.requires.order
    (omega (arith, c.loop-i-test.true, c.len-i-end.ensures, order_length (transactions_of c.args.batch.now) c.requires.batch, ap length c.requires.order)) c.event-ts.ensures.count in
    omega (arith, few, c.loop-i.invariant.first, txn_ops_few _ c.loop-i.invariant.so_far.txns)

pub loop-i-preserved : goal.loop-i-preserved
loop-i-preserved c =
    let batch = c.requires.batch in
    let es : List Transaction = by_time (transactions_of c.args.batch.now) in
    let i : ℕ = c.loop-i.i in
    let t : Transaction = get_or es i no_transaction in
    let lt : i < length es = omega (arith, c.loop-i-test.true, c.len-i-end.ensures, order_length _ batch) in
    let valid : IsTransaction t = order_valid _ batch i no_transaction lt in
    let ts : c.event-ts.result.0 ≡ t.ts = c.event-ts.ensures.ts ∙ ap (λ (fs : List Transaction). (get_or fs i no_transaction).ts) c.requires.order in
    let count : c.event-ts.result.1 ≡ length t.ops = c.event-ts.ensures.count ∙ ap (λ (fs : List Transaction). length (get_or fs i no_transaction).ops) c.requires.order in
    let few : length (take i es) < EVENTS = omega (arith, length-take i es, order_few _ batch) in
    let before : (k : ℕ) → k < length (take i es) → (get_or (take i es) k t).ts < t.ts = λ k lt'.
    let less : k < i = omega (arith, length-take i es) in
    let earlier : (get_or es k no_transaction).ts < (get_or es i no_transaction).ts = order_rises _ batch k i no_transaction less lt in
    subst (λ (v : ℕ). v < t.ts) (sym (ap (λ (e : Transaction). e.ts) (get_or-take i es k t less ∙ get_or_default es k t no_transaction (omega arith)))) earlier in
    let old : List Op = ops_along (take i es) in
    let x : NumberedTxns = numbered c.loop-i.events.items old in
    let more : NumberedTxns = numbered c.add.new.self.items (ops_along (take (i + 1) es)) in
    let next_es : take (i + 1) es ≡ take i es ++ t ∷ [] = take_more es i no_transaction lt in
    let new_event : TxnEvent = record { ts = t.ts; first = length x.ops; count = length t.ops } in
    let events_are : more.events ≡ x.events ++ new_event ∷ [] =
    c.add.ensures.items ∙ ap (λ (n : ℕ). x.events ++ record { ts = c.event-ts.result.0; first = c.loop-i.first; count = n } ∷ []) count
    ∙ ap (λ (n : ℕ). x.events ++ record { ts = n; first = c.loop-i.first; count = length t.ops } ∷ []) ts
    ∙ ap (λ (first : ℕ). x.events ++ record new_event { first = first } ∷ []) c.loop-i.invariant.first in
    let ops_are : more.ops ≡ x.ops ++ t.ops = ap ops_along next_es ∙ ops_along_push (take i es) t in
    let numbers_are : more.event_of ≡ x.event_of ++ replicate (length t.ops) (length x.events) =
    ap (event_numbers 0) events_are ∙ event_numbers_push 0 x.events new_event
    ∙ ap (λ n. x.event_of ++ replicate (length t.ops) n) (omega arith) in
    let high : ℕ = high_of_all (transactions_of c.args.batch.now) in
    let alike : All (λ (op : Op). op.high ≡ high) more.ops =
    all_along (λ (op : Op). op.high ≡ high) (take (i + 1) es)
    (All-take (λ (e : Transaction). All (λ (op : Op). op.high ≡ high) e.ops) (i + 1) es (order_alike _ batch)) in
    record {
      room = omega (arith, c.add.ensures.room, c.loop-i.invariant.room);
      first = omega (arith, count, c.loop-i.invariant.first, ap length ops_are, length-append x.ops t.ops);
      so_far = subst (λ ts. IsSplitOf ts more) (sym next_es)
          (split_more (take i es) x more t c.loop-i.invariant.so_far events_are ops_are numbers_are (alike_first _ _ alike) few valid t before);
    }

pub returns : goal.returns
returns c =
    let es : List Transaction = by_time (transactions_of c.args.batch.now) in
    let many : length es ≤ c.loop-i.i = omega (arith, c.loop-i-test.false, c.len-i-end.ensures, order_length _ c.requires.batch) in
    subst (λ ts. IsSplitOf ts (numbered c.loop-i.events.items (ops_along ts))) (take_all c.loop-i.i es many) c.loop-i.invariant.so_far
