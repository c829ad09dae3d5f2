-- What contracts see of a split batch with one event more, and its operations as those of the transactions by time.
use Rattle.std.proofs.Common.{All, ◌≡◌, ℕ, suc, ◌+◌, List, [], ◌∷◌, ◌++◌, length, map, replicate, append_assoc, refl, sym, ap, subst, ◌∙◌, arith}
use Rattle.std.specs.List.{flat_map}
use Rattle.std.proofs.lemmas.List.{append-nil}
use Rattle.std.proofs.lemmas.List.Elements.{All-nil, All-append, All-head, All-tail}
use Rattle.std.proofs.lemmas.Grind.{flat_map-append}
use Rattle.morph_base.specs.declared.event.Event.{Event}
use Rattle.morph_base.specs.declared.operation.Op.{Op}
use Rattle.morph_base.specs.Transactions.{Transaction, transaction_of}
use Rattle.morph_base.proofs.RunLaws.{ops_along}
use Rattle.txn_splitter.specs.declared.txn_events.TxnEvent.{TxnEvent}
use Rattle.txn_splitter.specs.Txns.{NumberedTxns, IsSplitOf, txn_ops}
use Rattle.txn_splitter.specs.TxnViews.{event_numbers, numbered}

pub ops_along_push : (es : List Transaction) (e : Transaction) → ops_along (es ++ e ∷ []) ≡ ops_along es ++ e.ops
ops_along_push es e =
    flat_map-append (λ (f : Transaction). f.ops) es (e ∷ []) ∙ ap (λ ops. ops_along es ++ ops) (append-nil e.ops)

-- the operations of some events are those of the transactions that they are
pub of_events : (events : List Event) → flat_map (λ (e : Event). e.ops) events ≡ ops_along (map transaction_of events)
of_events [] = refl
of_events (e ∷ events) = ap (λ ops. e.ops ++ ops) (of_events events)

-- what holds of the operations of each transaction holds of all operations
pub all_along : (P : Op → Type 0) (es : List Transaction) → All (λ (e : Transaction). All P e.ops) es → All P (ops_along es)
all_along P [] all = All-nil P
all_along P (e ∷ es) all =
    All-append P e.ops (ops_along es) (All-head (λ (e : Transaction). All P e.ops) e es all) (all_along P es (All-tail (λ (e : Transaction). All P e.ops) e es all))

pub event_numbers_push : (i : ℕ) (es : List TxnEvent) (e : TxnEvent)
    → event_numbers i (es ++ e ∷ []) ≡ event_numbers i es ++ replicate e.count (i + length es)
event_numbers_push i [] e = append-nil (replicate e.count i) ∙ ap (replicate e.count) (omega arith)
event_numbers_push i (f ∷ es) e =
    let numbers : ℕ → List ℕ =
    λ j. replicate f.count i ++ (event_numbers (suc i) es ++ replicate e.count j) in
    let same : suc i + length es ≡ i + length (f ∷ es) = omega arith in
    ap (λ rest. replicate f.count i ++ rest) (event_numbers_push (suc i) es e) ∙ ap numbers same
    ∙ sym (append_assoc (replicate f.count i) (event_numbers (suc i) es) (replicate e.count (i + length (f ∷ es))))

-- events with these operations are a split of the transactions
pub split_as : (es : List Transaction) (events : List TxnEvent) (ops : List Op) (x : NumberedTxns) → IsSplitOf es (numbered events (ops_along es)) → ops ≡ ops_along es → x ≡ numbered events ops → IsSplitOf es x
split_as es events ops x is same made =
    subst (IsSplitOf es) (sym made) (subst (λ (os : List Op). IsSplitOf es (numbered events os)) (sym same) is)

-- what holds of the operations of each transaction holds of those of the split
pub all_as : (P : Op → Type 0) (es : List Transaction) (events : List TxnEvent) (ops : List Op) (x : NumberedTxns) → All (λ (e : Transaction). All P e.ops) es → ops ≡ ops_along es → x ≡ numbered events ops → All P (txn_ops x)
all_as P es events ops x each same made =
    subst (All P) (sym (ap txn_ops made ∙ same)) (all_along P es each)
