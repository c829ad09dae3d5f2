-- A batch cut into numbered transactions: what its numbers name, when it is valid, and when it is that of a batch
use Rattle.std.specs.Prelude.{◌≡◌, ℕ, List, All, length, take, drop, map, slice_index, slice_index_or}
use Rattle.morph_base.specs.declared.key.Key.{Key}
use Rattle.morph_base.specs.declared.operation.Op.{Op}
use Rattle.morph_base.specs.declared.batch.Batch.{Batch}
use Rattle.morph_base.specs.Transactions.{Transaction, transactions_of, by_time}
use Rattle.morph_base.specs.Operations.{high_in}
use Rattle.morph_base.specs.Numbering.{numbers, EventNumbers, IsNumbering}
use Rattle.morph_base.specs.Plans.{no_op}
use Rattle.txn_splitter.specs.declared.txn_events.TxnEvent.{TxnEvent}

-- What contracts see of a split batch: the events, the operations of all events, and for each operation the number of
-- its event
pub record NumberedTxns : Type 0 where
  pub events : List TxnEvent
  pub ops : List Op
  pub event_of : List ℕ

-- The event past the end of a list
abbrev pub no_txn : TxnEvent
no_txn = record { ts = 0; first = 0; count = 0 }

-- The transaction of an event whose operations are among `ops`
abbrev pub transaction_among : List Op → TxnEvent → Transaction
transaction_among ops e = record { ts = e.ts; ops = take e.count (drop e.first ops) }

module _ (x : NumberedTxns) where
  -- How many events there are
  abbrev pub txn_count : ℕ
  txn_count = length x.events

  -- The operations, by event and then in operation order
  abbrev pub txn_ops : List Op
  txn_ops = x.ops

  -- How many operations there are
  abbrev pub txn_op_count : ℕ
  txn_op_count = length txn_ops

  -- The event with number i
  abbrev pub txn_at : ℕ → TxnEvent
  txn_at i = slice_index_or x.events i no_txn

  -- The operation with number o
  abbrev pub txn_op_at : ℕ → Op
  txn_op_at o = slice_index_or txn_ops o no_op

  -- The event of operation o
  abbrev pub txn_of : ℕ → ℕ
  txn_of o = slice_index x.event_of o

  -- The key that operation o changes
  abbrev pub txn_target : ℕ → Key
  txn_target o = (txn_op_at o).key

  -- The events as transactions
  abbrev pub txn_transactions : List Transaction
  txn_transactions = map (transaction_among txn_ops) x.events

-- The numbers of the events
abbrev pub txn_numbers : NumberedTxns → EventNumbers
txn_numbers x = numbers (txn_count x) (λ i. (txn_at x i).ts) (λ i. (txn_at x i).first) (λ i. (txn_at x i).count)

-- The events and operations are well numbered, with the number of its event for each operation
pub record IsTxns (x : NumberedTxns) : Type 0 where
  pub numbering : IsNumbering (txn_numbers x) (txn_op_count x) (txn_of x) (txn_op_at x)
  pub events_of : length x.event_of ≡ txn_op_count x
  -- All operations have one greatest value
  pub alike : All (λ op. op.high ≡ high_in (txn_ops x)) (txn_ops x)

-- The events are these transactions, in this order, and nothing else: each operation is one of an event's
pub record IsSplitOf (es : List Transaction) (x : NumberedTxns) : Type 0 where
  pub txns : IsTxns x
  pub transactions : txn_transactions x ≡ es

-- The events are the transactions of the batch by rising time
abbrev pub IsTxnsOf : Batch → NumberedTxns → Type 0
IsTxnsOf batch = IsSplitOf (by_time (transactions_of batch))
