-- Inside the crate: events in an order, and events with operations as what contracts see of a split batch
use Rattle.std.specs.Prelude.{ℕ, suc, List, [], ◌∷◌, ◌++◌, map, replicate}
use Rattle.morph_base.specs.declared.operation.Op.{Op}
use Rattle.morph_base.specs.Transactions.{Transaction, transaction_of, transactions_of}
use Rattle.txn_splitter.specs.declared.order.Order.{Order}
use Rattle.txn_splitter.specs.declared.order.Order.TheVariants.{AsTheyCame, Sorted}
use Rattle.txn_splitter.specs.declared.txn_events.TxnEvent.{TxnEvent}
use Rattle.txn_splitter.specs.Txns.{NumberedTxns}

-- The events in this order, as transactions
abbrev pub in_order : Order → List Transaction
in_order (AsTheyCame batch) = transactions_of batch.now
in_order (Sorted events) = map transaction_of events.items

-- For each operation of the events, the number of its event, if they are numbered from i on
abbrev pub event_numbers : ℕ → List TxnEvent → List ℕ
event_numbers i [] = []
event_numbers i (e ∷ es) = replicate e.count i ++ event_numbers (suc i) es

-- Some events with these operations
abbrev pub numbered : List TxnEvent → List Op → NumberedTxns
numbered events ops = record { events = events; ops = ops; event_of = event_numbers 0 events }
