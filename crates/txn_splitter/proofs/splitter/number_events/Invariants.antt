use Rattle.std.proofs.Common.{◌≡◌, ◌+◌, length, take}
use Rattle.morph_base.specs.Transactions.{transactions_of, by_time}
use Rattle.morph_base.proofs.RunLaws.{ops_along}
use Rattle.txn_splitter.specs.Txns.{IsSplitOf}
use Rattle.txn_splitter.specs.TxnViews.{numbered}
use Rattle.txn_splitter.proofs.splitter.number_events.Given as goal

abbrev pub invariant-loop-i : goal.invariant-loop-i
invariant-loop-i l = record {
  room : l.events.room + l.i ≡ length (transactions_of l.batch);
  first : l.first ≡ length (ops_along (take l.i (by_time (transactions_of l.batch))));
  so_far : IsSplitOf (take l.i (by_time (transactions_of l.batch))) (numbered l.events.items (ops_along (take l.i (by_time (transactions_of l.batch)))));
}
