use Rattle.std.proofs.Common.{◌+◌, ◌≤◌, subst, sym}
use Rattle.txn_splitter.specs.declared.txn_events.TxnEvent.{TxnEvent}
use Rattle.txn_splitter.specs.Txns.{txn_op_count}
use Rattle.txn_splitter.proofs.TxnLemmas.{txn_end, txn_ops_few}
use Rattle.precedence_graph.proofs.transactions.event_at.Goals as goal

pub returns-clause-end : goal.returns-clause-end
returns-clause-end c =
    subst (λ (e : TxnEvent). e.first + e.count ≤ txn_op_count c.args.txns.now) (sym c.get.ensures) (txn_end c.args.txns.now c.requires.txns c.args.i c.requires.event)

pub returns-clause-few : goal.returns-clause-few
returns-clause-few c = txn_ops_few c.args.txns.now c.requires.txns
