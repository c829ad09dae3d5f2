use Rattle.std.proofs.Common.{refl, subst, arith}
use Rattle.morph_base.specs.Transactions.{IsTransaction, no_transaction, transactions_of}
use Rattle.morph_base.proofs.BatchLaws.{all_more, all_of_them}
use Rattle.morph_base.proofs.validity.are_transactions.Goals as goal

pub events-preserved : goal.events-preserved
events-preserved c =
    all_more IsTransaction (transactions_of c.args.batch.now) c.events.i no_transaction (omega (arith, c.events-test.true, c.len-i-end.ensures)) c.events.invariant
    (subst IsTransaction c.event.ensures (c.is_transaction.ensures.0 c.if-not-is_transaction.false))

pub returns : goal.returns
returns c = (
  λ yes. all_of_them IsTransaction (transactions_of c.args.batch.now) c.events.i (omega (arith, c.events-test.false, c.len-i-end.ensures)) c.events.invariant,
  λ all. refl,
)
