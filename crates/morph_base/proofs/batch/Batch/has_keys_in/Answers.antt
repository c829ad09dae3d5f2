use Rattle.std.proofs.Common.{refl, subst, arith}
use Rattle.morph_base.specs.Transactions.{HasKeysIn, no_transaction, transactions_of}
use Rattle.morph_base.proofs.BatchLaws.{all_more, all_of_them}
use Rattle.morph_base.proofs.batch.Batch.has_keys_in.Goals as goal

pub events-preserved : goal.events-preserved
events-preserved c =
    all_more (HasKeysIn c.args.layout) (transactions_of c.args.self.now) c.events.i no_transaction (omega (arith, c.events-test.true, c.len-i-end.ensures)) c.events.invariant
    (subst (HasKeysIn c.args.layout) c.event.ensures (c.has_keys_in.ensures.0 c.if-not-has_keys_in.false))

pub returns : goal.returns
returns c = (
  λ yes. all_of_them (HasKeysIn c.args.layout) (transactions_of c.args.self.now) c.events.i (omega (arith, c.events-test.false, c.len-i-end.ensures)) c.events.invariant,
  λ all. refl,
)
