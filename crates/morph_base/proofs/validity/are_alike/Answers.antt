use Rattle.std.proofs.Common.{refl, subst, arith, All}
use Rattle.morph_base.specs.Transactions.{HasHigh, no_transaction, transactions_of}
use Rattle.morph_base.proofs.BatchLaws.{all_more, all_of_them}
use Rattle.morph_base.proofs.validity.are_alike.Goals as goal

pub events-preserved : goal.events-preserved
events-preserved c =
    let high = c.high_of-high.result in
    all_more (HasHigh high) (transactions_of c.args.batch.now) c.events.i no_transaction (omega (arith, c.events-test.true, c.len-i-end.ensures)) c.events.invariant
    (subst (HasHigh high) c.event.ensures (c.has_high.ensures.0 c.if-not-has_high.false))

pub returns : goal.returns
returns c = (
  λ yes.
      subst (λ h. All (HasHigh h) (transactions_of c.args.batch.now)) c.high_of-high.ensures
      (all_of_them (HasHigh c.high_of-high.result) (transactions_of c.args.batch.now) c.events.i (omega (arith, c.events-test.false, c.len-i-end.ensures)) c.events.invariant),
  λ all. refl,
)
