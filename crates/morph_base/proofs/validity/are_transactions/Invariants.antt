use Rattle.std.proofs.Common.{All, take}
use Rattle.morph_base.specs.Transactions.{IsTransaction, transactions_of}
use Rattle.morph_base.proofs.validity.are_transactions.Given as goal

abbrev pub invariant-events : goal.invariant-events
invariant-events l = All IsTransaction (take l.i (transactions_of l.batch))
