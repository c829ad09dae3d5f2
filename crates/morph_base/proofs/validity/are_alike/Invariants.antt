use Rattle.std.proofs.Common.{All, take}
use Rattle.morph_base.specs.Transactions.{HasHigh, transactions_of}
use Rattle.morph_base.proofs.validity.are_alike.Given as goal

abbrev pub invariant-events : goal.invariant-events
invariant-events l = All (HasHigh l.high) (take l.i (transactions_of l.batch))
