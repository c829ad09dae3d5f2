use Rattle.std.proofs.Common.{map, take, nat_eq}
use Rattle.std.specs.List.{IsDistinct}
use Rattle.morph_base.specs.Transactions.{time, transactions_of}
use Rattle.morph_base.proofs.validity.times_differ.Given as goal

abbrev pub invariant-events : goal.invariant-events
invariant-events l = IsDistinct nat_eq (map time (take l.i (transactions_of l.batch)))
