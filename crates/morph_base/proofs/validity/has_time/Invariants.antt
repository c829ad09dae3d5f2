use Rattle.std.proofs.Common.{◌≡◌, false, map, take, nat_eq}
use Rattle.std.specs.List.{list_any}
use Rattle.morph_base.specs.Transactions.{time, transactions_of}
use Rattle.morph_base.proofs.validity.has_time.Given as goal

-- none of the events so far has the time
abbrev pub invariant-events : goal.invariant-events
invariant-events l = list_any (nat_eq l.ts) (map time (take l.i (transactions_of l.batch))) ≡ false
