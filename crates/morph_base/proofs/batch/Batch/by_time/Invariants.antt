use Rattle.std.proofs.Common.{◌≡◌, map, take}
use Rattle.morph_base.specs.Transactions.{transaction_of, transactions_of}
use Rattle.morph_base.proofs.batch.Batch.by_time.Given as goal

-- the events so far are there, in order of arrival
abbrev pub invariant-arrived : goal.invariant-arrived
invariant-arrived l = map transaction_of l.events.items ≡ take l.i (transactions_of l.self)
