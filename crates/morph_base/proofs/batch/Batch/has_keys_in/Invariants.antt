use Rattle.std.proofs.Common.{All, take}
use Rattle.morph_base.specs.Transactions.{HasKeysIn, transactions_of}
use Rattle.morph_base.proofs.batch.Batch.has_keys_in.Given as goal

abbrev pub invariant-events : goal.invariant-events
invariant-events l = All (HasKeysIn l.layout) (take l.i (transactions_of l.self))
