use Rattle.std.proofs.Common.{◌≡◌, ◌++◌, take}
use Rattle.txn_splitter.proofs.splitter.add_all.Given as goal

abbrev pub invariant-loop-i : goal.invariant-loop-i
invariant-loop-i l = l.rows ≡ l.initial.rows ++ take l.i l.ops
