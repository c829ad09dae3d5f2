use Rattle.std.specs.Prelude.{◌≡◌, sum_by, take}
use Rattle.op_words.specs.Hands.{up_to}
use Rattle.steal_explorer.proofs.Closing.{many_stolen}
use Rattle.steal_explorer.proofs.exploration.count_stolen.Given as goal

abbrev pub invariant-loop-k : goal.invariant-loop-k
invariant-loop-k l = l.total ≡ up_to (sum_by many_stolen (take l.k l.members))
