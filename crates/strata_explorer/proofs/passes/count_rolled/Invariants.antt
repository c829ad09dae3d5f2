use Rattle.std.specs.Prelude.{◌≡◌, All, sum_by, take}
use Rattle.op_words.specs.declared.board.Board.{Board}
use Rattle.op_words.specs.Hands.{up_to}
use Rattle.op_eval.specs.Running.{IsFreeRunner}
use Rattle.strata_explorer.proofs.Counting.{many_rolled}
use Rattle.strata_explorer.proofs.passes.count_rolled.Given as goal

abbrev pub invariant-loop-k : goal.invariant-loop-k
invariant-loop-k l = (b : Board) → All (IsFreeRunner b) l.runners → l.total ≡ up_to (sum_by many_rolled (take l.k l.runners))
