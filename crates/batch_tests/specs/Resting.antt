-- Runners that hold nothing
use Rattle.std.specs.Prelude.{◌≡◌}
use Rattle.op_words.specs.declared.board.Board.{Board}
use Rattle.op_eval.specs.declared.runner.Runner.{Runner}
use Rattle.op_eval.specs.Running.{hand_view, IsFreeRunner}

-- The runner holds nothing, and its hand has the tag that it had
pub record StaysAtRest (b : Board) (before after : Runner) : Type 0 where
  pub rest : IsFreeRunner b after
  pub tag : (hand_view after).tag ≡ (hand_view before).tag
