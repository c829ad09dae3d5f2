use Rattle.std.proofs.Common.{◌≡◌}
use Rattle.op_words.specs.Hands.{IsHandOf}
use Rattle.op_eval.specs.Running.{hand_view}
use Rattle.abort_lazy.proofs.run.level.await_event.Given as goal

abbrev pub invariant-loop-op : goal.invariant-loop-op
invariant-loop-op l =
    IsHandOf l.board l.runner.hand × (hand_view l.runner ≡ hand_view l.fn.runner) × (l.runner.answers ≡ l.fn.runner.answers)
    × (l.runner.kept ≡ l.fn.runner.kept)
