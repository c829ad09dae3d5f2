use Rattle.std.proofs.Common.{◌≡◌}
use Rattle.op_words.specs.Hands.{IsHandOf}
use Rattle.op_eval.specs.Running.{hand_view}
use Rattle.op_eval.proofs.patience.Patience.look.Given as goal

abbrev pub invariant-loop-self : goal.invariant-loop-self
invariant-loop-self l =
    IsHandOf l.board l.runner.hand × (hand_view l.runner ≡ hand_view l.initial.runner)
    × (l.runner.answers ≡ l.initial.runner.answers) × (l.runner.kept ≡ l.initial.runner.kept)

abbrev pub decreases-loop-self : goal.decreases-loop-self
decreases-loop-self l = l.self.looks
