use Rattle.std.specs.Prelude.{ℕ, ◌*◌, ◌≤◌}
use Rattle.op_eval.specs.Exploring.{Unused}
use Rattle.op_eval.specs.Running.{IsFreeRunner}
use Rattle.abort_eager.specs.Grounds.{ground_rules}
use Rattle.strata_explorer.specs.Parts.{GoesOver}
use Rattle.strata_explorer.proofs.levels.Climber.go_over.Given as goal

abbrev pub invariant-loop-level : goal.invariant-loop-level
invariant-loop-level g l =
    IsFreeRunner l.self.ground.now.board.now l.runner
    × GoesOver (ground_rules l.self.ground.now) l.self.shares l.self.number l.level l.fn.runner l.runner
    × ((c : ℕ) → l.level * l.self.shares.parts ≤ c → Unused c l.runner)
