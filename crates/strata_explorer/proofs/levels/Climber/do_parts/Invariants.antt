use Rattle.op_eval.specs.Running.{IsFreeRunner}
use Rattle.abort_eager.specs.Grounds.{ground_rules}
use Rattle.worker_gate.specs.Stages.{InStages}
use Rattle.strata_explorer.specs.Parts.{DoesTurn}
use Rattle.strata_explorer.proofs.Going.{IsUnusedFrom}
use Rattle.strata_explorer.proofs.levels.Climber.do_parts.Given as goal

abbrev pub invariant-loop-turn : goal.invariant-loop-turn
invariant-loop-turn g l =
    IsFreeRunner l.self.ground.now.board.now l.runner
    × InStages (DoesTurn (ground_rules l.self.ground.now) l.self.shares l.self.number l.level) l.turn l.fn.runner l.runner
    × IsUnusedFrom l.self.shares l.self.number l.level l.turn l.runner
