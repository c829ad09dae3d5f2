use Rattle.worker_gate.specs.Stages.{InStages}
use Rattle.abort_lazy.specs.Levels.{IsAmid}
use Rattle.abort_lazy.specs.Runs.{WasAtTurn}
use Rattle.abort_lazy.proofs.run.levels.go_over_level.Given as goal

abbrev pub invariant-loop-turn : goal.invariant-loop-turn
invariant-loop-turn l =
    InStages (WasAtTurn l.levels.board.now l.levels.plan.now l.levels.from l.levels.shares l.number l.level) l.turn l.fn.runner l.runner
    × IsAmid l.levels.board.now l.levels.plan.now l.levels.from l.levels.shares l.number l.level l.turn l.fn.runner l.runner
