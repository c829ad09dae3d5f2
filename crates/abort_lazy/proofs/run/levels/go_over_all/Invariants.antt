use Rattle.worker_gate.specs.Stages.{InStages}
use Rattle.abort_lazy.specs.Runs.{IsSettling, WasAtLevel}
use Rattle.abort_lazy.proofs.run.levels.go_over_all.Given as goal

abbrev pub invariant-loop-level : goal.invariant-loop-level
invariant-loop-level l =
    InStages (WasAtLevel l.levels.board.now l.levels.plan.now l.levels.from l.levels.shares l.number) l.level l.fn.runner l.runner
    × IsSettling l.levels.board.now l.levels.plan.now l.levels.from l.levels.shares.parts l.level l.fn.runner l.runner
