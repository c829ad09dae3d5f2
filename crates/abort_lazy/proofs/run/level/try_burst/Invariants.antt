use Rattle.std.proofs.Common.{◌+◌, ◌≤◌, ℕ, drop, length}
use Rattle.op_eval.specs.declared.runner.Runner.{Runner}
use Rattle.op_eval.specs.Running.{IsFreeRunner}
use Rattle.abort_lazy.specs.Sweeps.{IsSweeping}
use Rattle.abort_lazy.proofs.run.level.try_burst.Given as goal

abbrev pub invariant-loop-i : goal.invariant-loop-i
invariant-loop-i l =
    IsFreeRunner l.sweep.board.now l.runner × (length l.burst.numbers ≤ l.runner.kept.room + l.i)
    × ((taken next : ℕ) (start : Runner) → IsSweeping l.sweep.plan.now l.sweep.counter l.sweep.events.now taken next l.burst.numbers start l.fn.runner
    → IsSweeping l.sweep.plan.now l.sweep.counter l.sweep.events.now taken next (drop l.i l.burst.numbers) start l.runner)
