use Rattle.std.proofs.Common.{◌*◌, ◌≤◌, ℕ, []}
use Rattle.op_words.specs.Hands.{IsHandOf}
use Rattle.abort_lazy.specs.Sweeps.{IsSweeping}
use Rattle.abort_lazy.proofs.run.level.go_over.Given as goal

-- each turn took at least one number, and at most 16
abbrev pub invariant-loop-turn : goal.invariant-loop-turn
invariant-loop-turn l =
    IsHandOf l.sweep.board.now l.runner.hand
    × ((taken : ℕ) × (next : ℕ) × (l._turn ≤ taken) × (taken ≤ 16 * l._turn) × IsSweeping l.sweep.plan.now l.sweep.counter l.sweep.events.now taken next [] l.fn.runner l.runner)
