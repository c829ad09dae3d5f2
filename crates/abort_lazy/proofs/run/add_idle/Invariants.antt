use Rattle.std.specs.Prelude.{◌≡◌, ◌+◌}
use Rattle.op_words.specs.Hands.{view_of, IsHandOf}
use Rattle.abort_lazy.specs.Ended.{AddsEmpty}
use Rattle.abort_lazy.specs.Runs.{idled}
use Rattle.abort_lazy.proofs.run.add_idle.Given as goal

abbrev pub invariant-hands : goal.invariant-hands
invariant-hands l =
    IsHandOf l.board l.root × (view_of l.root ≡ idled l.counter (view_of l.fn.root))
    × AddsEmpty l.counter l.fn.left.items l.left.items × (l.left.room + l.counter ≡ l.fn.left.room)
