use Rattle.std.specs.Prelude.{◌≡◌, ◌+◌, ◌≤◌, length}
use Rattle.op_words.specs.Hands.{view_of}
use Rattle.op_eval.proofs.Seating.{IsJoining}
use Rattle.op_eval.proofs.runners.join_all.Given as goal

abbrev pub invariant-joins : goal.invariant-joins
invariant-joins l =
    IsJoining l.board (view_of l.fn.root) l.fn.runners.items l.fn.left.items l.root l.runners.items l.left.items
    × (length l.runners.items + l.counter ≡ l.end) × (l.fn.left.room + length l.runners.items ≡ l.left.room + length l.fn.runners.items)
    × (length l.fn.runners.items ≤ l.fn.left.room)
