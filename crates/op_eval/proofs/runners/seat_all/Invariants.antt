use Rattle.std.specs.Prelude.{◌≡◌, ◌+◌, ◌-◌, length}
use Rattle.op_words.specs.Hands.{view_of}
use Rattle.op_eval.proofs.Seating.{IsSeating, AreBegun}
use Rattle.op_eval.proofs.runners.seat_all.Given as goal

abbrev pub invariant-hands : goal.invariant-hands
invariant-hands l =
    IsSeating l.board (view_of l.fn.root) (l.counter - 1) l.root l.runners.items
    × AreBegun l.fn.lists.items l.lists.items l.runners.items
    × (length l.lists.items + l.counter ≡ length l.fn.lists.items + 1)
    × (l.lists.room + 1 ≡ l.fn.lists.room + l.counter)
    × (l.runners.room + l.counter ≡ l.fn.runners.room + 1)
