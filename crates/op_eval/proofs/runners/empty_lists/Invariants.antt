use Rattle.std.specs.Prelude.{◌≡◌, ◌+◌, ◌≤◌, [], All, length, max}
use Rattle.morph_base.specs.Limits.{most_workers}
use Rattle.op_eval.proofs.runners.empty_lists.Given as goal

abbrev pub invariant-lists : goal.invariant-lists
invariant-lists l =
    (length l.lists.items ≡ l.counter) × (l.lists.room + l.counter ≡ max l.count most_workers)
    × All (λ list. (list.items ≡ []) × (l.events ≤ list.room)) l.lists.items
