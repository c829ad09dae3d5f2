use Rattle.std.specs.Prelude.{◌≡◌, ◌+◌, ◌≤◌, ◌++◌, length, reverse}
use Rattle.op_eval.specs.Gathering.{runners_of, spare, HasPlaces}
use Rattle.morph_engine.proofs.crew.bring_back.Given as goal

abbrev pub invariant-back : goal.invariant-back
invariant-back l =
    (runners_of l.fn.runners ++ reverse l.fn.waiting.items ≡ runners_of l.runners ++ reverse l.waiting.items)
    × (length l.waiting.items ≤ spare l.runners)
    × (HasPlaces l.fn.runners → HasPlaces l.runners)
    × (length l.waiting.items + l.counter ≡ length l.fn.waiting.items)
