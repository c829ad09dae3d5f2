use Rattle.std.specs.Prelude.{◌≡◌, ◌+◌, ◌++◌, length, reverse}
use Rattle.op_eval.specs.Gathering.{runners_of, spare, HasPlaces}
use Rattle.morph_engine.proofs.crew.set_aside.Given as goal

abbrev pub invariant-aside : goal.invariant-aside
invariant-aside l =
    (runners_of l.fn.runners ≡ runners_of l.runners ++ reverse l.waiting.items)
    × (length l.waiting.items ≡ l.counter)
    × (spare l.runners ≡ spare l.fn.runners + l.counter)
    × (HasPlaces l.fn.runners → HasPlaces l.runners)
    × (l.waiting.room + l.counter ≡ l.fn.waiting.room)
