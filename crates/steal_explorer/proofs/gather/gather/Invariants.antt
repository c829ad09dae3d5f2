use Rattle.std.specs.Prelude.{◌≡◌, ◌-◌, ◌≤◌, length}
use Rattle.steal_explorer.specs.Gathering.{AreHolding, AreTotals}
use Rattle.steal_explorer.proofs.gather.gather.Given as goal

abbrev pub invariant-loop-given : goal.invariant-loop-given
invariant-loop-given l = AreHolding l.thieves (l.count - l.given) l.members × AreTotals l.fn.members l.members × (length l.members ≡ l.count) × (l.given ≤ l.count)
