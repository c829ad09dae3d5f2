use Rattle.std.proofs.Common.{◌≡◌, length, map}
use Rattle.chain_units.specs.Places.{AreEntered}
use Rattle.chain_units.proofs.places.enter.Given as goal

abbrev pub invariant-loop-i : goal.invariant-loop-i
invariant-loop-i l = record {
  len : length l.places.items ≡ length l.initial.places.items;
  entered : AreEntered (map (λ unit. unit.items) l.units.items) l.u l.i l.places.items;
}
