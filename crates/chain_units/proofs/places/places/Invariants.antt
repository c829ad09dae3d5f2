use Rattle.std.proofs.Common.{◌≡◌, length, map}
use Rattle.chain_units.specs.Places.{AreEntered}
use Rattle.chain_units.proofs.places.places.Given as goal

abbrev pub invariant-loop-u : goal.invariant-loop-u
invariant-loop-u l = record {
  len : length l.places.items ≡ l.fn.ops;
  entered : AreEntered (map (λ unit. unit.items) l.units.items) l.u 0 l.places.items;
}
