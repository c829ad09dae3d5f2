use Rattle.std.proofs.Common.{ap}
use Rattle.chain_units.specs.Places.{Grouping}
use Rattle.chain_units.proofs.Entering.{stands_there}
use Rattle.chain_units.proofs.chained.Chained.place_of.Goals as goal

pub returns-clause-stands : goal.returns-clause-stands
returns-clause-stands c = (
  c.get.result.now.unit,
  stands_there _ c.args.self.now.units c.self.inside.places.items c.args.self.now.ops c.args.op c.get.result.now
      (ap (λ (g : Grouping). g.units) c.self.view_is) (ap (λ (g : Grouping). g.ops) c.self.view_is) c.requires (c.get.ensures.at (record { unit = 0; at = 0 })) c.self.invariant,
)
