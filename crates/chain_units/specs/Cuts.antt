-- Inside the crate: what a cut makes of operations
use Rattle.std.specs.Prelude.{[], ◌∷◌, map}
use Rattle.morph_base.specs.Graphs.{below}
use Rattle.chain_units.specs.declared.cut.Cut.{Cut}
use Rattle.chain_units.specs.declared.cut.Cut.TheVariants.{Alone, Chained}
use Rattle.chain_units.specs.Places.{Grouping}

-- The units of a cut, and how many operations they have
abbrev pub grouping_of : Cut → Grouping
grouping_of (Alone n) = record { units = map (λ o. o ∷ []) (below n); ops = n }
grouping_of (Chained g) = g
