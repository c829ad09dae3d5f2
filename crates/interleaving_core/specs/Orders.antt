-- A list of steps read in the order in which they are made
use Rattle.std.specs.Prelude.{◌≡◌, ℕ, List, [], ◌∷◌}
use Rattle.morph_base.specs.declared.plan.Plan.{Plan}
use Rattle.interleaving_core.specs.declared.event.CoreEvent.{CoreEvent}
use Rattle.interleaving_core.specs.Core.{Core}
use Rattle.interleaving_core.specs.Steps.{May, after}

-- The steps of the list, the first one first, can be made one after another from state b, and lead to state c
unfoldable pub Leads : Plan → ℕ → Core → List CoreEvent → Core → Type 0
Leads p cap b [] c = c ≡ b
Leads p cap b (e ∷ es) c = May p cap b e × Leads p cap (after p b e) es c
